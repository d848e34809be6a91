use Rattle.std.proofs.Common.{◌≡◌, map, length, take, drop, sym, ap, ◌∙◌, arith}
use Rattle.std.specs.List.{enumerate_from}
use Rattle.std.proofs.lemmas.List.{length-take-le}
use Rattle.std.proofs.lemmas.List.FromFn.{length-enumerate_from}
use Rattle.std.proofs.lemmas.Iterator.{YieldsList-from_take}
use Rattle.std.proofs.lemmas.Iterator.Consumers.{YieldsList-from_first, YieldsList-from_enumerate, YieldsList-end}
use Rattle.dayfile.specs.Format.{pairs}
use Rattle.dayfile.specs.Said.{numbers_of}
use Rattle.dayfile.proofs.Bytes.{length_pairs}
use Rattle.dayfile.proofs.Walks.{numbers_placed}
use Rattle.dayfile.proofs.read.unpack.Goals as goal
use Rattle.dayfile.proofs.read.unpack.Goals.{In-None}

-- all the numbers came, each with its place
came : (c : In-None) → (map (λ p. (p.0, p.1)) c.loop-i.yielded ≡ enumerate_from 0 (take c.min-count.result (pairs c.args.bytes.now))) × (length c.loop-i.yielded ≡ length (enumerate_from 0 (take c.min-count.result (pairs c.args.bytes.now))))
came c =
    YieldsList-end (YieldsList-from_enumerate (YieldsList-from_take c.min-count.result (YieldsList-from_first (λ x. x) numbers_of (pairs c.args.bytes.now) (cc)) (cc)) (cc))
    c.loop-i.yielded c.loop-i.i-iterator c.loop-i.yielded_by c.next.result c.next.new.self c.in-None.is c.next.ensures.steps

long : (c : In-None) → c.min-count.result ≡ length c.loop-i.yielded
long c =
    let xs = pairs c.args.bytes.now in
    let n = c.min-count.result in
    omega (arith, (came c).1, length-enumerate_from 0 (take n xs), length-take-le n xs (omega (arith, length_pairs c.args.bytes.now)))

pub returns-clause-front : goal.returns-clause-front
returns-clause-front c =
    let numbers = numbers_placed 0 (take c.min-count.result (pairs c.args.bytes.now)) c.loop-i.yielded (came c).0 in
    ap (λ k. take k c.loop-i.out) (long c) ∙ c.loop-i.invariant.0 ∙ numbers

pub returns-clause-rest : goal.returns-clause-rest
returns-clause-rest c = ap (λ k. drop k c.loop-i.out) (long c) ∙ c.loop-i.invariant.1 ∙ ap (λ k. drop k c.args.out.now) (sym (long c))

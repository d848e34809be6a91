use Rattle.std.proofs.Common.{◌≡◌, map, length, take, drop}
use Rattle.dayfile.proofs.read.unpack.Given as goal

abbrev pub invariant-loop-i : goal.invariant-loop-i
invariant-loop-i l = (take (length l.yielded) l.out ≡ map (λ p. p.1) l.yielded) × (drop (length l.yielded) l.out ≡ drop (length l.yielded) l.initial.out)

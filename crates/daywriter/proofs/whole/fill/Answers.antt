use Rattle.std.proofs.Common.{◌+◌, map, length, get_or, take, drop, sym, ap, ◌∙◌, subst, arith}
use Rattle.std.proofs.lemmas.List.{take_all}
use Rattle.store.specs.Refusals.Answer.{gives}
use Rattle.dayfile.specs.Format.{file_bytes}
use Rattle.daywriter.specs.Writing.{Closed}
use Rattle.daywriter.specs.Files.{written, Reads}
use Rattle.daywriter.specs.Stands.{wrote, writer}
use Rattle.daywriter.proofs.Runs.{Holds, Filling, filling_more, blank, rest_at, front_at, all_from, holds_closed, reads_back}
use Rattle.daywriter.proofs.whole.fill.Goals as goal

pub loop-e-preserved : goal.loop-e-preserved
loop-e-preserved c =
    let xs = c.args.entries.now in
    let i = c.loop-e.e-index in
    let r = c.args.records in
    let b = c.args.buf.now in
    let done = map wrote (take i xs) in
    let left = map wrote (drop (i + 1) xs) in
    let w = writer c.loop-e.progress c.loop-e.buf in
    let v = writer c.put.new.self c.put.new.buf in
    subst (λ l. Filling b r l left v) (sym (front_at xs i (omega arith)))
    (filling_more b r done left w (wrote (get_or xs i blank)) (subst (λ l. Filling b r done l w) (rest_at xs i (omega arith)) c.loop-e.invariant) v c.put.ensures)

pub returns : goal.returns
returns c =
    let r = c.args.records in
    let b = c.args.buf.now in
    let xs = c.args.entries.now in
    let es = map wrote xs in
    let w = writer c.loop-e.progress c.loop-e.buf in
    let holds : Holds b r es w = subst (λ l. Holds b r (map wrote l) w) (take_all c.loop-e.e-index xs (omega arith)) c.loop-e.invariant.holds in
    let closed = c.close.ensures ∙ holds_closed b r es w holds in
    let began = (all_from (length b) r es c.requires.0 c.requires.1).0 in
    record {
      answer = ap (λ (x : Closed). (gives x.len, x.bytes)) closed ∙ sym (ap (written b (file_bytes r es)) c.requires.1);
      reads = subst (λ (x : Closed). Reads (take x.len x.bytes) r es) (sym closed) (reads_back b r es w began.some began.few holds);
    }

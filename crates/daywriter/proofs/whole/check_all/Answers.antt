use Rattle.std.proofs.Common.{◌+◌, map, get_or, drop, sym, ap, ◌∙◌, arith}
use Rattle.std.proofs.lemmas.Result.{err_from_is_err_and}
use Rattle.daywriter.specs.Files.{taken_all}
use Rattle.daywriter.specs.Stands.{wrote, extent_of}
use Rattle.daywriter.proofs.Runs.{take_not, blank, rest_at}
use Rattle.daywriter.proofs.whole.check_all.Goals as goal

pub returns-in_err-check : goal.returns-in_err-check
returns-in_err-check c =
    let xs = c.args.entries.now in
    let i = c.loop-e.e-index in
    let x = extent_of c.loop-e.progress in
    let p = err_from_is_err_and c.from_residual-in_err-check.result c.from_residual-in_err-check.ensures.1 in
    rw (p.1, p.2) (take_not c.args.room x (wrote (get_or xs i blank)) (map wrote (drop (i + 1) xs)) _ c.in_err-check.ensures ∙ ap (taken_all c.args.room x) (sym (rest_at xs i (omega arith))) ∙ c.loop-e.invariant)

use Rattle.std.proofs.Common.{◌≡◌, ◌++◌, map, drop, vec_items}
use Rattle.std.specs.Slice.Iter.{iter_rest}
use Rattle.runs.specs.Outcomes.{replies_of}
use Rattle.sheet.specs.Answers.{replied}
use Rattle.sheet.specs.Faults.{told}
use Rattle.sheet.specs.Stretches.{beside}
use Rattle.sheet.proofs.play.add_responses.Given as goal

abbrev pub invariant-loop-item : goal.invariant-loop-item
invariant-loop-item l =
    map told (vec_items l.responses) ++ beside (map told (drop l.item-index l.items)) (map replied (replies_of (iter_rest l.left)))
    ≡ map told (vec_items l.initial.responses) ++ beside (map told l.items) (map replied (replies_of l.answers))

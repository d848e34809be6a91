use Rattle.std.proofs.Common.{◌≡◌}
use Rattle.certifier.specs.Marking.{Changes}
use Rattle.certifier.proofs.marks.Marks.change_each.Given as goal

abbrev pub invariant-loop-n : goal.invariant-loop-n
invariant-loop-n g l = (l.self.places ≡ l.initial.self.places) × Changes (goal.F-post g l.change) l.initial.self.rows.items l.yielded l.self.rows.items

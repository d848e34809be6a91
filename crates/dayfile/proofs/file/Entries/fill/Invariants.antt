use Rattle.std.proofs.Common.{◌≡◌, is_some}
use Rattle.dayfile.specs.Said.{walk_of}
use Rattle.dayfile.proofs.Walks.{to_come}
use Rattle.dayfile.proofs.file.Entries.fill.Given as goal

abbrev pub invariant-loop : goal.invariant-loop
invariant-loop l = is_some (to_come (walk_of l.self)) ≡ is_some (to_come (walk_of l.initial.self))

abbrev pub decreases-loop : goal.decreases-loop
decreases-loop l = l.self.left

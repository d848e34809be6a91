use Rattle.std.proofs.Common.{sym, ◌∙◌}
use Rattle.dayfile.specs.Said.{walk_of}
use Rattle.dayfile.proofs.Walks.{step_on}
use Rattle.dayfile.proofs.file.Entries.fill.Goals as goal

pub loop-preserved : goal.loop-preserved
loop-preserved c = step_on c.next.result (walk_of c.loop.self) (walk_of c.next.new.self) (sym c.is_some.ensures ∙ c.loop-test.true) c.next.ensures.steps ∙ c.loop.invariant

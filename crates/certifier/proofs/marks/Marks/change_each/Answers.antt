use Rattle.std.proofs.Common.{rules}
use Rattle.certifier.proofs.marks.Marks.change_each.Goals as goal

pub returns-clause-rows : goal.returns-clause-rows
returns-clause-rows g c = (c.loop-n.yielded, search rules, c.loop-n.invariant.1)

pub returns-clause-places : goal.returns-clause-places
returns-clause-places g c = c.loop-n.invariant.0

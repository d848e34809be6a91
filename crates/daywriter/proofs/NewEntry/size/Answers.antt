use Rattle.std.proofs.Common.{sym}
use Rattle.daywriter.proofs.Overs.{length_entry}
use Rattle.daywriter.specs.Stands.{wrote}
use Rattle.daywriter.proofs.NewEntry.size.Goals as goal

pub returns-clause-exact : goal.returns-clause-exact
returns-clause-exact c = sym (length_entry (wrote c.args.self.now))

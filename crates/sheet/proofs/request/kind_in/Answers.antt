use Rattle.std.proofs.Common.{codes, arith, rules}
use Rattle.sheet.proofs.Spelled.{spelled}
use Rattle.sheet.proofs.request.kind_in.Goals as goal

pub returns-in-newest : goal.returns-in-newest
returns-in-newest c = rw (spelled (codes "newest") c.args.bytes.now 0 (omega arith) (search rules))

pub returns-in-snapshot : goal.returns-in-snapshot
returns-in-snapshot c = rw (spelled (codes "snapshot") c.args.bytes.now 0 (omega arith) (search rules))

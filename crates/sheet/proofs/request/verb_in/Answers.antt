use Rattle.std.proofs.Common.{codes, arith, rules}
use Rattle.sheet.proofs.Spelled.{spelled}
use Rattle.sheet.proofs.request.verb_in.Goals as goal

pub returns-in-open : goal.returns-in-open
returns-in-open c = rw (spelled (codes "open") c.args.bytes.now 0 (omega arith) (search rules))

pub returns-in-begin : goal.returns-in-begin
returns-in-begin c = rw (spelled (codes "begin") c.args.bytes.now 0 (omega arith) (search rules))

pub returns-in-read : goal.returns-in-read
returns-in-read c = rw (spelled (codes "read") c.args.bytes.now 0 (omega arith) (search rules))

pub returns-in-write : goal.returns-in-write
returns-in-write c = rw (spelled (codes "write") c.args.bytes.now 0 (omega arith) (search rules))

pub returns-in-commit : goal.returns-in-commit
returns-in-commit c = rw (spelled (codes "commit") c.args.bytes.now 0 (omega arith) (search rules))

pub returns-in-drop : goal.returns-in-drop
returns-in-drop c = rw (spelled (codes "drop") c.args.bytes.now 0 (omega arith) (search rules))

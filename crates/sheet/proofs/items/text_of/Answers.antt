use Rattle.std.proofs.Common.{◌-◌, length, arith}
use Rattle.sheet.proofs.Lines.{ended_text, unended}
use Rattle.sheet.proofs.items.text_of.Goals as goal

pub returns-in-10 : goal.returns-in-10
returns-in-10 c = ended_text c.args.sheet.now (length c.args.sheet.now - 1) (omega arith) (omega arith)

pub returns-in_default : goal.returns-in_default
returns-in_default c = unended 10 c.args.sheet.now (length c.args.sheet.now - 1) (omega arith) (λ e. omega arith)

use Rattle.std.proofs.Common.{map}
use Rattle.sheet.specs.Faults.{told}
use Rattle.sheet.proofs.Untils.{calm}
use Rattle.sheet.proofs.opening.stretch_of.Goals as goal

pub invariant_of-result : goal.invariant_of-result
invariant_of-result c = record { one_log = calm _ (map told c.in_ok-first.more.now) c.split_at_open.ensures.front }

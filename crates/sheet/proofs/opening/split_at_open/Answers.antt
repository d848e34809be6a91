use Rattle.std.proofs.Common.{map, arith}
use lib.ListN.{length-map}
use Rattle.sheet.specs.Faults.{told}
use Rattle.sheet.proofs.Untils.{place_within}
use Rattle.sheet.proofs.opening.split_at_open.Goals as goal

pub split_at-requires : goal.split_at-requires
split_at-requires c = let within = place_within (map told c.args.items.now) in omega (arith, length-map c.args.items.now told, c.until_open.ensures)

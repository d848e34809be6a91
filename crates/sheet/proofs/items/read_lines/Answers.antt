use Rattle.std.proofs.Common.{◌≡◌, false, refl, ◌==◌, arith, rules}
use Rattle.std.specs.Iterator.Adapters.{map_source}
use Rattle.std.specs.Slice.Iter.{split_rest, split_done}
use borrow.Author.Tests.{tests}
use Rattle.std.proofs.lemmas.Grind.{common_steps}
use Rattle.std.proofs.lemmas.Iterator.{YieldsList-from_map_by}
use Rattle.std.proofs.lemmas.Iterator.Consumers.{map_from_collect}
use Rattle.std.proofs.lemmas.Iterator.Splits.{YieldsList-from_slice_split}
use Rattle.sheet.specs.Faults.{told}
use Rattle.sheet.specs.Requests.{request_of}
use Rattle.sheet.proofs.items.read_lines.Goals as goal

pub returns : goal.returns
returns c =
    let rest : split_rest (map_source c.map.result) ≡ c.in-Some.text.now = grind (arith, common_steps) in
    let fresh : split_done (map_source c.map.result) ≡ false = grind (arith, common_steps) in
    rw c.in-Some.ensures
    (map_from_collect c.collect.result c.collect.ensures.ran
    (YieldsList-from_map_by _ told request_of
    (YieldsList-from_slice_split _ (λ b. b == 10) c.in-Some.text.now rest fresh refl (λ x r q k. search (rules, tests)))
    c.map.ensures.closure (λ x r q k. search rules)))

use Rattle.std.proofs.Common.{◌∙◌, Result, sym, rules}
use borrow.Author.Tests.{tests}
use Rattle.std.proofs.lemmas.Iterator.{YieldsList-from_slice}
use Rattle.std.proofs.lemmas.Iterator.Search.{position_from_yields_List}
use Rattle.sheet.specs.declared.fault.Fault.{Fault}
use Rattle.sheet.specs.declared.request.Request.{Request}
use Rattle.sheet.specs.Faults.{told}
use Rattle.sheet.specs.Stretches.{opens}
use Rattle.sheet.proofs.Places.{place_found, position_map}
use Rattle.sheet.proofs.opening.until_open.Goals as goal

pub returns : goal.returns
returns c =
    let items = c.args.items.now in
    let test = λ (x : Result Request Fault). opens (told x) in
    place_found test items c.position.result c.unwrap_or.result
    (position_from_yields_List test _ _ c.position.result c.position.ensures.ran (YieldsList-from_slice items c.iter.ensures.rest) (λ x b q k. search (rules, tests)))
    c.unwrap_or.ensures
    ∙ sym (position_map opens told items)

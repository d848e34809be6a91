use Rattle.std.proofs.Common.{arith, rules, ◌==◌, ap, ◌∙◌, refl}
use borrow.Author.Tests.{tests}
use Rattle.std.proofs.lemmas.Grind.{common_steps}
use Rattle.std.proofs.lemmas.Iterator.{YieldsList-from_slice}
use Rattle.std.proofs.lemmas.Iterator.Search.{position_from_yields_List}
use Rattle.std.specs.ControlFlow.{continue_value}
use Rattle.sheet.specs.Walks.{words_left}
use Rattle.sheet.proofs.Places.{place_found}
use Rattle.sheet.proofs.Words.{first_word}
use Rattle.sheet.proofs.line.walk.WordsIterator.next.Goals as goal

pub returns-clause-steps : goal.returns-clause-steps
returns-clause-steps c =
    let s = c.args.self.now in
    let rest = c.in_ok-rest.rest.now in
    let at = position_from_yields_List (λ b. b == 32) _ _ c.position.result c.position.ensures.ran (YieldsList-from_slice rest c.iter.ensures.rest) (λ x b q k. search (rules, tests)) in
    let is = c.branch-rest.ensures ∙ ap continue_value c.in_ok-rest.is in
    let left = ap (words_left s.end) is
    ∙ first_word s.end rest c.unwrap_or-cut.result _ c.get-self.result (s.within c.in_ok-rest.rest is) (place_found (λ b. b == 32) rest c.position.result c.unwrap_or-cut.result at c.unwrap_or-cut.ensures) c.get-self.ensures.lookup.0 (omega arith) in
    (grind (arith, common_steps), search rules, refl)

pub returns-clause-goes : goal.returns-clause-goes
returns-clause-goes c = let h = returns-clause-steps c in search rules

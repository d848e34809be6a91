-- Distinct numbers below n are no more than n.
use Rattle.std.proofs.Common.{◌≡◌, ℕ, ◌<◌, false, eqb, List, [], ◌∷◌, ◌++◌, length, get_or, sym, ap, ◌∙◌, inl, inr, arith}
use Rattle.std.proofs.lemmas.Bool.{eqb-true, ne_eqb, cases_Bool}
use Rattle.std.proofs.lemmas.Cmp.{nat_eq_equiv}
use Rattle.std.proofs.lemmas.List.{length_push, get_or_default}
use Rattle.std.proofs.lemmas.List.Elements.{All-push, All-contains}
use Rattle.std.proofs.lemmas.Map.Keys.{IsDistinct-from_apart, IsDistinct-push}
use Rattle.std.proofs.lemmas.Map.Views.{Contains-from_any}
use Rattle.std.proofs.lemmas.Map.Steps.{length-le_from_distinct_below}
use Rattle.std.specs.List.{All, IsDistinct, list_any}

-- numbers below n that g leads back to their places, and one more that is not among them
pub room_for_more : (n r : ℕ) (xs : List ℕ) (g : ℕ → ℕ) → All (λ x. x < n) xs → ((j : ℕ) → j < length xs → g (get_or xs j 0) ≡ j)
    → r < n → ((j : ℕ) → j < length xs → get_or xs j 0 ≡ r → ⊥) → length xs < n
room_for_more n r xs g below back l none =
    let P : ℕ → Type 0 = λ x. x < n in
    let distinct : IsDistinct eqb xs = IsDistinct-from_apart eqb xs (λ i j d low high. ne_eqb _ _ (λ e.
    (let a = back i (omega arith) in
    let b = back j high in
    let x = get_or_default xs i d 0 (omega arith) in
    let y = get_or_default xs j d 0 high in
    let z = ap g (sym x ∙ e ∙ y) in
    omega arith))) in
    let new : list_any (eqb r) xs ≡ false = elim (cases_Bool (list_any (eqb r) xs)) [
      | inl yes' ↦ (let c = Contains-from_any {eq = eqb} (λ x y h. eqb-true x y h) r xs yes' in absurd (none c.0 c.1 (sym (get_or_default xs c.0 r 0 c.1) ∙ c.2)))
      | inr no' ↦ no'
    ] in
    let all = All-push P xs r below l in
    let most = length-le_from_distinct_below (xs ++ r ∷ []) n (IsDistinct-push nat_eq_equiv xs r distinct new) (λ q h. All-contains P _ q all (Contains-from_any {eq = eqb} (λ x y h. eqb-true x y h) q _ h)) in
    let long = length_push xs r in
    omega arith

-- The place of the first element that passes.
use Rattle.std.proofs.Common.{◌≡◌, ℕ, ◌+◌, Bool, not, cond, ltb, List, [], ◌∷◌, map, length, Some, None, Option, refl, ap, ◌∙◌, ⊎_elim, arith, lt-ltb, le-ltb}
use Rattle.std.specs.List.{position_or_len}
use Rattle.std.specs.Option.{unwrap_or}
use Rattle.std.proofs.lemmas.Bool.{cases_lt}
use Rattle.std.proofs.lemmas.List.Sums.{prefix_len-le-length}

-- the first place that passes, from what `position` answers
pub place_found : {X : Type 0} (p : X → Bool) (bs : List X) (found : Option ℕ) (cut : ℕ) → found ≡ cond (ltb (position_or_len p bs) (length bs)) (Some (position_or_len p bs)) None
    → cut ≡ unwrap_or found (length bs) → cut ≡ position_or_len p bs
place_found p bs found cut f e =
    let n = position_or_len p bs in
    let short = prefix_len-le-length (λ b. not (p b)) bs in
    let at = λ (t : Bool). unwrap_or (cond {A = Option ℕ} t (Some n) None) (length bs) in
    e ∙ ap (λ o. unwrap_or o (length bs)) f
    ∙ ⊎_elim (λ lt. ap at (lt-ltb n (length bs) lt)) (λ ge. let last : length bs ≡ n = omega arith in ap at (le-ltb n (length bs) ge) ∙ last) (cases_lt n (length bs))

-- the place of the first element that passes, seen through a function
pub position_map : {X Y : Type 0} (p : Y → Bool) (g : X → Y) (xs : List X) → position_or_len p (map g xs) ≡ position_or_len (λ x. p (g x)) xs
position_map p g [] = refl
position_map p g (x ∷ xs) = ap (λ n. cond (not (p (g x))) (1 + n) 0) (position_map p g xs)

-- A list that is spelled out.
use Rattle.std.proofs.Common.{◌≡◌, ℕ, ◌+◌, List, [], ◌∷◌, length, get_or, drop, ap, ◌∙◌, arith}
use Rattle.std.proofs.lemmas.List.{drop_all, at_drop_more}

-- from place i on the list has these elements
abbrev pub Spells : List ℕ → ℕ → List ℕ → Type 0
Spells w i [] = Unit {0}
Spells w i (b ∷ bs) = (get_or w i 0 ≡ b) × Spells w (i + 1) bs

pub spelled : (bs w : List ℕ) (i : ℕ) → length w ≡ i + length bs → Spells w i bs → drop i w ≡ bs
spelled [] w i l s = drop_all i w (omega arith)
spelled (b ∷ bs) w i l s =
    at_drop_more (λ v. v) w i 0 (omega arith) ∙ ap (λ x. x ∷ drop (i + 1) w) s.0 ∙ ap (λ v. b ∷ v) (spelled bs w (i + 1) (omega arith) s.1)

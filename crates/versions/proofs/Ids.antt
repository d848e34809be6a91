-- What the answer of `!=` says of two consoles.
use Rattle.std.proofs.Common.{◌≡◌, ℕ, true, false, not, eqb, ap, sym, ◌∙◌, ⊎_elim, true≢false}
use Rattle.std.proofs.lemmas.Bool.{eq-eqb}
use Rattle.std.proofs.lemmas.Bool.Decides.{eqb_tells}

-- they have different numbers
pub different : (a b : ℕ) → true ≡ not (eqb a b) → a ≡ b → ⊥
different a b h e = true≢false (h ∙ ap not (eq-eqb a b e))

-- they have the same number
pub alike : (a b : ℕ) → false ≡ not (eqb a b) → a ≡ b
alike a b h = ⊎_elim (λ p. p.1) (λ q. absurd (true≢false (sym (h ∙ ap not q.0)))) (eqb_tells a b)

-- Lists of pending entries: which records they name, and what a write makes of them.
use Rattle.std.proofs.Common.{◌≡◌, ℕ, zero, suc, ◌+◌, ◌<◌, ◌≤◌, true, false, List, [], ◌∷◌, ◌++◌, length, get_or, set, Some, None, Option, refl, ap, ◌∙◌, inl, inr, arith}
use Rattle.std.proofs.lemmas.Bool.{eqb-true, eq-eqb, ne_eqb, cond-true, cond-false, or_cases, or_parts, or_left, or_right, or_from, cases_Bool, both_ways}
use Rattle.store.specs.declared.Pending.{Pending}
use Rattle.store.specs.Meaning.{Console, own_at, holds, replaced, pending_list, any_holds, pending_in}
use Rattle.store.specs.Consoles.{pend_at, ats}

module _ {E : Type 0} where
  pub holds_yes : (ps : List (Pending E)) (r j : ℕ) → j < length (ats ps) → get_or (ats ps) j 0 ≡ r → holds ps r ≡ true
  holds_yes [] r j l q = absurd (omega arith)
  holds_yes (p ∷ ps) r zero l q = or_left _ _ (eq-eqb _ _ q)
  holds_yes (p ∷ ps) r (suc j) l q = or_right _ _ (holds_yes ps r j (omega arith) q)

  pub holds_where : (ps : List (Pending E)) (r : ℕ) → holds ps r ≡ true → (j : ℕ) × (j < length (ats ps)) × (get_or (ats ps) j 0 ≡ r)
  holds_where [] r h = absurd (both_ways false refl h)
  holds_where (p ∷ ps) r h =
      elim (or_cases _ _ h) [
        | inl here ↦ (0, omega arith, eqb-true _ _ here)
        | inr there ↦ (let w = holds_where ps r there in (suc w.0, (let l = w.1 in omega arith), w.2))
      ]

  -- at the only entry of record r
  pub own_is : (ps : List (Pending E)) (r j : ℕ) (d : Pending E) → j < length (ats ps) → get_or (ats ps) j 0 ≡ r
      → ((i : ℕ) → i < length (ats ps) → get_or (ats ps) i 0 ≡ r → i ≡ j) → own_at ps r ≡ Some (get_or ps j d).entry
  own_is [] r j d l q one = absurd (omega arith)
  own_is (p ∷ ps) r zero d l q one = cond-true _ _ _ (eq-eqb _ _ q)
  own_is (p ∷ ps) r (suc j) d l q one =
      cond-false _ _ _ (ne_eqb _ _ (λ h. let z = one 0 (omega arith) h in omega arith))
      ∙ own_is ps r j d (omega arith) q (λ i m h. let s = one (suc i) (omega arith) h in omega arith)

  pub own_none : (ps : List (Pending E)) (r : ℕ) → holds ps r ≡ false → own_at ps r ≡ None
  own_none [] r h = refl
  own_none (p ∷ ps) r h = let b = or_parts _ _ h in cond-false _ _ _ b.0 ∙ own_none ps r b.1

  pub replaced_is : (ps : List (Pending E)) (r j : ℕ) (e : E) → j < length (ats ps) → get_or (ats ps) j 0 ≡ r
      → ((i : ℕ) → i < length (ats ps) → get_or (ats ps) i 0 ≡ r → i ≡ j) → replaced ps r e ≡ set ps j (record { at = r; entry = e })
  replaced_is [] r j e l q one = absurd (omega arith)
  replaced_is (p ∷ ps) r zero e l q one = cond-true _ _ _ (eq-eqb _ _ q)
  replaced_is (p ∷ ps) r (suc j) e l q one =
      cond-false _ _ _ (ne_eqb _ _ (λ h. let z = one 0 (omega arith) h in omega arith))
      ∙ ap (λ w. p ∷ w) (replaced_is ps r j e (omega arith) q (λ i m h. let s = one (suc i) (omega arith) h in omega arith))

  pub replaced_push : (ps : List (Pending E)) (r : ℕ) (e : E) → holds ps r ≡ false → replaced ps r e ≡ ps ++ record { at = r; entry = e } ∷ []
  replaced_push [] r e h = refl
  replaced_push (p ∷ ps) r e h = let b = or_parts _ _ h in cond-false _ _ _ b.0 ∙ ap (λ w. p ∷ w) (replaced_push ps r e b.1)

  pub any_none : (cs : List (Option (Console E))) (r : ℕ) → ((k : ℕ) → holds (pend_at cs k) r ≡ false) → any_holds cs r ≡ false
  any_none [] r h = refl
  any_none (c ∷ cs) r h = or_from _ _ (h 0) (any_none cs r (λ k. h (suc k)))

  pub any_some : (cs : List (Option (Console E))) (r k : ℕ) → holds (pend_at cs k) r ≡ true → any_holds cs r ≡ true
  any_some [] r k h = h
  any_some (c ∷ cs) r zero h = or_left _ _ h
  any_some (c ∷ cs) r (suc k) h = or_right _ _ (any_some cs r k h)

  pub none_any : (cs : List (Option (Console E))) (r k : ℕ) → any_holds cs r ≡ false → holds (pend_at cs k) r ≡ false
  none_any cs r k h = elim (cases_Bool (holds (pend_at cs k) r)) [ inl yes' ↦ absurd (both_ways _ h (any_some cs r k yes')) | inr no' ↦ no' ]

  pub pending_set : (cs : List (Option (Console E))) (k : ℕ) (c : Option (Console E)) → k < length cs
      → pending_in (set cs k c) + length (pend_at cs k) ≡ pending_in cs + length (pending_list c)
  pending_set [] k c l = absurd (omega arith)
  pending_set (x ∷ cs) zero c l = omega arith
  pending_set (x ∷ cs) (suc k) c l = let rest = pending_set cs k c (omega arith) in omega arith

  pub pending_part : (cs : List (Option (Console E))) (k : ℕ) → length (pend_at cs k) ≤ pending_in cs
  pending_part [] k = omega arith
  pending_part (x ∷ cs) zero = omega arith
  pending_part (x ∷ cs) (suc k) = let rest = pending_part cs k in omega arith

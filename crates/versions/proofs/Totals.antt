-- How many entries are pending, when one console changes.
use Rattle.std.proofs.Common.{◌≡◌, ℕ, suc, ◌+◌, ◌<◌, true, false, eqb, List, [], ◌∷◌, length, get_or, Some, None, Option, refl, ap, ◌∙◌, inl, inr, arith}
use Rattle.std.proofs.lemmas.List.{length_push}
use Rattle.std.proofs.lemmas.Bool.{or_cases, cases_Bool, cond-true, cond-false, both_ways}
use Rattle.store.specs.declared.Pending.{Pending}
use Rattle.versions.specs.declared.sessions.Sessions.{Sessions}
use Rattle.store.specs.Meaning.{Console, holds, replaced, wrote, pending_list, pending_in, any_holds}
use Rattle.store.specs.Consoles.{pend_at}
use Rattle.versions.specs.Sessions.{consoles_of, ChangesConsole}
use Rattle.store.proofs.Pendings.{replaced_push, pending_set, none_any}
use Rattle.versions.proofs.Kepts.{sixteen_consoles}

module _ {E : Type 0} where
  replaced_long : (ps : List (Pending E)) (r : ℕ) (e : E) → holds ps r ≡ true → length (replaced ps r e) ≡ length ps
  replaced_long [] r e h = absurd (both_ways false refl h)
  replaced_long (p ∷ ps) r e h =
      elim (cases_Bool (eqb p.at r)) [
        | inl here ↦ ap length (cond-true _ _ _ here)
        | inr there ↦
            (ap length (cond-false _ _ _ there)
            ∙ ap suc (replaced_long ps r e (elim (or_cases _ _ h) [ inl here ↦ absurd (both_ways _ there here) | inr rest ↦ rest ])))
      ]

  rewrote_long : (c : Option (Console E)) (r : ℕ) (e : E) → holds (pending_list c) r ≡ true → length (pending_list (wrote c r e)) ≡ length (pending_list c)
  rewrote_long None r e h = absurd (both_ways false refl h)
  rewrote_long (Some c) r e h = replaced_long c.pending r e h

  -- what the console had before and what it has now make the difference
  pub total : {a b : Sessions E} {k : ℕ} {c : Option (Console E)} → ChangesConsole a b k c → k < 16 → pending_in (consoles_of b) + length (pend_at (consoles_of a) k) ≡ pending_in (consoles_of a) + length (pending_list c)
  total {a} {b} {k} {c} change near =
      let n = sixteen_consoles a in
      let t = pending_set (consoles_of a) k c (omega arith) in
      let p = ap pending_in change.consoles in
      omega arith

  -- a console that holds an entry of the record has as many when that entry is replaced
  pub total_same : {a b : Sessions E} {k : ℕ} (r : ℕ) (e : E) → ChangesConsole a b k (wrote (get_or (consoles_of a) k None) r e) → k < 16 → holds (pend_at (consoles_of a) k) r ≡ true → pending_in (consoles_of b) ≡ pending_in (consoles_of a)
  total_same {a} {b} {k} r e change near own =
      let t = total change near in
      let z = rewrote_long (get_or (consoles_of a) k None) r e own in
      omega arith

  -- one more, where no console held an entry of the record
  pub total_more : {a b : Sessions E} {k : ℕ} (r : ℕ) (e : E) → ChangesConsole a b k (wrote (get_or (consoles_of a) k None) r e) → k < 16 → any_holds (consoles_of a) r ≡ false
      → (c : Console E) → get_or (consoles_of a) k None ≡ Some c → pending_in (consoles_of b) ≡ pending_in (consoles_of a) + 1
  total_more {a} {b} {k} r e change near none c is =
      let t = total change near in
      let list = ap pending_list is in
      let free = none_any (consoles_of a) r k none in
      let more = replaced_push c.pending r e (rw list at free) in
      let z = ap (λ x. length (pending_list (wrote x r e))) is ∙ ap length more ∙ length_push c.pending (record { at = r; entry = e }) in
      let y = ap length list in
      omega arith

-- What the consoles keep, when one of them changes.
use Rattle.std.proofs.Common.{◌≡◌, ℕ, ◌<◌, false, ◌≢◌, List, [], ◌∷◌, ◌++◌, map, length, get_or, set, Some, None, vec_items, Option, sym, refl, ap, ◌∙◌, subst, inl, inr, arith}
use Rattle.std.proofs.lemmas.List.{get_or-set_same, get_or-set_other, length-set, length-map, map-set, get_or-map, nil_from_length, length_push, get_or_push, get_or_append_left}
use Rattle.std.proofs.lemmas.Bool.{cases_eq, cases_Bool, both_ways}
use Rattle.store.specs.declared.Pending.{Pending}
use Rattle.versions.specs.declared.session.Session.{Session}
use Rattle.versions.specs.declared.session.Hold.{Hold}
use Rattle.store.specs.Meaning.{Console, holds, pending_list, any_holds}
use Rattle.store.specs.Consoles.{ats, pend_at, records_at}
use Rattle.versions.specs.Session.{console_held, place_held, console_with, console_of, consoles_from, spare, Empty, Listed, Held, Placed}
use Rattle.store.proofs.Pendings.{holds_yes, holds_where, any_none, none_any}

-- the records of console k lead back to their places
abbrev pub Back : List Hold → ℕ → List ℕ → Type 0
Back hs k rs = (j : ℕ) → j < length rs → (get_or rs j 0 < length hs) × (console_held hs (get_or rs j 0) ≡ k) × (place_held hs (get_or rs j 0) ≡ j)

-- what the holds say of record r, when one of them is written
module _ (f : Hold → ℕ) (hs : List Hold) (r : ℕ) (h : Hold) where
  held_same : r < length hs → get_or (map f (set hs r h)) r 0 ≡ f h
  held_same l = ap (λ xs. get_or xs r 0) (map-set f hs r h) ∙ get_or-set_same (map f hs) r (f h) 0 (simp length-map l)

  held_other : (i : ℕ) → i ≢ r → get_or (map f (set hs r h)) i 0 ≡ get_or (map f hs) i 0
  held_other i n = ap (λ xs. get_or xs i 0) (map-set f hs r h) ∙ get_or-set_other (map f hs) r i (f h) 0 n

module _ {E : Type 0} where
  abbrev pub Backs : List Hold → List (Option (Console E)) → Type 0
  Backs hs cs = (k : ℕ) → Back hs k (records_at cs k)

  pub backs : (hs : List Hold) (cs : List (Option (Console E))) → Listed hs cs → Held hs cs → Placed hs cs → Backs hs cs
  backs hs cs a b c k j l = (a k j 0 l, b k j l, c k j l)

  pub with_list : (b : Option ℕ) (ps : List (Pending E)) → spare b ps ≡ 0 → pending_list (console_with b ps) ≡ ps
  with_list None ps h = sym (nil_from_length ps h)
  with_list (Some b) ps h = refl

  -- the console at k, of which the session x is
  pub console_is : (ds : List (Session E)) (k : ℕ) (x : Session E) → k < length ds → x ≡ get_or ds k x → get_or (consoles_from ds) k None ≡ console_of x
  console_is ds k x l q = get_or-map console_of ds k x None l ∙ ap console_of (sym q)

  pub pend_is : (ds : List (Session E)) (k : ℕ) (x : Session E) → Empty ds → k < length ds → x ≡ get_or ds k x → pend_at (consoles_from ds) k ≡ vec_items x.pending
  pend_is ds k x empty l q =
      let e : spare x.began (vec_items x.pending) ≡ 0 = rw (sym q) at (empty k x l) in
      ap pending_list (console_is ds k x l q) ∙ with_list x.began (vec_items x.pending) e

  records_same : (cs : List (Option (Console E))) (k : ℕ) (c : Option (Console E)) → k < length cs → records_at (set cs k c) k ≡ ats (pending_list c)
  records_same cs k c l = ap (λ x. ats (pending_list x)) (get_or-set_same cs k c None l)

  records_other : (cs : List (Option (Console E))) (k i : ℕ) (c : Option (Console E)) → i ≢ k → records_at (set cs k c) i ≡ records_at cs i
  records_other cs k i c n = ap (λ x. ats (pending_list x)) (get_or-set_other cs k i c None n)

  pub backs_set : (hs : List Hold) (cs : List (Option (Console E))) (k : ℕ) (c : Option (Console E)) → k < length cs → ((i : ℕ) → Back hs i (records_at cs i)) → Back hs k (ats (pending_list c)) → Backs hs (set cs k c)
  backs_set hs cs k c l others this i =
      elim (cases_eq i k) [
        | inl here ↦ (let P : List ℕ → Type 0 = λ rs. Back hs i rs in
            let v : records_at (set cs k c) i ≡ ats (pending_list c) = rw here (records_same cs k c l) in
            let t : Back hs i (ats (pending_list c)) = rw here this in subst P (sym v) t)
        | inr there ↦ (let P : List ℕ → Type 0 = λ rs. Back hs i rs in subst P (sym (records_other cs k i c there)) (others i))
      ]

  -- a hold is written for record r, which had no entry: what others lead back to, and the console with the new entry at its end
  module _ (hs : List Hold) (cs : List (Option (Console E))) (r : ℕ) (h : Hold) (within : r < length hs) (all : Backs hs cs) (none : any_holds cs r ≡ false) where
    pub back_old : (i : ℕ) → Back (set hs r h) i (records_at cs i)
    back_old i j m =
        let size = length-set hs r h in
        let b = all i j m in
        let ne : get_or (records_at cs i) j 0 ≢ r = (λ e. both_ways _ (none_any cs r i none) (holds_yes (pend_at cs i) r j m e)) in
        ((let x = b.0 in omega arith), held_other (λ x. x.console.number) hs r h _ ne ∙ b.1, held_other (λ x. x.place) hs r h _ ne ∙ b.2)

    pub back_new : (k : ℕ) → h.console.number ≡ k → h.place ≡ length (records_at cs k) → Back (set hs r h) k (records_at cs k ++ r ∷ [])
    back_new k console place j m =
        let size = length-set hs r h in
        let more = length_push (records_at cs k) r in
        elim (cases_eq j h.place) [
          | inl here ↦
              (let v : get_or (records_at cs k ++ r ∷ []) j 0 ≡ r = get_or_push (records_at cs k) r 0 j (omega arith) in
              (omega arith, ap (console_held (set hs r h)) v ∙ held_same (λ x. x.console.number) hs r h within ∙ console, ap (place_held (set hs r h)) v ∙ held_same (λ x. x.place) hs r h within ∙ sym here))
          | inr there ↦
              (let below : j < length (records_at cs k) = omega arith in
              let v : get_or (records_at cs k ++ r ∷ []) j 0 ≡ get_or (records_at cs k) j 0 = get_or_append_left (records_at cs k) (r ∷ []) 0 j below in
              rw v (back_old k j below))
        ]

  -- a hold that leads to no entry of record r: there is none
  pub found_none : (hs : List Hold) (cs : List (Option (Console E))) (r : ℕ) (h : Hold) → h ≡ get_or hs r h → r < length hs → Backs hs cs
      → (h.place < length (records_at cs h.console.number) → get_or (records_at cs h.console.number) h.place 0 ≡ r → ⊥) → any_holds cs r ≡ false
  found_none hs cs r h q l all not = any_none cs r (λ k.
      elim (cases_Bool (holds (pend_at cs k) r)) [
        | inl yes' ↦
            (let w = holds_where (pend_at cs k) r yes' in
            let b = all k w.0 w.1 in
            let at : (f : Hold → ℕ) → get_or (map f hs) (get_or (records_at cs k) w.0 0) 0 ≡ f h = (λ f. ap (λ i. get_or (map f hs) i 0) w.2 ∙ get_or-map f hs r h 0 l ∙ ap f (sym q)) in
            let console : h.console.number ≡ k = sym (at (λ x. x.console.number)) ∙ b.1 in
            let place : h.place ≡ w.0 = sym (at (λ x. x.place)) ∙ b.2 in
            absurd (not (rw (console, place) w.1) (rw (console, place) w.2)))
        | inr no' ↦ no'
      ])

  -- the one entry of record r
  pub only : (hs : List Hold) (cs : List (Option (Console E))) (r k j : ℕ) → Backs hs cs → j < length (records_at cs k) → get_or (records_at cs k) j 0 ≡ r
      → (i m : ℕ) → m < length (records_at cs i) → get_or (records_at cs i) m 0 ≡ r → (i ≡ k) × (m ≡ j)
  only hs cs r k j all l q i m n p =
      let a = all k j l in
      let b = all i m n in
      let same : get_or (records_at cs i) m 0 ≡ get_or (records_at cs k) j 0 = p ∙ sym q in
      (sym b.1 ∙ ap (console_held hs) same ∙ a.1, sym b.2 ∙ ap (place_held hs) same ∙ a.2)

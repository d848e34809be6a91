-- The sixteen consoles, when one of them changes: what they keep, and what they stand for.
use Rattle.std.proofs.Common.{◌≡◌, ℕ, ◌+◌, ◌<◌, ◌≤◌, true, false, List, [], ◌∷◌, ◌++◌, length, get_or, set, Some, None, vec_items, vec_capacity, Option, sym, refl, ap, ◌∙◌, subst, inl, inr, arith}
use Rattle.std.proofs.lemmas.List.{length-set, length-map, map-set, length_push, set-get_or, map_push}
use Rattle.std.proofs.lemmas.List.Elements.{All-set, All-from_get_or}
use Rattle.std.proofs.lemmas.Bool.{cases_Bool, both_ways}
use Rattle.store.specs.declared.Pending.{Pending}
use Rattle.versions.specs.declared.session.Session.{Session}
use Rattle.versions.specs.declared.session.Hold.{Hold}
use Rattle.versions.specs.declared.sessions.Sessions.{Sessions}
use Rattle.store.specs.Meaning.{Console, holds, own_at, replaced, wrote, any_holds, pending_in}
use Rattle.store.specs.Consoles.{ats, pend_at, records_at}
use Rattle.versions.specs.Session.{place_held, console_with, console_of, consoles_from, Reserved, spare, Empty, Listed, Held, Placed}
use Rattle.versions.specs.Sessions.{consoles_of}
use Rattle.store.proofs.Pendings.{own_is, holds_yes, holds_where, replaced_is, replaced_push, none_any, pending_set, pending_part}
use Rattle.versions.proofs.Distinct.{room_for_more}
use Rattle.versions.proofs.Backs.{Back, Backs, backs, with_list, console_is, pend_is, backs_set, back_old, back_new, only}

module _ {E : Type 0} where
  -- what the consoles keep of their sessions, of the holds, and of the count of what is pending
  pub record Kept (n count : ℕ) (ds : List (Session E)) (hs : List Hold) : Type 0 where
    pub sixteen : n ≡ 16
    pub reserved : Reserved (length hs) ds
    pub empty : Empty ds
    pub listed : Listed hs (consoles_from ds)
    pub held : Held hs (consoles_from ds)
    pub placed : Placed hs (consoles_from ds)
    pub counted : count ≡ pending_in (consoles_from ds)

  spare_nil : (b : Option ℕ) (ps : List (Pending E)) → ps ≡ [] → spare b ps ≡ 0
  spare_nil None ps h = ap length h
  spare_nil (Some b) ps h = refl

  spare_long : (b : Option ℕ) (ps qs : List (Pending E)) → length ps ≡ length qs → spare b ps ≡ 0 → spare b qs ≡ 0
  spare_long None ps qs e h = sym e ∙ h
  spare_long (Some b) ps qs e h = refl

  pub spare_open : (b : Option ℕ) (ps qs : List (Pending E)) → (console_with b ps ≡ None → ⊥) → spare b qs ≡ 0
  spare_open None ps qs h = absurd (h refl)
  spare_open (Some b) ps qs h = refl

  wrote_with : (b : Option ℕ) (ps : List (Pending E)) (r : ℕ) (e : E) → wrote (console_with b ps) r e ≡ console_with b (replaced ps r e)
  wrote_with None ps r e = refl
  wrote_with (Some b) ps r e = refl

  pub all_back : (a : Sessions E) → Backs (vec_items a.holds) (consoles_of a)
  all_back a = backs (vec_items a.holds) (consoles_of a) a.listed a.held a.placed

  pub sixteen : (a : Sessions E) → length (vec_items a.sessions) ≡ 16
  sixteen a = omega arith

  pub sixteen_consoles : (a : Sessions E) → length (consoles_of a) ≡ 16
  sixteen_consoles a = simp length-map (sixteen a)

  -- the entry of record r is the one that console k has at place j
  module _ (a : Sessions E) (r k j : ℕ) (within : j < length (records_at (consoles_of a) k)) (here : get_or (records_at (consoles_of a) k) j 0 ≡ r) where
    pub own_here : (d : Pending E) → own_at (pend_at (consoles_of a) k) r ≡ Some (get_or (pend_at (consoles_of a) k) j d).entry
    own_here d = own_is (pend_at (consoles_of a) k) r j d within here (λ i m q. (only (vec_items a.holds) (consoles_of a) r k j (all_back a) within here k i m q).1)

    pub held_here : holds (pend_at (consoles_of a) k) r ≡ true
    held_here = holds_yes (pend_at (consoles_of a) k) r j within here

    pub not_there : (i : ℕ) → (k ≡ i → ⊥) → holds (pend_at (consoles_of a) i) r ≡ false
    not_there i ne = elim (cases_Bool (holds (pend_at (consoles_of a) i) r)) [
      | inl yes' ↦ (let w = holds_where (pend_at (consoles_of a) i) r yes' in
          absurd (ne (sym (only (vec_items a.holds) (consoles_of a) r k j (all_back a) within here i w.0 w.1 w.2).0)))
      | inr no' ↦ no'
    ]

  -- a session x of the sixteen
  module _ (a : Sessions E) (k : ℕ) (l : k < 16) (x : Session E) (at : x ≡ get_or (vec_items a.sessions) k x) where
    pub session_pending : pend_at (consoles_of a) k ≡ vec_items x.pending
    session_pending = let n = sixteen a in pend_is (vec_items a.sessions) k x a.empty (omega arith) at

    pub session_console : get_or (consoles_of a) k None ≡ console_of x
    session_console = let n = sixteen a in console_is (vec_items a.sessions) k x (omega arith) at

    pub session_room : length (vec_items a.holds) ≤ vec_capacity x.pending
    session_room = let n = sixteen a in let h = a.reserved k x (omega arith) in rw (sym at) at h

    pub session_spare : spare x.began (vec_items x.pending) ≡ 0
    session_spare = let n = sixteen a in let h = a.empty k x (omega arith) in rw (sym at) at h

    pub session_count : length (vec_items x.pending) ≤ a.count
    session_count = let p = pending_part (consoles_of a) k in let q = ap length session_pending in let c = a.counted in omega arith

    -- a console with no entry at record r has room for one there
    pub session_short : (r : ℕ) → r < length (vec_items a.holds) → any_holds (consoles_of a) r ≡ false → length (vec_items x.pending) < length (vec_items a.holds)
    session_short r within none =
        let rs = records_at (consoles_of a) k in
        let short = room_for_more (length (vec_items a.holds)) r rs (place_held (vec_items a.holds)) (a.listed k) (a.placed k) within
        (λ j m q. both_ways _ (none_any (consoles_of a) r k none) (holds_yes (pend_at (consoles_of a) k) r j m q)) in
        let long = length-map (pend_at (consoles_of a) k) (λ (p : Pending E). p.at) in
        let q = ap length session_pending in
        omega arith

    pub put_is : (y : Session E) → consoles_from (set (vec_items a.sessions) k y) ≡ set (consoles_of a) k (console_of y)
    put_is y = map-set console_of (vec_items a.sessions) k y

    -- session y stands for x
    pub put_kept : (y : Session E) (hs : List Hold) (count : ℕ) → length (vec_items a.holds) ≡ length hs → length (vec_items a.holds) ≤ vec_capacity y.pending → spare y.began (vec_items y.pending) ≡ 0
        → ((i : ℕ) → Back hs i (records_at (consoles_of a) i)) → Back hs k (ats (vec_items y.pending)) → count + length (vec_items x.pending) ≡ a.count + length (vec_items y.pending)
        → Kept a.sessions.len count (set (vec_items a.sessions) k y) hs
    put_kept y hs count long cap free others this sum =
        let n = sixteen_consoles a in
        let is = put_is y in
        let list = with_list y.began (vec_items y.pending) free in
        let P : List (Option (Console E)) → Type 0 = λ cs. Backs hs cs in
        let Q : List (Pending E) → Type 0 = λ ps. Back hs k (ats ps) in
        let b : Backs hs (consoles_from (set (vec_items a.sessions) k y)) = subst P (sym is) (backs_set hs (consoles_of a) k (console_of y) (omega arith) others (subst Q (sym list) this)) in
        let total = pending_set (consoles_of a) k (console_of y) (omega arith) in
        let was = ap length session_pending in
        let now' = ap length list in
        let same = ap pending_in is in
        let c = a.counted in
        let R : ℕ → Type 0 = λ n. Reserved n (set (vec_items a.sessions) k y) in
        record {
          sixteen = a.sixteen;
          reserved = subst R long (All-set (λ d. length (vec_items a.holds) ≤ vec_capacity d.pending) (vec_items a.sessions) k y cap a.reserved);
          empty = All-set (λ d. spare d.began (vec_items d.pending) ≡ 0) (vec_items a.sessions) k y free a.empty;
          listed = λ i. All-from_get_or (λ r. r < length hs) _ 0 (λ j h. (b i j h).0);
          held = λ i j h. (b i j h).1;
          placed = λ i j h. (b i j h).2;
          counted = omega arith;
        }

    -- nothing is pending at the console after
    pub clear_kept : (y : Session E) (count : ℕ) → length (vec_items a.holds) ≤ vec_capacity y.pending → vec_items y.pending ≡ [] → count + length (vec_items x.pending) ≡ a.count
        → Kept a.sessions.len count (set (vec_items a.sessions) k y) (vec_items a.holds)
    clear_kept y count cap none sum =
        let zero = ap length none in
        let rs = ap (λ ps. length (ats ps)) none in
        put_kept y (vec_items a.holds) count refl cap (spare_nil y.began (vec_items y.pending) none) (all_back a) (λ j h. absurd (omega arith)) (omega arith)

    -- the console is opened
    pub open_is : (y : Session E) (b : ℕ) → y.began ≡ Some b → vec_items y.pending ≡ [] → consoles_from (set (vec_items a.sessions) k y) ≡ set (consoles_of a) k (Some (record { began = b; pending = [] }))
    open_is y b q none = put_is y ∙ ap (set (consoles_of a) k) (ap (λ o. console_with o (vec_items y.pending)) q ∙ ap (console_with (Some b)) none)

    pub shut_is : (y : Session E) → y.began ≡ None → consoles_from (set (vec_items a.sessions) k y) ≡ set (consoles_of a) k None
    shut_is y q = put_is y ∙ ap (set (consoles_of a) k) (ap (λ o. console_with o (vec_items y.pending)) q)

    -- the console's list is as a write makes it
    wrote_is : (y : Session E) (r : ℕ) (e : E) → y.began ≡ x.began → replaced (pend_at (consoles_of a) k) r e ≡ vec_items y.pending → consoles_from (set (vec_items a.sessions) k y) ≡ set (consoles_of a) k (wrote (get_or (consoles_of a) k None) r e)
    wrote_is y r e same list =
        put_is y ∙ ap (set (consoles_of a) k)
        (ap (λ o. console_with o (vec_items y.pending)) same
        ∙ ap (console_with x.began) (sym list ∙ ap (λ ps. replaced ps r e) session_pending)
        ∙ sym (wrote_with x.began (vec_items x.pending) r e)
        ∙ ap (λ c. wrote c r e) (sym session_console))

    -- the entry at a place is replaced
    module _ (y : Session E) (r j : ℕ) (e : E) (same : y.began ≡ x.began) (items : vec_items y.pending ≡ set (vec_items x.pending) j (record { at = r; entry = e }))
        (within : j < length (records_at (consoles_of a) k)) (here : get_or (records_at (consoles_of a) k) j 0 ≡ r) where
      pub replace_is : consoles_from (set (vec_items a.sessions) k y) ≡ set (consoles_of a) k (wrote (get_or (consoles_of a) k None) r e)
      replace_is = wrote_is y r e same
          (replaced_is (pend_at (consoles_of a) k) r j e within here (λ i m q. (only (vec_items a.holds) (consoles_of a) r k j (all_back a) within here k i m q).1)
          ∙ ap (λ ps. set ps j (record { at = r; entry = e })) session_pending ∙ sym items)

      pub replace_kept : length (vec_items a.holds) ≤ vec_capacity y.pending → Kept a.sessions.len a.count (set (vec_items a.sessions) k y) (vec_items a.holds)
      replace_kept cap =
          let long = ap length items ∙ length-set (vec_items x.pending) j (record { at = r; entry = e }) in
          let old : ats (vec_items x.pending) ≡ records_at (consoles_of a) k = ap ats (sym session_pending) in
          let list : ats (vec_items y.pending) ≡ records_at (consoles_of a) k =
          ap ats items
          ∙ map-set (λ (p : Pending E). p.at) (vec_items x.pending) j (record { at = r; entry = e })
          ∙ ap (λ rs. set rs j r) old
          ∙ ap (set (records_at (consoles_of a) k) j) (sym here)
          ∙ set-get_or (records_at (consoles_of a) k) j 0 in
          let P : List ℕ → Type 0 = λ rs. Back (vec_items a.holds) k rs in
          put_kept y (vec_items a.holds) a.count refl cap (rw same (spare_long x.began (vec_items x.pending) (vec_items y.pending) (sym long) session_spare)) (all_back a) (subst P (sym list) (all_back a k)) (omega arith)

    -- an entry is added
    module _ (y : Session E) (r : ℕ) (e : E) (same : y.began ≡ x.began) (items : vec_items y.pending ≡ vec_items x.pending ++ record { at = r; entry = e } ∷ []) (none : any_holds (consoles_of a) r ≡ false) where
      pub add_is : consoles_from (set (vec_items a.sessions) k y) ≡ set (consoles_of a) k (wrote (get_or (consoles_of a) k None) r e)
      add_is = wrote_is y r e same (replaced_push (pend_at (consoles_of a) k) r e (none_any (consoles_of a) r k none) ∙ ap (λ ps. ps ++ record { at = r; entry = e } ∷ []) session_pending ∙ sym items)

      pub add_kept : r < length (vec_items a.holds) → (get_or (consoles_of a) k None ≡ None → ⊥) → length (vec_items a.holds) ≤ vec_capacity y.pending → (h : Hold) → h.console.number ≡ k → h.place ≡ length (vec_items x.pending)
          → Kept a.sessions.len (a.count + 1) (set (vec_items a.sessions) k y) (set (vec_items a.holds) r h)
      add_kept within live cap h console place =
          let long = ap length items ∙ length_push (vec_items x.pending) (record { at = r; entry = e }) in
          let list : ats (vec_items y.pending) ≡ records_at (consoles_of a) k ++ r ∷ [] =
          ap ats items ∙ map_push (λ (p : Pending E). p.at) (vec_items x.pending) (record { at = r; entry = e }) ∙ ap (λ ps. ats ps ++ r ∷ []) (sym session_pending) in
          let count : h.place ≡ length (records_at (consoles_of a) k) = place ∙ sym (ap (λ ps. length (ats ps)) session_pending ∙ length-map (vec_items x.pending) (λ (p : Pending E). p.at)) in
          let P : List ℕ → Type 0 = λ rs. Back (set (vec_items a.holds) r h) k rs in
          put_kept y (set (vec_items a.holds) r h) (a.count + 1) (sym (length-set (vec_items a.holds) r h)) cap (rw same (spare_open x.began (vec_items x.pending) (vec_items y.pending) (λ q. live (session_console ∙ q))))
          (back_old (vec_items a.holds) (consoles_of a) r h within (all_back a) none) (subst P (sym list) (back_new (vec_items a.holds) (consoles_of a) r h within (all_back a) none k console count)) (omega arith)

-- A store as it is opened: its table all at once, its consoles one by one.
use Rattle.std.proofs.Common.{◌≡◌, ℕ, nat_lt, zero, suc, ◌+◌, ◌-◌, ◌<◌, ◌≤◌, List, [], ◌∷◌, ◌++◌, map, length, get_or, Some, None, Option, vec_items, vec_capacity, sym, refl, ap, ◌∙◌, inl, inr, add-one, arith}
use Rattle.std.proofs.lemmas.Bool.{cases_lt, lt-ltb, le-ltb}
use Rattle.std.proofs.lemmas.List.{length_push, map_push, get_or_past}
use Rattle.std.proofs.lemmas.List.Elements.{All-push}
use Rattle.std.proofs.lemmas.List.FromFn.{length-range_with_len, get_or-range_with_len, length-map-range_with_len, get_or-map-range_with_len}
use Rattle.std.specs.List.{range_with_len}
use Rattle.std.specs.Bool.{then_some}
use Rattle.store.specs.Meaning.{versions_in, firsts}
use Rattle.store.proofs.Lists.{firsts_many}
use Rattle.versions.specs.declared.row.Row.{Row}
use Rattle.versions.specs.Places.{depth_of, link_of, record_of, place_at, link, chain_from, chains_from}
use Rattle.versions.proofs.Ways.{TableKept, walk_none, chain_used}
use Rattle.versions.specs.declared.session.Session.{Session}
use Rattle.store.specs.Meaning.{shut_all, pending_in, pending_list}
use Rattle.store.specs.Consoles.{ats, records_at}
use Rattle.versions.specs.Session.{console_of, consoles_from, Reserved, spare, Empty}

pub shut_total : (E : Type 0) (n : ℕ) → pending_in (shut_all {E = E} n) ≡ 0
shut_total E zero = refl
shut_total E (suc n) = let rest = shut_total E n in omega arith

module _ {E : Type 0} where
  -- n consoles, all shut
  pub record Shutting (room : ℕ) (sessions : List (Session E)) (n : ℕ) : Type 0 where
    pub long : length sessions ≡ n
    pub reserved : Reserved room sessions
    pub empty : Empty sessions
    pub consoles : consoles_from sessions ≡ shut_all n

  shut_push : (n : ℕ) → shut_all {E = E} n ++ None ∷ [] ≡ shut_all (suc n)
  shut_push zero = refl
  shut_push (suc n) = ap (λ w. None ∷ w) (shut_push n)

  pub shutting_more : (room : ℕ) (sessions : List (Session E)) (n : ℕ) (x : Session E) → Shutting room sessions n → x.began ≡ None → vec_items x.pending ≡ [] → room ≤ vec_capacity x.pending → Shutting room (sessions ++ x ∷ []) (n + 1)
  shutting_more room sessions n x s none free cap =
      let this : console_of x ≡ None = rw none refl in
      let bare : spare x.began (vec_items x.pending) ≡ 0 = rw (none, free) refl in
      record {
        long = length_push sessions x ∙ ap (λ m. m + 1) s.long;
        reserved = All-push (λ d. room ≤ vec_capacity d.pending) sessions x s.reserved cap;
        empty = All-push (λ d. spare d.began (vec_items d.pending) ≡ 0) sessions x s.empty bare;
        consoles = map_push console_of sessions x ∙ ap (λ cs. cs ++ console_of x ∷ []) s.consoles ∙ ap (λ c. shut_all n ++ c ∷ []) this ∙ shut_push n ∙ ap shut_all (sym (add-one n));
      }

  shut_at : (n k : ℕ) → get_or (shut_all {E = E} n) k None ≡ None
  shut_at zero k = refl
  shut_at (suc n) zero = refl
  shut_at (suc n) (suc k) = shut_at n k

  pub shut_records : (room : ℕ) (sessions : List (Session E)) (n k : ℕ) → Shutting room sessions n → records_at (consoles_from sessions) k ≡ []
  shut_records room sessions n k s = ap (λ cs. records_at cs k) s.consoles ∙ ap (λ c. ats (pending_list c)) (shut_at n k)

  pub shut_none : (room : ℕ) (sessions : List (Session E)) (n : ℕ) → Shutting room sessions n → pending_in (consoles_from sessions) ≡ 0
  shut_none room sessions n s = ap pending_in s.consoles ∙ shut_total E n

-- what a place of a fresh table holds: the first version of the record of its number, if there is one
abbrev pub first_row : {E : Type 0} → E → ℕ → Row E
first_row e i = record { version = record { number = i; stamp = 0; entry = e }; owner = i; older = None }

abbrev pub first_place : {E : Type 0} → E → ℕ → ℕ → Option (Row E)
first_place e size i = then_some (nat_lt i size) (first_row e i)

-- the places of a fresh table of `size` records and `room` places
abbrev pub first_places : {E : Type 0} → E → ℕ → ℕ → List (Option (Row E))
first_places e size room = map (first_place e size) (range_with_len 0 room)

module _ {E : Type 0} (e : E) (size room : ℕ) (fits : size ≤ room) where
  abbrev places : List (Option (Row E))
  places = first_places e size room

  at_first : (i : ℕ) → i < size → place_at places i ≡ Some (first_row e i)
  at_first i l = get_or-map-range_with_len (first_place e size) 0 room i i None (omega arith) (omega arith) ∙ ap (λ b. then_some b (first_row e i)) (lt-ltb _ _ l)

  at_free : (i : ℕ) → size ≤ i → place_at places i ≡ None
  at_free i l =
      elim (cases_lt i room) [
        | inl within ↦ get_or-map-range_with_len (first_place e size) 0 room i i None within (omega arith) ∙ ap (λ b. then_some b (first_row e i)) (le-ltb _ _ l)
        | inr past ↦ get_or_past places i None (let n = length-map-range_with_len (first_place e size) 0 room in omega arith)
      ]

  no_link : (i j : ℕ) → link places i ≡ Some j → ⊥
  no_link i j q =
      elim (cases_lt i size) [
        | inl used ↦ (let z : ◌≡◌ {A = Option ℕ} None (Some j) = sym (ap link_of (at_first i used)) ∙ q in cc)
        | inr free ↦ (let z : ◌≡◌ {A = Option ℕ} None (Some j) = sym (ap link_of (at_free i free)) ∙ q in cc)
      ]

  first_chain : (i : ℕ) → i < size → chain_from e places i ≡ (first_row e i).version ∷ []
  first_chain i l = chain_used e places i (first_row e i) (sym (at_first i l)) ∙ ap (λ w. w ++ (first_row e i).version ∷ []) (walk_none e places i)

  chains_upto : (m n : ℕ) → m + n ≤ size → chains_from e places (range_with_len m n) ≡ firsts e m n
  chains_upto m zero l = refl
  chains_upto m (suc n) l = let head = first_chain m (omega arith) in let rest = chains_upto (m + 1) n (omega arith) in cc

  pub first_chains : chains_from e places (range_with_len 0 size) ≡ firsts e 0 size
  first_chains = chains_upto 0 size (omega arith)

  kept : TableKept e places (range_with_len 0 size) (range_with_len size (room - size))
  kept =
      let long = length-map-range_with_len (first_place e size) 0 room in
      let heads = length-range_with_len 0 size in
      let frees = length-range_with_len size (room - size) in
      let all = ap versions_in first_chains ∙ firsts_many e 0 size in
      record {
        down = λ i j q. absurd (no_link i j q);
        live = λ i j q. absurd (no_link i j q);
        mine = λ i j q. absurd (no_link i j q);
        headed = λ k d l. (let at = get_or-range_with_len 0 size k d (omega arith) in let u = ap depth_of (at_first (get_or (range_with_len 0 size) k d) (omega arith)) in omega arith);
        owned = λ k l. (let at = get_or-range_with_len 0 size k 0 (omega arith) in ap record_of (at_first (get_or (range_with_len 0 size) k 0) (omega arith)) ∙ omega arith);
        numbered = λ i. (elim (cases_lt i size) [
          | inl used ↦ (let d = ap depth_of (at_first i used) in omega arith)
          | inr free ↦ (let d = ap depth_of (at_free i free) in omega arith)
        ]);
        inside = λ k d l. (let at = get_or-range_with_len size (room - size) k d (omega arith) in omega arith);
        vacant = λ k d l. (let at = get_or-range_with_len size (room - size) k d (omega arith) in at_free (get_or (range_with_len size (room - size)) k d) (omega arith));
        apart = λ j k d l m q. (let x = get_or-range_with_len size (room - size) j d (omega arith) in let y = get_or-range_with_len size (room - size) k d (omega arith) in omega arith);
        counted = omega arith;
      }

  pub first_kept : (ps : List (Option (Row E))) (ns fs : List ℕ) → ps ≡ places → ns ≡ range_with_len 0 size → fs ≡ range_with_len size (room - size) → TableKept e ps ns fs
  first_kept ps ns fs p n f = rw (p, n, f) kept

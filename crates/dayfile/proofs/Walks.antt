-- Laws of the walk over a file's entries.
use Rattle.std.proofs.Common.{◌≡◌, ℕ, zero, suc, ◌+◌, ◌-◌, ◌*◌, ◌/◌, ◌<◌, ◌≤◌, Bool, true, false, cond, List, [], ◌∷◌, map, length, drop, is_some, Some, None, Option, sym, refl, ap, ◌∙◌, subst, arith, ltb-true, eq-eqb, ne_eqb, leb-true}
use Rattle.std.proofs.lemmas.Simd.{map-map}
use Rattle.std.proofs.lemmas.Bool.{and_parts}
use Rattle.std.specs.Option.{option_map}
use Rattle.std.specs.List.{enumerate_from}
use Rattle.dayfile.specs.declared.Entry.{Entry}
use Rattle.dayfile.specs.Said.{said}
use Rattle.dayfile.proofs.Bytes.{length_pairs}
use Rattle.dayfile.specs.Format.{Commit, below, fits}
use Rattle.dayfile.specs.Reading.{entry_at, taken, commit_of, entries_in, onto, Walk, past, next_of, step_of}

pub cond_some : {X : Type 0} (t : Bool) (x y : X) → cond t (Some x) None ≡ Some y → (t ≡ true) × (x ≡ y)
cond_some true x y e = (refl, cc)
cond_some false x y e = let z : ◌≡◌ {A = ℕ} 0 1 = cc in absurd (omega arith)

-- what is known of an entry that the bytes say
pub record Came (n b : ℕ) (e : Commit) : Type 0 where
  pub console : e.console < 16
  pub reads : length e.reads ≤ 64
  pub writes : length e.writes ≤ 16
  pub low : 1 ≤ e.low
  pub high : e.low ≤ n
  pub old : below b e.reads ≡ true
  pub over : below b e.writes ≡ true

pub fits_came : (n b : ℕ) (e : Commit) → fits n b e ≡ true → Came n b e
fits_came n b e h =
    let a = and_parts _ _ h in
    let k = and_parts _ _ a.0 in
    let l = and_parts _ _ k.1 in
    let m = and_parts _ _ l.1 in
    let o = and_parts _ _ m.1 in
    let p = and_parts _ _ a.1 in
    record { console = ltb-true _ _ k.0; reads = leb-true _ _ l.0; writes = leb-true _ _ m.0; low = leb-true _ _ o.0; high = leb-true _ _ o.1; old = p.0; over = p.1 }

pub taken_fits : (n b c nr nw h l : ℕ) (rest : List ℕ) (e : Commit) (after : List ℕ) → taken n b c nr nw h l rest ≡ Some (e, after) → fits n b e ≡ true
taken_fits n b c nr nw h l rest e after t =
    let a = cond_some _ (commit_of c nr nw h l rest, drop (2 * nr + 2 * nw) rest) (e, after) t in
    subst (λ x. fits n b x ≡ true) (ap (λ p. p.0) a.1) (and_parts _ _ a.0).1

pub none_is : {X : Type 0} (x : X) → ◌≡◌ {A = Option X} None (Some x) → ⊥
none_is x e = let z : ◌≡◌ {A = ℕ} 0 1 = cc in omega arith

pub some_of : {X : Type 0} (x y : X) → Some x ≡ Some y → x ≡ y
some_of x y e = cc

pub entry_fits : (n b : ℕ) (xs : List ℕ) (e : Commit) (after : List ℕ) → entry_at n b xs ≡ Some (e, after) → fits n b e ≡ true
entry_fits n b [] e after t = absurd (none_is _ t)
entry_fits n b (x ∷ []) e after t = absurd (none_is _ t)
entry_fits n b (x ∷ y ∷ []) e after t = absurd (none_is _ t)
entry_fits n b (x ∷ y ∷ z ∷ []) e after t = absurd (none_is _ t)
entry_fits n b (x ∷ y ∷ z ∷ u ∷ []) e after t = absurd (none_is _ t)
entry_fits n b (x ∷ y ∷ z ∷ u ∷ v ∷ xs) e after t = taken_fits n b x y z u v xs e after t

pub step_none : (n p b : ℕ) (bs : List ℕ) → 0 < n → None ≡ entry_at p b bs → entries_in n p b bs ≡ None
step_none zero p b bs h e = absurd (omega arith)
step_none (suc n) p b bs h e =
    ap (λ o. elim o [ None ↦ None | Some t ↦ onto t.0 (entries_in n (p + 1) (b + length t.0.writes) t.1) ]) (sym e)

pub step_some : (n p b : ℕ) (bs : List ℕ) (e : Commit) (after : List ℕ) → 0 < n → Some (e, after) ≡ entry_at p b bs → entries_in n p b bs ≡ onto e (entries_in (n - 1) (p + 1) (b + length e.writes) after)
step_some zero p b bs e after h t = absurd (omega arith)
step_some (suc n) p b bs e after h t =
    let less : n ≡ suc n - 1 = omega arith in
    ap (λ o. elim o [ None ↦ None | Some t ↦ onto t.0 (entries_in n (p + 1) (b + length t.0.writes) t.1) ]) (sym t)
    ∙ ap (λ k. onto e (entries_in k (p + 1) (b + length e.writes) after)) less

pub few_writes : (n b : ℕ) (xs : List ℕ) (x : Entry) (after : List ℕ) → Some (said x, after) ≡ entry_at n b xs → length x.writes.now / 2 ≤ 16
few_writes n b xs x after t = subst (λ k. k ≤ 16) (length_pairs x.writes.now) (fits_came n b (said x) (entry_fits n b xs (said x) after (sym t))).writes

-- one step of a walk, as the code takes it
pub step_read : (w : Walk) (x : Entry) (after : List ℕ) → 0 < w.left → Some (said x, after) ≡ entry_at w.place w.bound w.rest
    → (Some (said x), record { left = w.left - 1; place = w.place + 1; bound = w.bound + length x.writes.now / 2; rest = after }) ≡ step_of w
step_read w x after h e =
    (λ i. (Some (said x), record { left = w.left - 1; place = w.place + 1; bound = w.bound + sym (length_pairs x.writes.now) i; rest = after }))
    ∙ ap (next_of w) e ∙ sym (ap (λ t. cond t (None, w) (next_of w (entry_at w.place w.bound w.rest))) (ne_eqb w.left 0 (λ z. omega arith)))

-- the entries that a walk has still to give
abbrev pub to_come : Walk → Option (List Commit)
to_come w = entries_in w.left w.place w.bound w.rest

-- what is known of a step that gave an entry
pub record Stepped (w v : Walk) (e : Commit) : Type 0 where
  pub come : to_come w ≡ onto e (to_come v)
  pub left : v.left + 1 ≡ w.left
  pub place : v.place ≡ w.place + 1
  pub bound : v.bound ≡ w.bound + length e.writes
  pub good : fits w.place w.bound e ≡ true

no_entry : (e : Commit) (w v : Walk) → ◌≡◌ {A = Option Commit × Walk} (Some e, v) (None, w) → ⊥
no_entry e w v h = none_is e (sym (ap (λ p. p.0) h))

pub step_gives : (w v : Walk) (e : Commit) → (Some e, v) ≡ step_of w → Stepped w v e
step_gives w v e h = by w.left refl
  where
    more : 0 < w.left → (o : Option (Commit × List ℕ)) → entry_at w.place w.bound w.rest ≡ o → (Some e, v) ≡ next_of w o → Stepped w v e
    more l None k t = absurd (no_entry e w v t)
    more l (Some u) k t =
        let first : u.0 ≡ e = some_of u.0 e (sym (ap (λ p. p.0) t)) in
        let second : past w u.0 u.1 ≡ v = sym (ap (λ p. p.1) t) in
        record {
          come = step_some w.left w.place w.bound w.rest u.0 u.1 l (sym k) ∙ (λ i. onto (first i) (to_come (second i)));
          left = let q = ap (λ (x : Walk). x.left) second in omega arith;
          place = sym (ap (λ (x : Walk). x.place) second);
          bound = sym (ap (λ (x : Walk). x.bound) second) ∙ ap (λ (c : Commit). w.bound + length c.writes) first;
          good = subst (λ c. fits w.place w.bound c ≡ true) first (entry_fits w.place w.bound w.rest u.0 u.1 k);
        }

    by : (n : ℕ) → n ≡ w.left → Stepped w v e
    by zero q = absurd (no_entry e w v (h ∙ ap (λ t. cond t (None, w) (next_of w (entry_at w.place w.bound w.rest))) (eq-eqb w.left 0 (sym q))))
    by (suc n) q = let l : 0 < w.left = omega arith in more l (entry_at w.place w.bound w.rest) refl (h ∙ ap (λ t. cond t (None, w) (next_of w (entry_at w.place w.bound w.rest))) (ne_eqb w.left 0 (λ z. omega arith)))

onto_is_some : (e : Commit) (o : Option (List Commit)) → is_some (onto e o) ≡ is_some o
onto_is_some e None = refl
onto_is_some e (Some es) = refl

-- a step that gives an entry leaves the question whether the others are there
pub step_on : (r : Option Entry) (w v : Walk) → is_some r ≡ true → (option_map said r, v) ≡ step_of w → is_some (to_come v) ≡ is_some (to_come w)
step_on None w v h s = let z : false ≡ true = h in cc
step_on (Some e) w v h s = sym (ap is_some (step_gives w v (said e) s).come ∙ onto_is_some (said e) (to_come v))

-- where a step gives none, no entry was to come
pub step_ends : (w v : Walk) (rest : List Commit) → (None, v) ≡ step_of w → to_come w ≡ Some rest → rest ≡ []
step_ends w v rest h t = by w.left refl
  where
    none_left : (n p b : ℕ) (bs : List ℕ) → n ≡ 0 → entries_in n p b bs ≡ Some rest → rest ≡ []
    none_left zero p b [] q s = sym (some_of [] rest s)
    none_left zero p b (x ∷ xs) q s = absurd (none_is rest s)
    none_left (suc n) p b bs q s = absurd (omega arith)

    more : 0 < w.left → (o : Option (Commit × List ℕ)) → entry_at w.place w.bound w.rest ≡ o → (None, v) ≡ next_of w o → rest ≡ []
    more l None k s = absurd (none_is rest (sym (step_none w.left w.place w.bound w.rest l (sym k)) ∙ t))
    more l (Some u) k s = absurd (none_is u.0 (ap (λ p. p.0) s))

    by : (n : ℕ) → n ≡ w.left → rest ≡ []
    by zero q = none_left w.left w.place w.bound w.rest (sym q) t
    by (suc n) q = let l : 0 < w.left = omega arith in more l (entry_at w.place w.bound w.rest) refl (h ∙ ap (λ t. cond t (None, w) (next_of w (entry_at w.place w.bound w.rest))) (ne_eqb w.left 0 (λ z. omega arith)))

-- the numbers of a list in turn, without their places
placed : (n : ℕ) (xs : List ℕ) → map (λ p. p.1) (enumerate_from n xs) ≡ xs
placed n [] = refl
placed n (x ∷ xs) = ap (λ l. x ∷ l) (placed (n + 1) xs)

pub numbers_placed : (n : ℕ) (xs : List ℕ) (ys : List (ℕ × ℕ)) → map (λ p. (p.0, p.1)) ys ≡ enumerate_from n xs → map (λ p. p.1) ys ≡ xs
numbers_placed n xs ys e = sym (map-map (λ p. p.1) (λ p. (p.0, p.1)) ys) ∙ ap (map (λ p. p.1)) e ∙ placed n xs

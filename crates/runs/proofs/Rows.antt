-- The table of marks: what a commit takes from it, and what it leaves in each row.
use Rattle.std.proofs.lemmas.Grind.{common_steps}
use Rattle.std.proofs.Common.{◌≡◌, ℕ, ◌+◌, ◌<◌, ◌≤◌, max, Bool, false, cond, ◌||◌, eqb, ltb, leb, List, [], ◌∷◌, ◌++◌, map, length, set, replicate, Some, Option, sym, refl, ap, ◌∙◌, arith}
use Rattle.std.proofs.lemmas.List.{append-nil, append_assoc, length-set, length-append, length_push, length-replicate, get_or_append_left, get_or-append_right, get_or-replicate}
use Rattle.std.proofs.lemmas.Bool.{lt-ltb, cond-true}
use Rattle.std.proofs.lemmas.List.Folds.{fold-map}
use Rattle.std.specs.List.{fold}
use Rattle.certifier.specs.declared.Mark.{Mark}
use Rattle.certifier.specs.declared.Over.{Over}
use Rattle.certifier.specs.Marking as marking
use Rattle.certifier.specs.Marking.{Track, overs_of, new_mark, mark_at, member, wrote, written, low_or, low_mark, top_stamp, top_high, raised, lowered, add_row, grown, verdict_of}

abbrev pub records_of : List Over → List ℕ
records_of ws = map (λ w. w.at) ws

-- the marks of a transaction by recursion from the right
abbrev pub low_right : List Mark → ℕ → List ℕ → ℕ
low_right ms c [] = c
low_right ms c (n ∷ ns) = low_or (low_right ms c ns) (mark_at ms n).low

abbrev pub stamp_right : List Mark → List ℕ → ℕ
stamp_right ms [] = 0
stamp_right ms (n ∷ ns) = max (mark_at ms n).stamp (stamp_right ms ns)

abbrev pub high_right : List Mark → List ℕ → ℕ
high_right ms [] = 0
high_right ms (n ∷ ns) = max (mark_at ms n).high (high_right ms ns)

low_out : (ms : List Mark) (l : ℕ) (o : Option ℕ) (ns : List ℕ) → low_mark ms (low_or l o) ns ≡ low_or (low_mark ms l ns) o
low_out ms l o [] = refl
low_out ms l o (n ∷ ns) = grind (arith, common_steps, low_out ms (low_or l (mark_at ms n).low) o ns)

low_right_lem : (ms : List Mark) (c : ℕ) (ns : List ℕ) → low_mark ms c ns ≡ low_right ms c ns
low_right_lem ms c [] = refl
low_right_lem ms c (n ∷ ns) = low_out ms c (mark_at ms n).low ns ∙ ap (λ (m : ℕ). low_or m (mark_at ms n).low) (low_right_lem ms c ns)

stamp_right_lem : (ms : List Mark) (h : ℕ) (ns : List ℕ) → top_stamp ms h ns ≡ max h (stamp_right ms ns)
stamp_right_lem ms h [] = omega arith
stamp_right_lem ms h (n ∷ ns) = let r = stamp_right_lem ms (max h (mark_at ms n).stamp) ns in omega (arith, r)

high_right_lem : (ms : List Mark) (h : ℕ) (ws : List Over) → top_high ms h ws ≡ max h (high_right ms (overs_of ws))
high_right_lem ms h [] = omega arith
high_right_lem ms h (w ∷ ws) = let r = high_right_lem ms (max h (mark_at ms w.version).high) ws in omega (arith, r)

pub verdict_is : (ms : List Mark) (c : ℕ) (t : Track)
    → verdict_of ms c t ≡ record { stamp = c; low = low_right ms c t.noted; high = max (stamp_right ms t.noted) (high_right ms (overs_of t.writes)) }
verdict_is ms c t = grind (arith, common_steps, high_right_lem, stamp_right_lem, low_right_lem)

-- rows changed at some places
abbrev changed : (Mark → Mark) → List Mark → List ℕ → List Mark
changed f ms ns = fold (marking.changed f) ms ns

abbrev pub raise : ℕ → Mark → Mark
raise c m = record { stamp = m.stamp; high = c; low = m.low }

abbrev pub lower : ℕ → Mark → Mark
lower l m = record { stamp = m.stamp; high = m.high; low = Some l }

raised_is : (ms : List Mark) (c : ℕ) (ns : List ℕ) → raised ms c ns ≡ changed (raise c) ms ns
raised_is ms c ns = refl

lowered_is : (ms : List Mark) (l : ℕ) (ws : List Over) → lowered ms l ws ≡ changed (lower l) ms (overs_of ws)
lowered_is ms l ws = sym (fold-map (marking.changed (lower l)) (λ w. w.version) ms ws)

grown_is : (places : ℕ) (ms : List Mark) (c : ℕ) (ws : List Over) → length ms + length ws ≤ places → grown places ms c ws ≡ ms ++ replicate (length ws) (new_mark c)
grown_is places ms c [] h = sym (append-nil ms)
grown_is places ms c (w ∷ ws) h =
    let e : add_row places ms c ≡ ms ++ (new_mark c ∷ []) = cond-true (ltb (length ms) places) _ _ (lt-ltb (length ms) places (omega arith)) in
    let l = length_push ms (new_mark c) in
    ap (λ (ys : List Mark). grown places ys c ws) e ∙ (grown_is places (ms ++ (new_mark c ∷ [])) c ws (omega (arith, l)) ∙ append_assoc ms (new_mark c ∷ []) (replicate (length ws) (new_mark c)))

length_changed : (f : Mark → Mark) (ms : List Mark) (ns : List ℕ) → length (changed f ms ns) ≡ length ms
length_changed f ms [] = refl
length_changed f ms (n ∷ ns) = length_changed f (set ms n (f (mark_at ms n))) ns ∙ length-set ms n _

changed_one : (f : Mark → Mark) (ms : List Mark) (n v : ℕ) → v < length ms → mark_at (set ms n (f (mark_at ms n))) v ≡ cond (eqb n v) (f (mark_at ms v)) (mark_at ms v)
changed_one f ms n v h = grind (arith, common_steps)

changed_step : (f : Mark → Mark) (twice : (m : Mark) → f (f m) ≡ f m) (a b : Bool) (m x : Mark) → x ≡ cond a (f m) m → cond b (f x) x ≡ cond (a || b) (f m) m
changed_step f twice a b m x e = grind (arith, common_steps)

at_changed : (f : Mark → Mark) (twice : (m : Mark) → f (f m) ≡ f m) (ms : List Mark) (ns : List ℕ) (v : ℕ) → v < length ms
    → mark_at (changed f ms ns) v ≡ cond (member v ns) (f (mark_at ms v)) (mark_at ms v)
at_changed f twice ms [] v h = refl
at_changed f twice ms (n ∷ ns) v h =
    let l : v < length (set ms n (f (mark_at ms n))) = omega (arith, length-set ms n (f (mark_at ms n))) in
    at_changed f twice (set ms n (f (mark_at ms n))) ns v l
    ∙ changed_step f twice (eqb n v) (member v ns) (mark_at ms v) _ (changed_one f ms n v h)

-- a mark before a commit at c, and after it
abbrev pub remarked : ℕ → ℕ → Bool → Bool → Mark → Mark
remarked c l rd ow m = cond ow (lower l (cond rd (raise c m) m)) (cond rd (raise c m) m)

-- the table after a commit at c with low mark l, where it has room for the new rows
module _ (places : ℕ) (ms : List Mark) (c l : ℕ) (t : Track) (room : length ms + length t.writes ≤ places) where
  abbrev old : List Mark
  old = changed (lower l) (changed (raise c) ms t.noted) (overs_of t.writes)

  old_length : length old ≡ length ms
  old_length = grind (arith, common_steps, length_changed)

  marked_is : marking.marked places ms c l t ≡ old ++ replicate (length t.writes) (new_mark c)
  marked_is = grind (arith, common_steps, lowered_is, raised_is, grown_is, old_length)

  pub marked_length : length (marking.marked places ms c l t) ≡ length ms + length t.writes
  marked_length = grind (arith, common_steps, marked_is, length-append, old_length, length-replicate)

  pub marked_old : (v : ℕ) → v < length ms → mark_at (marking.marked places ms c l t) v ≡ remarked c l (member v t.noted) (member v (overs_of t.writes)) (mark_at ms v)
  marked_old v h = grind (arith, common_steps, marked_is, get_or_append_left, old_length, at_changed, length_changed)

  pub marked_new : (v : ℕ) → length ms ≤ v → v < length ms + length t.writes → mark_at (marking.marked places ms c l t) v ≡ new_mark c
  marked_new v h u = grind (arith, common_steps, marked_is, get_or-append_right, old_length, get_or-replicate)

-- a write that the track has room for
wrote_member : (ws : List Over) (r : ℕ) → wrote r ws ≡ member r (records_of ws)
wrote_member [] r = refl
wrote_member (w ∷ ws) r = ap (λ b. eqb w.at r || b) (wrote_member ws r)

pub written_is : (t : Track) (r n : ℕ) → (member r (records_of t.writes) ≡ false → leb 16 (length t.writes) ≡ false)
    → written t r n ≡ record { noted = t.noted; writes = cond (member r (records_of t.writes)) t.writes (t.writes ++ (record { at = r; version = n } ∷ [])) }
written_is t r n h = grind (arith, common_steps, wrote_member)

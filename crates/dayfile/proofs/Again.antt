-- Writing what was read gives the bytes that were read.
use Rattle.std.proofs.Common.{◌≡◌, ℕ, zero, suc, ◌+◌, ◌-◌, ◌*◌, ◌/◌, ◌%◌, ◌<◌, ◌≤◌, Bool, true, false, cond, ◌&&◌, eqb, ltb, leb, List, [], ◌∷◌, ◌++◌, length, get_or, take, drop, is_some, Some, None, Option, sym, refl, ap, ◌∙◌, subst, append_assoc, arith, lit<, ltb-false, eqb-true, leb-true, le-ltb}
use Rattle.std.proofs.lemmas.Bool.{and_parts, cond-true, cond-false}
use Rattle.std.proofs.lemmas.List.{take-append-drop, length-append, length-take-le, length-drop, drop-drop}
use Rattle.store.specs.declared.Code.{Code}
use Rattle.store.specs.Refusals.{Answer}
use Rattle.store.specs.Refusals.Answer.{gives, refuses}
use Rattle.dayfile.specs.Refusals.{too_short, no_mark, bad_pointer, bad_entry}
use Rattle.dayfile.specs.Format.{Commit, pairs, twos, entry_bytes, body_bytes, trailer_bytes, file_bytes}
use Rattle.dayfile.specs.Reading.{Shape, entry_at, taken, commit_of, entries_in, onto, read_of, trailed, pointed, filled, shape_at, entries_of, body_of, records_in, count_in, length_in, points, marked, Says, Whole}
use Rattle.dayfile.proofs.Bytes.{length_pairs}
use Rattle.dayfile.proofs.Walks.{cond_some, none_is, some_of}

-- each number is a byte
abbrev pub Bytes : List ℕ → Type 0
Bytes [] = Unit {0}
Bytes (x ∷ xs) = (x < 256) × Bytes xs

pub bytes_from : (xs : List ℕ) → ((i : ℕ) → get_or xs i 0 < 256) → Bytes xs
bytes_from [] h = tt
bytes_from (x ∷ xs) h = (h 0, bytes_from xs (λ i. h (suc i)))

pub bytes_drop : (n : ℕ) (xs : List ℕ) → Bytes xs → Bytes (drop n xs)
bytes_drop zero xs b = b
bytes_drop (suc n) [] b = tt
bytes_drop (suc n) (x ∷ xs) b = bytes_drop n xs b.1

pub bytes_take : (n : ℕ) (xs : List ℕ) → Bytes xs → Bytes (take n xs)
bytes_take zero xs b = tt
bytes_take (suc n) [] b = tt
bytes_take (suc n) (x ∷ xs) b = (b.0, bytes_take n xs b.1)

high : (h l : ℕ) → l < 256 → (h * 256 + l) / 256 ≡ h
high h l s = omega arith

low : (h l : ℕ) → l < 256 → (h * 256 + l) % 256 ≡ l
low h l s = omega arith

pub twos_pairs : (k : ℕ) (xs : List ℕ) → length xs ≡ 2 * k → Bytes xs → twos (pairs xs) ≡ xs
twos_pairs zero [] e b = refl
twos_pairs zero (x ∷ xs) e b = absurd (omega arith)
twos_pairs (suc k) [] e b = refl
twos_pairs (suc k) (x ∷ []) e b = absurd (omega arith)
twos_pairs (suc k) (x ∷ y ∷ xs) e b = λ i. high x y b.1.0 i ∷ low x y b.1.0 i ∷ twos_pairs k xs (omega arith) b.1.1 i

-- the bytes of an entry that was taken
taken_again : (n b c nr nw h l : ℕ) (rest : List ℕ) (e : Commit) (after : List ℕ) → l < 256 → Bytes rest → taken n b c nr nw h l rest ≡ Some (e, after)
    → c ∷ nr ∷ nw ∷ h ∷ l ∷ rest ≡ entry_bytes e ++ after
taken_again n b c nr nw h l rest e after small bytes t =
    let E = commit_of c nr nw h l rest in
    let D = drop (2 * nr + 2 * nw) rest in
    let got = cond_some _ (E, D) (e, after) t in
    let room : 2 * nr + 2 * nw ≤ length rest = leb-true _ _ (and_parts _ _ got.0).0 in
    let A = take (2 * nr) rest in
    let M = drop (2 * nr) rest in
    let W = take (2 * nw) M in
    let la : length A ≡ 2 * nr = length-take-le (2 * nr) rest (omega arith) in
    let lm = length-drop (2 * nr) rest in
    let lw : length W ≡ 2 * nw = length-take-le (2 * nw) M (omega arith) in
    let na : nr ≡ length (pairs A) = omega (arith, length_pairs A) in
    let nb : nw ≡ length (pairs W) = omega (arith, length_pairs W) in
    let ta = twos_pairs nr A la (bytes_take (2 * nr) rest bytes) in
    let tw = twos_pairs nw W lw (bytes_take (2 * nw) M (bytes_drop (2 * nr) rest bytes)) in
    let whole : rest ≡ (A ++ W) ++ D =
    sym (take-append-drop (2 * nr) rest) ∙ ap (λ x. A ++ x) (sym (take-append-drop (2 * nw) M)) ∙ ap (λ x. A ++ (W ++ x)) (drop-drop (2 * nw) (2 * nr) rest) ∙ sym (append_assoc A W D) in
    let again : c ∷ nr ∷ nw ∷ h ∷ l ∷ rest ≡ entry_bytes E ++ D =
    λ i. c ∷ na i ∷ nb i ∷ sym (high h l small) i ∷ sym (low h l small) i ∷ (whole ∙ (λ j. (sym ta j ++ sym tw j) ++ D)) i in
    subst (λ p. c ∷ nr ∷ nw ∷ h ∷ l ∷ rest ≡ entry_bytes p.0 ++ p.1) got.1 again

pub entry_again : (n b : ℕ) (xs : List ℕ) (e : Commit) (after : List ℕ) → Bytes xs → entry_at n b xs ≡ Some (e, after) → xs ≡ entry_bytes e ++ after
entry_again n b [] e after bytes t = absurd (none_is _ t)
entry_again n b (x ∷ []) e after bytes t = absurd (none_is _ t)
entry_again n b (x ∷ y ∷ []) e after bytes t = absurd (none_is _ t)
entry_again n b (x ∷ y ∷ z ∷ []) e after bytes t = absurd (none_is _ t)
entry_again n b (x ∷ y ∷ z ∷ u ∷ []) e after bytes t = absurd (none_is _ t)
entry_again n b (x ∷ y ∷ z ∷ u ∷ v ∷ xs) e after bytes t = taken_again n b x y z u v xs e after bytes.1.1.1.1.0 bytes.1.1.1.1.1 t

bytes_right : (xs ys : List ℕ) → Bytes (xs ++ ys) → Bytes ys
bytes_right [] ys b = b
bytes_right (x ∷ xs) ys b = bytes_right xs ys b.1

-- what is known of entries that were read
pub record Fills (n p b : ℕ) (bs : List ℕ) (es : List Commit) : Type 0 where
  pub bytes : bs ≡ body_bytes es
  pub count : length es ≡ n

-- the step from n entries to one more
abbrev Reread : ℕ → Type 0
Reread n = (p b : ℕ) (bs : List ℕ) (es : List Commit) → Bytes bs → entries_in n p b bs ≡ Some es → Fills n p b bs es

reread_more : (n : ℕ) → Reread n → Reread (suc n)
reread_more n rec p b bs es bytes t = go (entry_at p b bs) refl t
  where
    last : (e : Commit) (after : List ℕ) → entry_at p b bs ≡ Some (e, after) → (o : Option (List Commit)) → entries_in n (p + 1) (b + length e.writes) after ≡ o → onto e o ≡ Some es → Fills (suc n) p b bs es
    last e after k None f t = absurd (none_is _ t)
    last e after k (Some ts) f t =
        let front = entry_again p b bs e after bytes k in
        let more = rec (p + 1) (b + length e.writes) after ts (bytes_right (entry_bytes e) after (subst Bytes front bytes)) f in
        subst (Fills (suc n) p b bs) (some_of (e ∷ ts) es t) (record {
          bytes = front ∙ ap (λ l. entry_bytes e ++ l) more.bytes;
          count = ap suc more.count;
        })

    go : (o : Option (Commit × List ℕ)) → entry_at p b bs ≡ o → elim o [ None ↦ None | Some t ↦ onto t.0 (entries_in n (p + 1) (b + length t.0.writes) t.1) ] ≡ Some es → Fills (suc n) p b bs es
    go None k t = absurd (none_is _ t)
    go (Some u) k t = last u.0 u.1 k (entries_in n (p + 1) (b + length u.0.writes) u.1) refl t

pub entries_again : (n : ℕ) → Reread n
entries_again zero p b [] es bytes t = subst (Fills 0 p b []) (some_of [] es t) (record { bytes = refl; count = refl })
entries_again zero p b (x ∷ xs) es bytes t = absurd (none_is _ t)
entries_again (suc n) p b bs es bytes t = reread_more n (entries_again n) p b bs es bytes t

-- ten bytes in a row
ten : (xs : List ℕ) → length xs ≡ 10
    → xs ≡ get_or xs 0 0 ∷ get_or xs 1 0 ∷ get_or xs 2 0 ∷ get_or xs 3 0 ∷ get_or xs 4 0 ∷ get_or xs 5 0 ∷ get_or xs 6 0 ∷ get_or xs 7 0 ∷ get_or xs 8 0 ∷ get_or xs 9 0 ∷ []
ten [] e = absurd (omega arith)
ten (a ∷ []) e = absurd (omega arith)
ten (a ∷ b ∷ []) e = absurd (omega arith)
ten (a ∷ b ∷ c ∷ []) e = absurd (omega arith)
ten (a ∷ b ∷ c ∷ d ∷ []) e = absurd (omega arith)
ten (a ∷ b ∷ c ∷ d ∷ f ∷ []) e = absurd (omega arith)
ten (a ∷ b ∷ c ∷ d ∷ f ∷ g ∷ []) e = absurd (omega arith)
ten (a ∷ b ∷ c ∷ d ∷ f ∷ g ∷ h ∷ []) e = absurd (omega arith)
ten (a ∷ b ∷ c ∷ d ∷ f ∷ g ∷ h ∷ i ∷ []) e = absurd (omega arith)
ten (a ∷ b ∷ c ∷ d ∷ f ∷ g ∷ h ∷ i ∷ j ∷ []) e = absurd (omega arith)
ten (a ∷ b ∷ c ∷ d ∷ f ∷ g ∷ h ∷ i ∷ j ∷ k ∷ []) e = refl
ten (a ∷ b ∷ c ∷ d ∷ f ∷ g ∷ h ∷ i ∷ j ∷ k ∷ l ∷ xs) e = absurd (omega arith)

bytes_at : (xs : List ℕ) (i : ℕ) → Bytes xs → get_or xs i 0 < 256
bytes_at [] i b = lit< tt
bytes_at (x ∷ xs) zero b = b.0
bytes_at (x ∷ xs) (suc i) b = bytes_at xs i b.1

module _ (a b c d : ℕ) (sb : b < 256) (sc : c < 256) (sd : d < 256) where
  first_of : (a * 16777216 + b * 65536 + c * 256 + d) / 16777216 ≡ a
  first_of = omega arith

  second_of : (a * 16777216 + b * 65536 + c * 256 + d) / 65536 % 256 ≡ b
  second_of = omega arith

  third_of : (a * 16777216 + b * 65536 + c * 256 + d) / 256 % 256 ≡ c
  third_of = omega arith

  fourth_of : (a * 16777216 + b * 65536 + c * 256 + d) % 256 ≡ d
  fourth_of = omega arith

-- a trailer with the mark is the trailer of its numbers
trailer_again : (t : List ℕ) → length t ≡ 10 → Bytes t → marked t ≡ true → t ≡ trailer_bytes (records_in t) (count_in t) (length_in t)
trailer_again t l bytes m =
    let x = λ (i : ℕ). get_or t i 0 in
    let s = λ (i : ℕ). bytes_at t i bytes in
    let marks = and_parts (eqb (x 0) 82) (eqb (x 1) 84) m in
    let first : x 0 ≡ 82 = eqb-true (x 0) 82 marks.0 in
    let second : x 1 ≡ 84 = eqb-true (x 1) 84 marks.1 in
    ten t l ∙ (λ i. first i ∷ second i
    ∷ sym (high (x 2) (x 3) (s 3)) i ∷ sym (low (x 2) (x 3) (s 3)) i
    ∷ sym (high (x 4) (x 5) (s 5)) i ∷ sym (low (x 4) (x 5) (s 5)) i
    ∷ sym (first_of (x 6) (x 7) (x 8) (x 9) (s 7) (s 8) (s 9)) i ∷ sym (second_of (x 6) (x 7) (x 8) (x 9) (s 7) (s 8) (s 9)) i
    ∷ sym (third_of (x 6) (x 7) (x 8) (x 9) (s 7) (s 8) (s 9)) i ∷ sym (fourth_of (x 6) (x 7) (x 8) (x 9) (s 7) (s 8) (s 9)) i ∷ [])

pub refused_gives : {A : Type 0} (x : A) (c : Code) → ◌≡◌ {A = Answer A} (refuses c) (gives x) → ⊥
refused_gives x c h = let z : ◌≡◌ {A = ℕ} 0 1 = cc in omega arith

pub past_first : {A : Type 0} (t : Bool) (c : Code) (x : Answer A) (a : A) → cond t (refuses c) x ≡ gives a → (t ≡ false) × (x ≡ gives a)
past_first true c x a h = absurd (refused_gives a c h)
past_first false c x a h = (refl, h)

pub past_last : {A : Type 0} (t : Bool) (c : Code) (x : Answer A) (a : A) → cond t x (refuses c) ≡ gives a → (t ≡ true) × (x ≡ gives a)
past_last true c x a h = (refl, h)
past_last false c x a h = absurd (refused_gives a c h)

past_entries : (x : Shape) (o : Option (List Commit)) (s : Shape) → filled x o ≡ gives s → (es : List Commit) × (o ≡ Some es) × (x ≡ s)
past_entries x None s h = absurd (refused_gives s bad_entry h)
past_entries x (Some es) s h = (es, refl, cc)

-- what is known of a file that was read: it is the file of its entries, at the end of the bytes
pub record Reread-file (bs : List ℕ) (s : Shape) : Type 0 where
  pub entries : List Commit
  pub said : entries_of s ≡ Some entries
  pub bytes : s.part ≡ file_bytes s.records entries
  pub some : 1 ≤ s.records
  pub few : s.records ≤ 256
  pub short : s.count ≤ 4000

pub read_again : (bs : List ℕ) (s : Shape) → Bytes bs → read_of bs ≡ gives s → Reread-file bs s
read_again bs s bytes h =
    let T = drop (length bs - 10) bs in
    let R = records_in T in
    let N = count_in T in
    let L = length_in T in
    let X = shape_at bs R N L in
    let P = X.part in
    let a = past_first (ltb (length bs) 10) too_short (trailed bs T) s h in
    let b = past_last (marked T) no_mark (pointed bs R N L) s a.1 in
    let c = past_last (points R N L (length bs - 10)) bad_pointer (filled X (entries_of X)) s b.1 in
    let d = past_entries X (entries_of X) s c.1 in
    let p₁ = and_parts (leb 1 R) (leb R 256 && (leb N 4000 && leb L (length bs - 10))) c.0 in
    let p₂ = and_parts (leb R 256) (leb N 4000 && leb L (length bs - 10)) p₁.1 in
    let p₃ = and_parts (leb N 4000) (leb L (length bs - 10)) p₂.1 in
    let es = d.0 in
    let long : 10 ≤ length bs = ltb-false (length bs) 10 a.0 in
    let in_front : L ≤ length bs - 10 = leb-true L (length bs - 10) p₃.1 in
    let lp : length P ≡ L + 10 = omega (arith, length-drop (length bs - 10 - L) bs) in
    let lt : length T ≡ 10 = omega (arith, length-drop (length bs - 10) bs) in
    let body : body_of P ≡ body_bytes es = (entries_again N 1 R (body_of P) es (bytes_take (length P - 10) P (bytes_drop (length bs - 10 - L) bs bytes)) d.1).bytes in
    let lb : length (body_bytes es) ≡ L = sym (ap length body) ∙ length-take-le (length P - 10) P (omega arith) ∙ omega arith in
    let place : length bs - 10 - L + (length P - 10) ≡ length bs - 10 = omega arith in
    let tail : drop (length P - 10) P ≡ T = drop-drop (length P - 10) (length bs - 10 - L) bs ∙ ap (λ k. drop k bs) place in
    let fills = entries_again N 1 R (body_of P) es (bytes_take (length P - 10) P (bytes_drop (length bs - 10 - L) bs bytes)) d.1 in
    subst (Reread-file bs) d.2 (record {
      entries = es;
      said = d.1;
      bytes = sym (take-append-drop (length P - 10) P) ∙ (λ i. body i ++ (tail ∙ trailer_again T lt (bytes_drop (length bs - 10) bs bytes) b.0 ∙ (λ j. trailer_bytes R (sym fills.count j) (sym lb j))) i);
      some = leb-true 1 R p₁.0;
      few = leb-true R 256 p₂.0;
      short = leb-true N 4000 p₃.0;
    })

-- what the reader answers where the trailer has the mark and its numbers are in range: it is left to the entries
pub read_pointed : (bs tail : List ℕ) (r n len : ℕ) → 10 ≤ length bs → tail ≡ drop (length bs - 10) bs → Says tail r n len → points r n len (length bs - 10) ≡ true
    → read_of bs ≡ filled (shape_at bs r n len) (entries_of (shape_at bs r n len))
read_pointed bs tail r n len long e says ok =
    cond-false _ _ _ (le-ltb (length bs) 10 long) ∙ ap (trailed bs) (sym e) ∙ cond-true _ _ _ says.mark
    ∙ (λ i. pointed bs (sym says.records i) (sym says.count i) (sym says.extent i)) ∙ cond-true _ _ _ ok

pub filled_not : (s : Shape) (o : Option (List Commit)) → is_some o ≡ false → filled s o ≡ refuses bad_entry
filled_not s None h = refl
filled_not s (Some es) h = let z : true ≡ false = h in cc

some_same : {X : Type 0} (o : Option X) (x y : X) → o ≡ Some x → o ≡ Some y → x ≡ y
some_same o x y p q = cc

-- what the reader promises of a file, from what it answers
pub whole_from : (bs : List ℕ) (s : Shape) → ((i : ℕ) → get_or bs i 0 < 256) → read_of bs ≡ gives s → Whole s
whole_from bs s bytes h =
    let k = read_again bs s (bytes_from bs bytes) h in
    let len = ap length k.bytes ∙ length-append (body_bytes k.entries) (trailer_bytes s.records (length k.entries) (length (body_bytes k.entries))) in
    record {
      long = omega arith;
      some = k.some;
      few = k.few;
      short = k.short;
      full = ap is_some k.said;
      again = λ es e. k.bytes ∙ ap (file_bytes s.records) (some_same (entries_of s) k.entries es k.said e);
    }

-- Laws of writing over a part of a buffer.
use Rattle.std.proofs.Common.{◌≡◌, ℕ, zero, suc, ◌+◌, ◌*◌, ◌/◌, ◌%◌, ◌<◌, ◌≤◌, true, ltb, List, [], ◌∷◌, ◌++◌, length, get_or, take, drop, sym, refl, ap, ◌∙◌, arith, ltb-true, lt-ltb, w16}
use lib.Seq.{paste}
use Rattle.std.proofs.lemmas.List.Edits.{paste_all, paste-paste, length-paste}
use Rattle.std.proofs.lemmas.List.{length-append, take-append-drop, take_more, length-take-le}
use Rattle.std.proofs.lemmas.Bool.{and_parts, and_from}
use Rattle.std.specs.Int.{to_be_bytes}
use Rattle.dayfile.specs.Format.{Commit, twos, below, entry_bytes}
use Rattle.dayfile.proofs.Bytes.{length_twos}
use Rattle.daywriter.specs.Writing.{over}

pub over_paste : (b : List ℕ) (at : ℕ) (s : List ℕ) → paste b at s (length s) ≡ over b at s
over_paste b at s = paste_all b at s (length s) refl

pub over_more : (b : List ℕ) (at : ℕ) (s t : List ℕ) → at ≤ length b → over (over b at s) (at + length s) t ≡ over b at (s ++ t)
over_more b at s t h =
    ap (λ x. over x (at + length s) t) (sym (over_paste b at s))
    ∙ sym (over_paste (paste b at s (length s)) (at + length s) t)
    ∙ paste-paste b at s t (length s) (length t) refl refl h
    ∙ ap (paste b at (s ++ t)) (sym (length-append s t))
    ∙ over_paste b at (s ++ t)

pub over_none : (b : List ℕ) (at : ℕ) → over b at [] ≡ b
over_none b at = let z : at + 0 ≡ at = omega arith in ap (λ k. take at b ++ drop k b) z ∙ take-append-drop at b

pub length_over : (b : List ℕ) (at : ℕ) (s : List ℕ) → at + length s ≤ length b → length (over b at s) ≡ length b
length_over b at s h = let q : length s ≤ length s = omega arith in ap length (sym (over_paste b at s)) ∙ length-paste b at s (length s) h q

pub twos_append : (xs ys : List ℕ) → twos (xs ++ ys) ≡ twos xs ++ twos ys
twos_append [] ys = refl
twos_append (x ∷ xs) ys = ap (λ l. x / 256 ∷ x % 256 ∷ l) (twos_append xs ys)

-- a number's two bytes
pub be_two : (n : ℕ) → n < 65536 → to_be_bytes w16 n ≡ n / 256 ∷ n % 256 ∷ []
be_two n h = let high : n / 256 % 256 ≡ n / 256 = omega arith in λ i. high i ∷ n % 256 ∷ []

-- one more number of a list that is written
pub twos_more : (b : List ℕ) (at : ℕ) (xs : List ℕ) (i : ℕ) → i < length xs → at + 2 * length xs ≤ length b
    → over (over b at (twos (take i xs))) (at + 2 * i) (get_or xs i 0 / 256 ∷ get_or xs i 0 % 256 ∷ []) ≡ over b at (twos (take (i + 1) xs))
twos_more b at xs i h room =
    let s = twos (take i xs) in
    let t : List ℕ = get_or xs i 0 / 256 ∷ get_or xs i 0 % 256 ∷ [] in
    let len : length s ≡ 2 * i = length_twos (take i xs) ∙ ap (λ k. 2 * k) (length-take-le i xs (omega arith)) in
    ap (λ k. over (over b at s) (at + k) t) (sym len) ∙ over_more b at s t (omega arith)
    ∙ ap (over b at) (sym (ap twos (take_more xs i 0 h) ∙ twos_append (take i xs) (get_or xs i 0 ∷ [])))

pub below_at : (n : ℕ) (xs : List ℕ) (i : ℕ) → below n xs ≡ true → i < length xs → get_or xs i 0 < n
below_at n [] i b h = absurd (omega arith)
below_at n (x ∷ xs) zero b h = ltb-true _ _ (and_parts _ _ b).0
below_at n (x ∷ xs) (suc i) b h = below_at n xs i (and_parts _ _ b).1 (omega arith)

pub below_wider : (m n : ℕ) (xs : List ℕ) → m ≤ n → below m xs ≡ true → below n xs ≡ true
below_wider m n [] h b = refl
below_wider m n (x ∷ xs) h b =
    let p = and_parts _ _ b in
    let lt = ltb-true x m p.0 in
    and_from (ltb x n) (below n xs) (lt-ltb x n (omega arith)) (below_wider m n xs h p.1)

pub length_entry : (e : Commit) → length (entry_bytes e) ≡ 5 + 2 * length e.reads + 2 * length e.writes
length_entry e = let a = length-append (twos e.reads) (twos e.writes) in let r = length_twos e.reads in let w = length_twos e.writes in omega arith

-- the three writes of an entry
pub entry_over : (b : List ℕ) (at : ℕ) (e : Commit) (b₁ b₂ b₃ : List ℕ) → at + length (entry_bytes e) ≤ length b
    → b₁ ≡ over b at (e.console ∷ length e.reads ∷ length e.writes ∷ e.low / 256 ∷ e.low % 256 ∷ [])
    → b₂ ≡ over b₁ (at + 5) (twos e.reads) → b₃ ≡ over b₂ (at + 5 + 2 * length e.reads) (twos e.writes)
    → b₃ ≡ over b at (entry_bytes e)
entry_over b at e b₁ b₂ b₃ room e₁ e₂ e₃ =
    let head : List ℕ = e.console ∷ length e.reads ∷ length e.writes ∷ e.low / 256 ∷ e.low % 256 ∷ [] in
    let reads = twos e.reads in
    let writes = twos e.writes in
    let two : b₂ ≡ over b at (head ++ reads) = e₂ ∙ ap (λ x. over x (at + 5) reads) e₁ ∙ over_more b at head reads (omega arith) in
    let len : length (head ++ reads) ≡ 5 + 2 * length e.reads = omega (arith, length_twos e.reads) in
    let place : at + 5 + 2 * length e.reads ≡ at + length (head ++ reads) = omega arith in
    e₃ ∙ ap (λ x. over x (at + 5 + 2 * length e.reads) writes) two
    ∙ ap (λ p. over (over b at (head ++ reads)) p writes) place
    ∙ over_more b at (head ++ reads) writes (omega arith)

pub commit_same : (x y : Commit) → x.console ≡ y.console → x.low ≡ y.low → x.reads ≡ y.reads → x.writes ≡ y.writes → x ≡ y
commit_same x y a b c d = λ i. record { console = a i; low = b i; reads = c i; writes = d i }

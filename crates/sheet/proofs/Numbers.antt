-- Laws of numerals.
use Rattle.std.proofs.Common.{◌≡◌, ℕ, ◌+◌, ◌-◌, ◌*◌, ◌<◌, ◌≤◌, true, false, not, leb, List, [], ◌∷◌, length, get_or, drop, Some, None, sym, ap, ◌∙◌, subst, arith, le-leb}
use borrow.Author.Tests.{lt-leb}
use Rattle.std.proofs.lemmas.List.{at_drop_more, at_drop_all}
use Rattle.std.proofs.lemmas.Bool.{cond-true, cond-false, and_right, and_from}
use Rattle.sheet.specs.Numerals.{all_digits, value_from, spare_zero, numeral}

pub value_ge : (xs : List ℕ) (n : ℕ) → n ≤ value_from n xs
value_ge [] n = omega arith
value_ge (x ∷ xs) n = let h = value_ge xs (n * 10 + (x - 48)) in omega arith

pub value_more : (xs : List ℕ) (i n : ℕ) → i < length xs → value_from (n * 10 + (get_or xs i 0 - 48)) (drop (i + 1) xs) ≡ value_from n (drop i xs)
value_more xs i n h = sym (at_drop_more (value_from n) xs i 0 h)

pub value_done : (xs : List ℕ) (i n : ℕ) → length xs ≤ i → value_from n (drop i xs) ≡ n
value_done xs i n h = at_drop_all (value_from n) xs i h

-- the outcomes of reading a numeral
pub too_large : (xs : List ℕ) → 4294967295 < value_from 0 xs → None ≡ numeral xs
too_large xs h =
    sym (cond-false _ _ _ (and_right (all_digits xs) _ (and_right (not (spare_zero xs)) _ (lt-leb _ _ h))))

-- the same, seen at a digit
pub too_large_from : (xs : List ℕ) (i n : ℕ) → i < length xs → 4294967295 < n * 10 + (get_or xs i 0 - 48) → value_from n (drop i xs) ≡ value_from 0 xs → None ≡ numeral xs
too_large_from xs i n l h e =
    let ge = value_ge (drop (i + 1) xs) (n * 10 + (get_or xs i 0 - 48)) in
    let step = value_more xs i n l in
    too_large xs (omega arith)

pub is_number : (xs : List ℕ) (n : ℕ) → true ≡ all_digits xs → false ≡ spare_zero xs → n ≡ value_from 0 xs → n ≤ 4294967295 → Some n ≡ numeral xs
is_number xs n d z e h =
    let fits : leb (value_from 0 xs) 4294967295 ≡ true = le-leb _ _ (subst (λ k. k ≤ 4294967295) e h) in
    ap Some e ∙ sym (cond-true _ _ _ (and_from _ _ (sym d) (and_from _ _ (ap not (sym z)) fits)))

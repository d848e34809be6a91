-- The last position that passes a test.
use Rattle.std.specs.Prelude.{◌≡◌, ℕ, suc, ◌+◌, ◌-◌, ◌<◌, ◌≤◌, Bool, true, false, cond, List, [], ◌∷◌, ◌++◌, length, nat_le, refl}
use Rattle.std.proofs.Common.{sym, ap, ◌∙◌, arith, add-zero}
use Rattle.store.specs.Meaning.{Inside}
use Rattle.store.specs.Kinds.{last_from, last_passing, newest_rules, snapshot_rules, Tested}

pub last_push : (test : ℕ → Bool) (best at : ℕ) (ss : List ℕ) (s : ℕ) → last_from test best at (ss ++ s ∷ []) ≡ cond (test s) (at + length ss) (last_from test best at ss)
last_push test best at [] s = ap (λ n. cond (test s) n best) (sym (add-zero at))
last_push test best at (x ∷ xs) s =
    let rest = last_push test (cond (test x) at best) (at + 1) xs s in
    let long : (at + 1) + length xs ≡ at + suc (length xs) = omega arith in
    rest ∙ ap (λ n. cond (test s) n (last_from test (cond (test x) at best) (at + 1) xs)) long

pub last_below : (test : ℕ → Bool) (best at n : ℕ) (ss : List ℕ) → at + length ss ≤ n → best < n → last_from test best at ss < n
last_below test best at n [] h b = b
last_below test best at n (x ∷ xs) h b =
    last_below test (cond (test x) at best) (at + 1) n xs (omega arith) (elim (test x) as (λ t. cond t at best < n) [ true ↦ omega arith | false ↦ b ])

pub last_inside : (test : ℕ → Bool) (ss : List ℕ) → 0 < length ss → last_passing test ss < length ss
last_inside test ss h = last_below test 0 0 (length ss) ss (omega arith) h

pub last_all : (best at : ℕ) (ss : List ℕ) → 0 < length ss → last_from (λ _. true) best at ss ≡ at + length ss - 1
last_all best at [] h = absurd (omega arith)
last_all best at (x ∷ []) h = omega arith
last_all best at (x ∷ (y ∷ ys)) h = let rest = last_all at (at + 1) (y ∷ ys) (omega arith) in omega arith

pub newest_tested : Tested newest_rules (λ _ _. true)
newest_tested [] began = refl
newest_tested (x ∷ xs) began = let all = last_all 0 0 (x ∷ xs) (omega arith) in omega arith

pub snapshot_inside : Inside snapshot_rules
snapshot_inside stamps began some low = last_inside (λ s. nat_le s began) stamps some

pub newest_inside : Inside newest_rules
newest_inside stamps began some low = omega arith

pub snapshot_tested : Tested snapshot_rules nat_le
snapshot_tested stamps began = refl

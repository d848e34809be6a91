-- A list that is filled from the front with the versions of some writes.
use Rattle.std.proofs.Common.{◌≡◌, ℕ, ◌+◌, ◌<◌, ◌≤◌, List, [], ◌∷◌, ◌++◌, length, get_or, take, drop, set, sym, ap, ◌∙◌, append_assoc, arith}
use Rattle.std.proofs.lemmas.List.{drop_more, map_more, set_at, length-map, length-take-le}
use Rattle.certifier.specs.declared.Over.{Over}
use Rattle.certifier.specs.Marking.{overs_of}

pub fill_turn : (xs : List Over) (l : List ℕ) (i : ℕ) (d : Over) → i < length xs → length xs ≤ length l
    → set (overs_of (take i xs) ++ drop i l) i (get_or xs i d).version ≡ overs_of (take (i + 1) xs) ++ drop (i + 1) l
fill_turn xs l i d lt le =
    ap (λ (ys : List ℕ). set (overs_of (take i xs) ++ ys) i (get_or xs i d).version) (drop_more l i 0 (omega arith))
    ∙ (set_at (overs_of (take i xs)) _ _ _ i (length-map (take i xs) (λ x. x.version) ∙ length-take-le i xs (omega arith))
    ∙ (sym (append_assoc (overs_of (take i xs)) ((get_or xs i d).version ∷ []) (drop (i + 1) l))
    ∙ ap (λ (ys : List ℕ). ys ++ drop (i + 1) l) (sym (map_more (λ (x : Over). x.version) xs i d lt))))

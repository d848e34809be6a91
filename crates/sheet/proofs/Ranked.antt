-- The stamps that a log puts into a list that is long enough.
use Rattle.std.proofs.Common.{◌≡◌, ℕ, ◌≤◌, cond, List, ◌++◌, length, take, drop, ap, ◌∙◌, le-ltb}
use Rattle.std.proofs.lemmas.List.{take_at}
use Rattle.store.specs.Refusals.{Answer}
use Rattle.store.specs.Refusals.Answer.{gives, refuses}
use Rattle.certifier.specs.Meaning.{LogState, order_of}
use Rattle.certifier.specs.Refusals.{short_list}
use Rattle.sheet.specs.Printing.{stamps_by_rank}

pub order_stamps : (s : LogState ℕ) (before list : List ℕ) (n : ℕ) → ◌≡◌ {A = Answer ℕ × List ℕ} (gives n, list) (order_of s before) → s.ranks.count ≤ length before
    → length (stamps_by_rank s) ≡ s.ranks.count → take n list ≡ stamps_by_rank s
order_stamps s before list n e fits counted =
    let count = s.ranks.count in
    let all = stamps_by_rank s ++ drop count before in
    let told : ◌≡◌ {A = Answer ℕ × List ℕ} (gives n, list) (gives count, all) =
    e ∙ ap (λ t. cond {A = Answer ℕ × List ℕ} t (refuses short_list, before) (gives count, all)) (le-ltb (length before) count fits) in
    let answers : ◌≡◌ {A = Answer ℕ} (gives n) (gives count) = ap (λ p. p.0) told in
    let same : n ≡ count = cc in
    (λ i. take (same i) (told i).1) ∙ take_at (stamps_by_rank s) (drop count before) count counted

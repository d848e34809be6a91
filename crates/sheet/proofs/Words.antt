-- One step of a walk over the words of a line.
use Rattle.std.proofs.Common.{◌≡◌, ◌==◌, ℕ, suc, ◌+◌, ◌-◌, ◌<◌, ◌≤◌, ◌⊎◌, Bool, true, false, not, cond, eqb, List, [], ◌∷◌, length, take, drop, Some, None, Option, Bor, sym, refl, ap, subst, ◌∙◌, ⊎_elim, arith, length-take, length-drop}
use Rattle.std.specs.List.{position_or_len, slice_range, onto_first}
use Rattle.std.specs.Option.{MatchOption}
use Rattle.std.proofs.lemmas.List.{take_all}
use Rattle.std.proofs.lemmas.List.Sums.{prefix_len-le-length}
use Rattle.std.proofs.lemmas.List.Splits.{slice_split_first}
use Rattle.sheet.specs.Cuts.{placed, pieces}
use Rattle.sheet.specs.Walks.{words_left}

-- where no byte cuts it, a list is one piece
one_piece : (s : ℕ) (bs : List ℕ) → position_or_len (λ b. eqb b s) bs ≡ length bs → pieces s bs ≡ bs ∷ []
one_piece s [] e = refl
one_piece s (b ∷ bs) e = go (eqb b s) e (one_piece s bs)
  where
    go : (t : Bool) → cond (not t) (1 + position_or_len (λ x. eqb x s) bs) 0 ≡ suc (length bs) → (position_or_len (λ x. eqb x s) bs ≡ length bs → pieces s bs ≡ bs ∷ [])
        → cond t ([] ∷ pieces s bs) (onto_first b (pieces s bs)) ≡ (b ∷ bs) ∷ []
    go true h rest = absurd (omega arith)
    go false h rest = ap (onto_first b) (rest (omega arith))

-- what a look at a slice from a place to its end gave
abbrev Looked : List ℕ → ℕ → Option (Bor (List ℕ)) → Type 0
Looked bs from rest =
    MatchOption rest ((length bs < from) ⊎ (length bs < length bs)) (λ x. (from ≤ length bs) × (length bs ≤ length bs) × (x.now ≡ slice_range bs from (length bs)) × (length x.now + from ≡ length bs))

-- the first word, and those behind it
cut_word : (e : ℕ) (bs : List ℕ) (cut : ℕ) (rest : Option (Bor (List ℕ))) → length bs < e → cut ≡ position_or_len (λ b. b == 32) bs → Looked bs (cut + 1) rest
    → placed (e - length bs) (pieces 32 bs) ≡ (take cut bs, e - length bs) ∷ words_left e rest
cut_word e bs cut None within at none =
    let short = prefix_len-le-length (λ b. not (b == 32)) bs in
    let last : cut ≡ length bs = ⊎_elim (λ lt. omega arith) (λ lt. absurd (omega arith)) none in
    ap (placed (e - length bs)) (one_piece 32 bs (sym at ∙ last)) ∙ ap (λ w. (w, e - length bs) ∷ []) (sym (take_all cut bs (omega arith)))
cut_word e bs cut (Some x) within at some =
    let behind : x.now ≡ drop (cut + 1) bs = some.2 ∙ take_all (length bs - (cut + 1)) (drop (cut + 1) bs) (omega (arith, length-drop (cut + 1) bs)) in
    let parts : pieces 32 bs ≡ take cut bs ∷ pieces 32 x.now =
    slice_split_first (λ b. b == 32) bs 0 (omega arith) ∙ (λ i. take (sym at i) bs ∷ pieces 32 (drop (sym at i + 1) bs)) ∙ ap (λ l. take cut bs ∷ pieces 32 l) (sym behind) in
    let next : e - length bs + length (take cut bs) + 1 ≡ e - length x.now = omega (arith, length-take cut bs, some.3) in
    ap (placed (e - length bs)) parts ∙ ap (λ c. (take cut bs, e - length bs) ∷ placed c (pieces 32 x.now)) next

-- the same from any place that is the one behind the space
pub first_word : (e : ℕ) (bs : List ℕ) (cut from : ℕ) (rest : Option (Bor (List ℕ))) → length bs < e → cut ≡ position_or_len (λ b. b == 32) bs → Looked bs from rest → from ≡ cut + 1
    → placed (e - length bs) (pieces 32 bs) ≡ (take cut bs, e - length bs) ∷ words_left e rest
first_word e bs cut from rest within at looked is = cut_word e bs cut rest within at (subst (λ n. Looked bs n rest) is looked)

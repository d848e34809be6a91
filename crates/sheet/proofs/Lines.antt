-- The lines of a sheet as the pieces of its text.
use Rattle.std.proofs.Common.{◌≡◌, ℕ, zero, suc, ◌<◌, true, false, cond, eqb, List, [], ◌∷◌, ◌++◌, length, get_or, take, sym, refl, ap, ◌∙◌, arith, eq-eqb, ne_eqb}
use Rattle.std.proofs.lemmas.Bool.{cond-false}
use Rattle.std.proofs.lemmas.List.Splits.{length-slice_split}
use Rattle.std.proofs.Math.Seq.{take-suc}
use Rattle.std.proofs.lemmas.List.{take_all}
use Rattle.std.specs.List.{onto_first}
use Rattle.sheet.specs.Cuts.{pieces, shut, lines_of}

shut_onto : (x : ℕ) (ps : List (List ℕ)) → shut (onto_first x ps) ≡ onto_first x (shut ps)
shut_onto x [] = refl
shut_onto x ([] ∷ []) = refl
shut_onto x ((y ∷ ys) ∷ []) =
    cond-false _ _ _ (ne_eqb (length (x ∷ y ∷ ys)) 0 (λ e. omega arith)) ∙ ap (onto_first x) (sym (cond-false _ _ _ (ne_eqb (length (y ∷ ys)) 0 (λ e. omega arith))))
shut_onto x (p ∷ q ∷ ps) = refl

shut_past : (p : List ℕ) (ps : List (List ℕ)) → 0 < length ps → shut (p ∷ ps) ≡ p ∷ shut ps
shut_past p [] h = absurd (omega arith)
shut_past p (q ∷ ps) h = refl

some_piece : (s : ℕ) (bs : List ℕ) → 0 < length (pieces s bs)
some_piece s bs = omega (arith, length-slice_split (λ b. eqb b s) bs)

-- a separator at the end begins no piece that is kept
pub ended : (s : ℕ) (bs : List ℕ) → shut (pieces s (bs ++ s ∷ [])) ≡ pieces s bs
ended s [] = ap (λ t. shut (cond {A = List (List ℕ)} t ([] ∷ [] ∷ []) (onto_first s ([] ∷ [])))) (eq-eqb s s refl)
ended s (b ∷ bs) =
    let ps = pieces s (bs ++ s ∷ []) in
    elim (eqb b s) as (λ t. shut (cond {A = List (List ℕ)} t ([] ∷ ps) (onto_first b ps)) ≡ cond t ([] ∷ pieces s bs) (onto_first b (pieces s bs))) [
      | true ↦ shut_past [] ps (some_piece s (bs ++ s ∷ [])) ∙ ap (λ l. [] ∷ l) (ended s bs)
      | false ↦ shut_onto b ps ∙ ap (onto_first b) (ended s bs)
    ]

-- where no separator ends the text, all pieces are kept
pub unended : (s : ℕ) (bs : List ℕ) (i : ℕ) → length bs ≡ suc i → (get_or bs i 0 ≡ s → ⊥) → shut (pieces s bs) ≡ pieces s bs
unended s [] i l ne = absurd (omega arith)
unended s (b ∷ []) zero l ne = ap (λ t. shut (cond {A = List (List ℕ)} t ([] ∷ [] ∷ []) (onto_first b ([] ∷ [])))) (ne_eqb b s ne) ∙ sym (ap (λ t. cond {A = List (List ℕ)} t ([] ∷ [] ∷ []) (onto_first b ([] ∷ []))) (ne_eqb b s ne))
unended s (b ∷ []) (suc i) l ne = absurd (omega arith)
unended s (b ∷ c ∷ bs) zero l ne = absurd (omega arith)
unended s (b ∷ c ∷ bs) (suc i) l ne =
    let ps = pieces s (c ∷ bs) in
    let kept = unended s (c ∷ bs) i (omega arith) ne in
    elim (eqb b s) as (λ t. shut (cond {A = List (List ℕ)} t ([] ∷ ps) (onto_first b ps)) ≡ cond t ([] ∷ ps) (onto_first b ps)) [
      | true ↦ shut_past [] ps (some_piece s (c ∷ bs)) ∙ ap (λ l. [] ∷ l) kept
      | false ↦ shut_onto b ps ∙ ap (onto_first b) kept
    ]

-- a text whose last byte ends a line
pub ended_text : (bs : List ℕ) (i : ℕ) → length bs ≡ suc i → get_or bs i 0 ≡ 10 → lines_of bs ≡ pieces 10 (take i bs)
ended_text bs i l e =
    let parts : bs ≡ take i bs ++ 10 ∷ [] = sym (take_all (suc i) bs (omega arith)) ∙ take-suc bs i 0 (omega arith) ∙ ap (λ b. take i bs ++ b ∷ []) e in
    ap lines_of parts ∙ ended 10 (take i bs)

-- Laws of the day file's bytes.
use Rattle.std.proofs.Common.{◌≡◌, ℕ, ◌+◌, ◌*◌, ◌/◌, ◌≤◌, Bool, true, false, cond, ◌&&◌, List, [], ◌∷◌, length, get_or, take, drop, Some, None, Option, sym, refl, ap, ◌∙◌, arith, le-leb, Bor}
use Rattle.std.proofs.lemmas.List.{take-take, drop-take}
use Rattle.std.specs.Bool.{then_some}
use Rattle.std.specs.Option.{option_map}
use Rattle.std.specs.Iterator.{YieldsFirst}
use Rattle.std.specs.Iterator.Runs.{YieldsInOrder}
use Rattle.std.proofs.iter.runs.Sources.{from_front, as_is}
use Rattle.dayfile.specs.declared.Entry.{Entry}
use Rattle.dayfile.specs.Format.{Commit, pairs, twos, fits}
use Rattle.dayfile.specs.Reading.{entry_at, taken, commit_of}
use Rattle.dayfile.specs.Said.{said, numbers_of}

-- a run over pairs gives their numbers in turn
pub pairs_in_order : YieldsInOrder (YieldsFirst numbers_of) numbers_of
pairs_in_order p s = as_is p (numbers_of p.from) (from_front (YieldsFirst numbers_of) (λ x. x) numbers_of (λ s t h. ap length h.0) (λ s x t h. h) p s)

pub length_twos : (xs : List ℕ) → length (twos xs) ≡ 2 * length xs
length_twos [] = refl
length_twos (x ∷ xs) = omega (arith, length_twos xs)

pub length_pairs : (xs : List ℕ) → length (pairs xs) ≡ length xs / 2
length_pairs [] = refl
length_pairs (x ∷ []) = refl
length_pairs (x ∷ y ∷ xs) = omega (arith, length_pairs xs)

-- bytes that begin an entry, taken apart
pub entry_at_five : (n b : ℕ) (xs : List ℕ) → 5 ≤ length xs → entry_at n b xs ≡ taken n b (get_or xs 0 0) (get_or xs 1 0) (get_or xs 2 0) (get_or xs 3 0) (get_or xs 4 0) (drop 5 xs)
entry_at_five n b [] h = absurd (omega arith)
entry_at_five n b (c ∷ []) h = absurd (omega arith)
entry_at_five n b (c ∷ d ∷ []) h = absurd (omega arith)
entry_at_five n b (c ∷ d ∷ e ∷ []) h = absurd (omega arith)
entry_at_five n b (c ∷ d ∷ e ∷ f ∷ []) h = absurd (omega arith)
entry_at_five n b (c ∷ d ∷ e ∷ f ∷ g ∷ xs) h = refl

-- an entry that the reader cut from xs
pub record Cut (xs : List ℕ) (e : Entry) (front after : List ℕ) : Type 0 where
  pub long : 5 ≤ length xs
  pub room : 2 * get_or xs 1 0 + 2 * get_or xs 2 0 ≤ length (drop 5 xs)
  pub console : e.console ≡ get_or xs 0 0
  pub low : e.low ≡ get_or xs 3 0 * 256 + get_or xs 4 0
  pub cut : front ≡ take (2 * get_or xs 1 0 + 2 * get_or xs 2 0) (drop 5 xs)
  pub left : after ≡ drop (2 * get_or xs 1 0 + 2 * get_or xs 2 0) (drop 5 xs)
  pub reads : e.reads.now ≡ take (2 * get_or xs 1 0) front
  pub writes : e.writes.now ≡ drop (2 * get_or xs 1 0) front

-- it is the entry at the place where it stands, if its fields are in range
pub cut_is : (n b : ℕ) (xs : List ℕ) (e : Entry) (front after : List ℕ) → Cut xs e front after → cond (fits n b (said e)) (Some (said e, after)) None ≡ entry_at n b xs
cut_is n b xs e front after h =
    let nr = get_or xs 1 0 in
    let nw = get_or xs 2 0 in
    let rest = drop 5 xs in
    let E = commit_of (get_or xs 0 0) nr nw (get_or xs 3 0) (get_or xs 4 0) rest in
    let reads = h.reads ∙ ap (take (2 * nr)) h.cut ∙ take-take (2 * nr) (2 * nr + 2 * nw) rest (omega arith) in
    let writes = h.writes ∙ ap (drop (2 * nr)) h.cut ∙ drop-take (2 * nr) (2 * nw) rest in
    let same : said e ≡ E = λ i. record { console = h.console i; low = h.low i; reads = pairs (reads i); writes = pairs (writes i) } in
    (λ i. cond {A = Option (Commit × List ℕ)} (fits n b (same i)) (Some (same i, h.left i)) None)
    ∙ sym (ap (λ t. cond {A = Option (Commit × List ℕ)} (t && fits n b E) (Some (E, drop (2 * nr + 2 * nw) rest)) None) (le-leb _ _ h.room))
    ∙ sym (entry_at_five n b xs h.long)

-- what the reader answers of an entry that it cut
pub some_when : (t : Bool) (e : Entry) (after : Bor (List ℕ)) → option_map {T = Entry × Bor (List ℕ)} {U = Commit × List ℕ} (λ p. (said p.0, p.1.now)) (then_some t (e, after)) ≡ cond t (Some (said e, after.now)) None
some_when true e after = refl
some_when false e after = refl

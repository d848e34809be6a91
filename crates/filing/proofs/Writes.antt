-- A day file that takes every entry of a day.
use Rattle.std.proofs.Common.{◌≡◌, ℕ, ◌+◌, ◌*◌, ◌<◌, ◌≤◌, true, leb, List, [], ◌∷◌, ◌++◌, map, length, get_or, take, drop, sym, refl, ap, ◌∙◌, subst, arith}
use Rattle.std.proofs.lemmas.List.{at_drop_more, take_more, length-map}
use Rattle.std.proofs.lemmas.Bool.{and_parts, and_from, le-leb, le-ltb, cond-true, cond-false}
use Rattle.store.specs.Refusals.{Answer}
use Rattle.store.specs.Refusals.Answer.{gives}
use Rattle.dayfile.specs.Format.{Commit, fits, sound, entry_bytes}
use Rattle.dayfile.proofs.Walks.{fits_came}
use Rattle.daywriter.specs.Writing.{Extent, Writer, started, start_of, after, added}
use Rattle.daywriter.specs.Files.{and_then, taken_all, check_all}
use Rattle.daywriter.proofs.Overs.{length_entry}
use Rattle.daywriter.proofs.Runs.{Filling, taken_to, filling_more}
use Rattle.certifier.specs.Entries.{Entry}
use Rattle.filing.specs.Filing.{commit_of, commits_of}

-- an entry in range has 165 bytes at most
entry_small : (n b : ℕ) (e : Commit) → fits n b e ≡ true → length (entry_bytes e) ≤ 165
entry_small n b e f = let c = fits_came n b e f in let l = length_entry e in omega (arith, c.reads, c.writes)

-- entries in range are all taken where there is room for so many
takes_all : (room : ℕ) (x : Extent) (es : List Commit) → sound (x.count + 1) x.made es ≡ true → x.count + length es ≤ 4000 → x.at + 165 * length es + 10 ≤ room
    → (y : Extent) × (taken_all room x es ≡ gives y)
takes_all room x [] s d r = (x, refl)
takes_all room x (e ∷ es) s d r =
    let h = and_parts (fits (x.count + 1) x.made e) (sound (x.count + 1 + 1) (x.made + length e.writes) es) s in
    let small = entry_small (x.count + 1) x.made e h.0 in
    let t = taken_to room x e (record { fit = h.0; more = omega arith; within = omega (arith, small) }) in
    let rest = takes_all room (after x e) es h.1 (omega arith) (omega (arith, small)) in
    (rest.0, ap (λ (a : Answer Unit). and_then a (λ u. taken_all room (after x e) es)) t ∙ rest.1)

-- a day's file starts, and takes all its entries
pub day_starts : (room r : ℕ) → 10 ≤ room → 1 ≤ r → r ≤ 256 → start_of room r ≡ gives (started r)
day_starts room r long some few = cond-false _ _ _ (le-ltb room 10 long) ∙ cond-true _ _ _ (and_from (leb 1 r) (leb r 256) (le-leb 1 r some) (le-leb r 256 few))

pub day_taken : (room r : ℕ) (es : List Commit) → 1 ≤ r → r ≤ 256 → length es ≤ 4000 → sound 1 r es ≡ true → 165 * length es + 10 ≤ room → (y : Extent) × (check_all room r es ≡ gives y)
day_taken room r es some few short s long =
    let all = takes_all room (started r) es s (omega arith) (omega arith) in
    (all.0, ap (λ (a : Answer Extent). and_then a (λ x. taken_all room x es)) (day_starts room r (omega arith) some few) ∙ all.1)

-- a loop over what stands for entries
module _ {A : Type 0} (f : A → Entry) (xs : List A) where
  commits_append : (ys zs : List A) → commits_of (map f (ys ++ zs)) ≡ commits_of (map f ys) ++ commits_of (map f zs)
  commits_append [] zs = refl
  commits_append (y ∷ ys) zs = ap (λ (l : List Commit). commit_of (f y) ∷ l) (commits_append ys zs)

  pub commits_long : length (commits_of (map f xs)) ≡ length xs
  commits_long = length-map (map f xs) commit_of ∙ length-map xs f

  module _ (b : List ℕ) (r i : ℕ) (d : A) (h : i < length xs) (w : Writer) (a : A) (is : a ≡ get_or xs i d) (inv : Filling b r (commits_of (map f (take i xs))) (commits_of (map f (drop i xs))) w) where
    turn : Filling b r (commits_of (map f (take i xs))) (commit_of (f a) ∷ commits_of (map f (drop (i + 1) xs))) w
    turn =
        let P : List Commit → Type 0 = λ l. Filling b r (commits_of (map f (take i xs))) l w in
        subst P (at_drop_more (λ (l : List A). commits_of (map f l)) xs i d h ∙ ap (λ (x : A). commit_of (f x) ∷ commits_of (map f (drop (i + 1) xs))) (sym is)) inv

    -- and the file goes on
    pub turn_more : (v : Writer) → v ≡ added w (commit_of (f a)) → Filling b r (commits_of (map f (take (i + 1) xs))) (commits_of (map f (drop (i + 1) xs))) v
    turn_more v e =
        let P : List Commit → Type 0 = λ l. Filling b r l (commits_of (map f (drop (i + 1) xs))) v in
        let front : commits_of (map f (take (i + 1) xs)) ≡ commits_of (map f (take i xs)) ++ (commit_of (f a) ∷ []) =
        ap (λ (l : List A). commits_of (map f l)) (take_more xs i d h) ∙ (commits_append (take i xs) (get_or xs i d ∷ []) ∙ ap (λ (x : A). commits_of (map f (take i xs)) ++ (commit_of (f x) ∷ [])) (sym is)) in
        subst P (sym front) (filling_more b r (commits_of (map f (take i xs))) (commits_of (map f (drop (i + 1) xs))) w (commit_of (f a)) turn v e)

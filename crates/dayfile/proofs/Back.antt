-- Reading what was written gives the entries that were written.
use Rattle.std.proofs.Common.{◌≡◌, ℕ, ◌+◌, ◌-◌, ◌*◌, ◌/◌, ◌%◌, ◌≤◌, true, cond, ◌&&◌, leb, List, [], ◌∷◌, ◌++◌, length, take, drop, Some, None, Option, sym, refl, ap, ◌∙◌, append_assoc, arith, le-ltb, le-leb}
use Rattle.std.proofs.lemmas.Bool.{and_parts, and_from, cond-true, cond-false}
use Rattle.std.proofs.lemmas.List.{take_at, drop_at, length-append}
use Rattle.store.specs.Refusals.Answer.{gives}
use Rattle.dayfile.specs.Format.{Commit, pairs, twos, entry_bytes, body_bytes, trailer_bytes, file_bytes, fits, sound}
use Rattle.dayfile.specs.Reading.{Shape, entry_at, commit_of, entries_in, onto, read_of, trailed, pointed, filled, entries_of, body_of, points}
use Rattle.dayfile.proofs.Bytes.{length_twos}

halves : (n : ℕ) → n / 256 * 256 + n % 256 ≡ n
halves n = omega arith

pub pairs_twos : (xs : List ℕ) → pairs (twos xs) ≡ xs
pairs_twos [] = refl
pairs_twos (x ∷ xs) = λ i. halves x i ∷ pairs_twos xs i

-- one entry and what follows it
pub entry_back : (n b : ℕ) (e : Commit) (rest : List ℕ) → fits n b e ≡ true → entry_at n b (entry_bytes e ++ rest) ≡ Some (e, rest)
entry_back n b e rest f =
    let nr = length e.reads in
    let nw = length e.writes in
    let R = twos e.reads in
    let W = twos e.writes in
    let tail = (R ++ W) ++ rest in
    let lr = length_twos e.reads in
    let lw = length_twos e.writes in
    let reads : take (2 * nr) tail ≡ R = ap (take (2 * nr)) (append_assoc R W rest) ∙ take_at R (W ++ rest) (2 * nr) lr in
    let later : drop (2 * nr) tail ≡ W ++ rest = ap (drop (2 * nr)) (append_assoc R W rest) ∙ drop_at R (W ++ rest) (2 * nr) lr in
    let writes : take (2 * nw) (drop (2 * nr) tail) ≡ W = ap (take (2 * nw)) later ∙ take_at W rest (2 * nw) lw in
    let both : length (R ++ W) ≡ 2 * nr + 2 * nw = omega (arith, length-append R W) in
    let left : drop (2 * nr + 2 * nw) tail ≡ rest = drop_at (R ++ W) rest (2 * nr + 2 * nw) both in
    let room : 2 * nr + 2 * nw ≤ length tail = omega (arith, length-append (R ++ W) rest) in
    let same : commit_of e.console nr nw (e.low / 256) (e.low % 256) tail ≡ e =
    λ i. record { console = e.console; low = halves e.low i; reads = (ap pairs reads ∙ pairs_twos e.reads) i; writes = (ap pairs writes ∙ pairs_twos e.writes) i } in
    (λ i. cond {A = Option (Commit × List ℕ)} (leb (2 * nr + 2 * nw) (length tail) && fits n b (same i)) (Some (same i, left i)) None)
    ∙ cond-true _ _ _ (and_from _ _ (le-leb _ _ room) f)

pub entries_back : (es : List Commit) (p b : ℕ) → sound p b es ≡ true → entries_in (length es) p b (body_bytes es) ≡ Some es
entries_back [] p b s = refl
entries_back (e ∷ es) p b s =
    let h = and_parts _ _ s in
    ap (λ o. elim o [ None ↦ None | Some t ↦ onto t.0 (entries_in (length es) (p + 1) (b + length t.0.writes) t.1) ]) (entry_back p b e (body_bytes es) h.0)
    ∙ ap (onto e) (entries_back es (p + 1) (b + length e.writes) h.1)

four_bytes : (n : ℕ) → n / 16777216 * 16777216 + n / 65536 % 256 * 65536 + n / 256 % 256 * 256 + n % 256 ≡ n
four_bytes n = omega arith

-- a file, behind any bytes
pub read_back : (front : List ℕ) (r : ℕ) (es : List Commit) → 1 ≤ r → r ≤ 256 → length es ≤ 4000 → sound 1 r es ≡ true
    → read_of (front ++ file_bytes r es) ≡ gives (record { offset = length front; records = r; count = length es; part = file_bytes r es })
read_back front r es lo hi few s =
    let B = body_bytes es in
    let len = length B in
    let n = length es in
    let T = trailer_bytes r n len in
    let file = file_bytes r es in
    let bs = front ++ file in
    let fl : length file ≡ len + 10 = length-append B T in
    let bl : length bs ≡ length front + (len + 10) = length-append front file ∙ ap (λ k. length front + k) fl in
    let fb : length (front ++ B) ≡ length bs - 10 = omega (arith, length-append front B) in
    let tail : drop (length bs - 10) bs ≡ T = ap (drop (length bs - 10)) (sym (append_assoc front B T)) ∙ drop_at (front ++ B) T (length bs - 10) fb in
    let place : length bs - 10 - len ≡ length front = omega arith in
    let part : drop (length bs - 10 - len) bs ≡ file = drop_at front file (length bs - 10 - len) (sym place) in
    let body : body_of file ≡ B = take_at B T (length file - 10) (omega arith) in
    let points-so : points r n len (length bs - 10) ≡ true = and_from _ _ (le-leb 1 r lo) (and_from _ _ (le-leb r 256 hi) (and_from _ _ (le-leb n 4000 few) (le-leb len (length bs - 10) (omega arith)))) in
    let long : 10 ≤ length bs = omega arith in
    let there : Shape = record { offset = length front; records = r; count = n; part = file } in
    cond-false _ _ _ (le-ltb (length bs) 10 long)
    ∙ ap (trailed bs) tail
    ∙ (λ i. pointed bs (halves r i) (halves n i) (four_bytes len i))
    ∙ cond-true _ _ _ points-so
    ∙ (λ i. let s : Shape = record { offset = place i; records = r; count = n; part = part i } in filled s (entries_of s))
    ∙ ap (λ b. filled there (entries_in n 1 r b)) body
    ∙ ap (filled there) (entries_back es 1 r s)

-- the entries of a file of entries
pub entries_of_file : (offset r : ℕ) (es : List Commit) → sound 1 r es ≡ true → entries_of (record { offset = offset; records = r; count = length es; part = file_bytes r es }) ≡ Some es
entries_of_file offset r es s =
    let B = body_bytes es in
    let T = trailer_bytes r (length es) (length B) in
    let len = length-append B T in
    ap (entries_in (length es) 1 r) (take_at B T (length (file_bytes r es) - 10) (omega arith)) ∙ entries_back es 1 r s

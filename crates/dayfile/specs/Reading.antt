-- A day file read: what bytes say, which are refused, and a walk over the entries.
use Rattle.std.specs.Prelude.{◌≡◌, ℕ, zero, suc, ◌+◌, ◌-◌, ◌*◌, ◌≤◌, Bool, true, cond, ◌&&◌, List, [], ◌∷◌, length, take, drop, is_some, Some, None, Option, ◌==◌, nat_le, nat_lt, slice_index}
use Rattle.store.specs.Refusals.{Answer}
use Rattle.store.specs.Refusals.Answer.{gives, refuses}
use Rattle.dayfile.specs.Refusals.{too_short, no_mark, bad_pointer, bad_entry}
use Rattle.dayfile.specs.Format.{Commit, pairs, fits, file_bytes}

-- the entry that five bytes and what follows them say, whatever its ranges
abbrev pub commit_of : ℕ → ℕ → ℕ → ℕ → ℕ → List ℕ → Commit
commit_of c nr nw h l rest = record { console = c; low = h * 256 + l; reads = pairs (take (2 * nr) rest); writes = pairs (take (2 * nw) (drop (2 * nr) rest)) }

abbrev pub taken : ℕ → ℕ → ℕ → ℕ → ℕ → ℕ → ℕ → List ℕ → Option (Commit × List ℕ)
taken n b c nr nw h l rest =
    cond (nat_le (2 * nr + 2 * nw) (length rest) && fits n b (commit_of c nr nw h l rest)) (Some (commit_of c nr nw h l rest, drop (2 * nr + 2 * nw) rest)) None

-- the entry at place n, where b versions were made before it, and the bytes behind it
abbrev pub entry_at : ℕ → ℕ → List ℕ → Option (Commit × List ℕ)
entry_at n b [] = None
entry_at n b (c ∷ []) = None
entry_at n b (c ∷ nr ∷ []) = None
entry_at n b (c ∷ nr ∷ nw ∷ []) = None
entry_at n b (c ∷ nr ∷ nw ∷ h ∷ []) = None
entry_at n b (c ∷ nr ∷ nw ∷ h ∷ l ∷ rest) = taken n b c nr nw h l rest

-- an entry before those that follow it
abbrev pub onto : Commit → Option (List Commit) → Option (List Commit)
onto e None = None
onto e (Some es) = Some (e ∷ es)

-- n entries from place p on, which fill the bytes exactly
abbrev pub entries_in : ℕ → ℕ → ℕ → List ℕ → Option (List Commit)
entries_in zero p b [] = Some []
entries_in zero p b (x ∷ xs) = None
entries_in (suc n) p b bs = elim (entry_at p b bs) [ None ↦ None | Some t ↦ onto t.0 (entries_in n (p + 1) (b + length t.0.writes) t.1) ]

-- a file at the end of some bytes: the part of them that it fills, where that begins, and its trailer's numbers
pub record Shape : Type 0 where
  pub offset : ℕ
  pub records : ℕ
  pub count : ℕ
  pub part : List ℕ

-- the bytes in front of the trailer
abbrev pub body_of : List ℕ → List ℕ
body_of part = take (length part - 10) part

abbrev pub entries_of : Shape → Option (List Commit)
entries_of s = entries_in s.count 1 s.records (body_of s.part)

-- what the ten bytes of a trailer say
abbrev pub records_in : List ℕ → ℕ
records_in t = slice_index t 2 * 256 + slice_index t 3

abbrev pub count_in : List ℕ → ℕ
count_in t = slice_index t 4 * 256 + slice_index t 5

abbrev pub length_in : List ℕ → ℕ
length_in t = slice_index t 6 * 16777216 + slice_index t 7 * 65536 + slice_index t 8 * 256 + slice_index t 9

abbrev pub marked : List ℕ → Bool
marked t = slice_index t 0 == 82 && slice_index t 1 == 84

-- a trailer with the mark, and its numbers
pub record Says (t : List ℕ) (r n len : ℕ) : Type 0 where
  pub mark : marked t ≡ true
  pub records : r ≡ records_in t
  pub count : n ≡ count_in t
  pub extent : len ≡ length_in t

-- the trailer's numbers are in range, with so many bytes in front of it
abbrev pub points : ℕ → ℕ → ℕ → ℕ → Bool
points r n len front = nat_le 1 r && (nat_le r 256 && (nat_le n 4000 && nat_le len front))

-- the file that a trailer of these numbers points to
abbrev pub shape_at : List ℕ → ℕ → ℕ → ℕ → Shape
shape_at bs r n len = record { offset = length bs - 10 - len; records = r; count = n; part = drop (length bs - 10 - len) bs }

-- check 33
abbrev pub filled : Shape → Option (List Commit) → Answer Shape
filled s None = refuses bad_entry
filled s (Some es) = gives s

-- check 32, then 33
abbrev pub pointed : List ℕ → ℕ → ℕ → ℕ → Answer Shape
pointed bs r n len = cond (points r n len (length bs - 10)) (filled (shape_at bs r n len) (entries_of (shape_at bs r n len))) (refuses bad_pointer)

-- check 31, then the others
abbrev pub trailed : List ℕ → List ℕ → Answer Shape
trailed bs t = cond (marked t) (pointed bs (records_in t) (count_in t) (length_in t)) (refuses no_mark)

-- what the reader answers: check 30, then the others, of the last ten bytes
abbrev pub read_of : List ℕ → Answer Shape
read_of bs = cond (nat_lt (length bs) 10) (refuses too_short) (trailed bs (drop (length bs - 10) bs))

-- what holds of a file that was read
pub record Whole (s : Shape) : Type 0 where
  pub long : 10 ≤ length s.part
  pub some : 1 ≤ s.records
  pub few : s.records ≤ 256
  pub short : s.count ≤ 4000
  -- its bytes say entries
  pub full : is_some (entries_of s) ≡ true
  -- and the file of those entries is exactly its bytes
  pub again : (es : List Commit) → entries_of s ≡ Some es → s.part ≡ file_bytes s.records es

-- a walk over entries: how many are left, the place of the next, how many versions were made before it, and the bytes from it on
pub record Walk : Type 0 where
  pub left : ℕ
  pub place : ℕ
  pub bound : ℕ
  pub rest : List ℕ

-- the walk over a file's entries at its start
abbrev pub walk_at : Shape → Walk
walk_at s = record { left = s.count; place = 1; bound = s.records; rest = body_of s.part }

-- the walk past an entry, with the bytes behind it
abbrev pub past : Walk → Commit → List ℕ → Walk
past w e after = record { left = w.left - 1; place = w.place + 1; bound = w.bound + length e.writes; rest = after }

-- the next entry and the walk past it; where the bytes say none, none, and the walk as it is
abbrev pub next_of : Walk → Option (Commit × List ℕ) → Option Commit × Walk
next_of w None = (None, w)
next_of w (Some t) = (Some t.0, past w t.0 t.1)

-- one step of a walk
abbrev pub step_of : Walk → Option Commit × Walk
step_of w = cond (w.left == 0) (None, w) (next_of w (entry_at w.place w.bound w.rest))

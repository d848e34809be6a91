-- Marks: what is kept of each version and of each open transaction, and the marks that a commit is judged by.
use Rattle.std.specs.Prelude.{◌≡◌, ℕ, min, max, Bool, cond, not, ◌||◌, List, [], ◌∷◌, ◌++◌, map, length, Some, None, Option, ◌==◌, nat_le, nat_lt, slice_index_or, slice_set}
use Rattle.std.specs.List.{list_any, fold}
use Rattle.certifier.specs.declared.Grant.{Grant}
use Rattle.certifier.specs.declared.Mark.{Mark}
use Rattle.certifier.specs.declared.Over.{Over}

-- an open transaction: the versions that it noted, and for each record that it wrote the version that it overwrites there
pub record Track : Type 0 where
  pub noted : List ℕ
  pub writes : List Over

abbrev pub no_track : Track
no_track = record { noted = []; writes = [] }

-- the track of console k
abbrev pub track_in : List Track → ℕ → Track
track_in ts k = slice_index_or ts k no_track

-- the versions that it overwrites, as first written
abbrev pub overs_of : List Over → List ℕ
overs_of ws = map (λ w. w.version) ws

-- whether the number n is in the list
abbrev pub member : ℕ → List ℕ → Bool
member n xs = list_any (λ x. x == n) xs

-- whether the record r is among those written
abbrev pub wrote : ℕ → List Over → Bool
wrote r ws = list_any (λ w. w.at == r) ws

-- the list with n in it, each number once
abbrev pub note_in : ℕ → List ℕ → List ℕ
note_in n xs = cond (member n xs) xs (xs ++ (n ∷ []))

abbrev pub noted : Track → ℕ → Track
noted t n = record { noted = note_in n t.noted; writes = t.writes }

-- whether version n can be noted: 64 at most
abbrev pub notes : Track → ℕ → Bool
notes t n = member n t.noted || not (nat_le 64 (length t.noted))

-- the track with a write at record r, which overwrites version n: each record once, 16 at most
abbrev pub written : Track → ℕ → ℕ → Track
written t r n = record { noted = t.noted; writes = cond (wrote r t.writes || nat_le 16 (length t.writes)) t.writes (t.writes ++ (record { at = r; version = n } ∷ [])) }

-- the marks of a version that commit c makes; those of the opening have c = 0
abbrev pub new_mark : ℕ → Mark
new_mark c = record { stamp = c; high = c; low = None }

-- the marks of version n
abbrev pub mark_at : List Mark → ℕ → Mark
mark_at ms n = slice_index_or ms n (new_mark 0)

abbrev pub low_or : ℕ → Option ℕ → ℕ
low_or n None = n
low_or n (Some m) = min n m

-- the smallest of l and the low marks present on the versions ns
abbrev pub low_mark : List Mark → ℕ → List ℕ → ℕ
low_mark ms l ns = fold (λ low n. low_or low (mark_at ms n).low) l ns

-- the greatest of h and the stamps of the versions ns
abbrev pub top_stamp : List Mark → ℕ → List ℕ → ℕ
top_stamp ms h ns = fold (λ high n. max high (mark_at ms n).stamp) h ns

-- the greatest of h and the high marks of the versions that ws overwrites
abbrev pub top_high : List Mark → ℕ → List Over → ℕ
top_high ms h ws = fold (λ high w. max high (mark_at ms w.version).high) h ws

-- the stamp and the marks of a transaction that would commit at c
abbrev pub verdict_of : List Mark → ℕ → Track → Grant
verdict_of ms c t = record { stamp = c; low = low_mark ms c t.noted; high = top_high ms (top_stamp ms 0 t.noted) t.writes }

-- the row of version n changed by f, where there is one
abbrev pub changed : (Mark → Mark) → List Mark → ℕ → List Mark
changed f ms n = slice_set ms n (f (mark_at ms n))

-- the rows of the versions ns changed one after another, by what computes a function of a row
abbrev pub Changes : (Mark → Mark → Type 0) → List Mark → List ℕ → List Mark → Type 0
Changes step ms ns ms' = (f : Mark → Mark) → ((m m' : Mark) → step m m' → m' ≡ f m) → ms' ≡ fold (changed f) ms ns

-- one row of the table: its high mark raised, or its low mark set
abbrev pub raise_row : List Mark → ℕ → ℕ → List Mark
raise_row ms c n = slice_set ms n (record { stamp = (mark_at ms n).stamp; high = c; low = (mark_at ms n).low })

abbrev pub lower_row : List Mark → ℕ → ℕ → List Mark
lower_row ms l n = slice_set ms n (record { stamp = (mark_at ms n).stamp; high = (mark_at ms n).high; low = Some l })

-- one row more, where the table has place for it
abbrev pub add_row : ℕ → List Mark → ℕ → List Mark
add_row places ms c = cond (nat_lt (length ms) places) (ms ++ (new_mark c ∷ [])) ms

-- several rows raised, lowered or added, one after another
abbrev pub raised : List Mark → ℕ → List ℕ → List Mark
raised ms c ns = fold (λ rows n. raise_row rows c n) ms ns

abbrev pub lowered : List Mark → ℕ → List Over → List Mark
lowered ms l ws = fold (λ rows w. lower_row rows l w.version) ms ws

abbrev pub grown : ℕ → List Mark → ℕ → List Over → List Mark
grown places ms c ws = fold (λ rows w. add_row places rows c) ms ws

-- the marks after a commit at c with low mark l: the noted versions' high marks, the overwritten ones' low marks, the new versions
abbrev pub marked : ℕ → List Mark → ℕ → ℕ → Track → List Mark
marked places ms c l t = grown places (lowered (raised ms c t.noted) l t.writes) c t.writes

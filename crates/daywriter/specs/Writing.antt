-- A day file written: what starting, adding and closing answer, and what they leave.
use Rattle.std.specs.Prelude.{◌≡◌, ℕ, ◌+◌, ◌<◌, Bool, true, cond, ◌&&◌, List, ◌++◌, length, take, drop, nat_le, nat_lt}
use Rattle.store.specs.Refusals.{Answer}
use Rattle.store.specs.Refusals.Answer.{gives, refuses}
use Rattle.dayfile.specs.Refusals.{too_short, bad_pointer, bad_entry, file_full}
use Rattle.dayfile.specs.Format.{Commit, below, fits, entry_bytes, trailer_bytes}

-- b with s over it from a place on; its other bytes stay
abbrev pub over : List ℕ → ℕ → List ℕ → List ℕ
over b at s = take at b ++ (s ++ drop (at + length s) b)

-- each field of an entry fits the bytes that a file has for it
pub record FitsBytes (e : Commit) : Type 0 where
  pub console : e.console < 256
  pub reads : length e.reads < 256
  pub writes : length e.writes < 256
  pub low : e.low < 65536
  pub read : below 65536 e.reads ≡ true
  pub written : below 65536 e.writes ≡ true

-- how far a file has come: its records, the entries so far, the versions made, and the bytes
pub record Extent : Type 0 where
  pub records : ℕ
  pub count : ℕ
  pub made : ℕ
  pub at : ℕ

abbrev pub started : ℕ → Extent
started r = record { records = r; count = 0; made = r; at = 0 }

-- starting a file of r records in a buffer of so many bytes: checks 30, then 32
abbrev pub start_of : ℕ → ℕ → Answer Extent
start_of room r = cond (nat_lt room 10) (refuses too_short) (cond (nat_le 1 r && nat_le r 256) (gives (started r)) (refuses bad_pointer))

-- one more entry of so many bytes is not the 4,001st, and fits in front of the trailer
abbrev pub has_room : ℕ → Extent → ℕ → Bool
has_room room x size = nat_lt x.count 4000 && nat_le (x.at + size + 10) room

-- whether an entry is taken: checks 33, then 34
abbrev pub taking : ℕ → Extent → Commit → Answer Unit
taking room x e = cond (fits (x.count + 1) x.made e) (cond (has_room room x (length (entry_bytes e))) (gives tt) (refuses file_full)) (refuses bad_entry)

abbrev pub after : Extent → Commit → Extent
after x e = record { records = x.records; count = x.count + 1; made = x.made + length e.writes; at = x.at + length (entry_bytes e) }

-- a file under writing, and the bytes of its buffer
pub record Writer : Type 0 where
  pub extent : Extent
  pub bytes : List ℕ

abbrev pub added : Writer → Commit → Writer
added w e = record { extent = after w.extent e; bytes = over w.bytes w.extent.at (entry_bytes e) }

-- what is left after an answer: the state before, or the next
abbrev pub settled : {A : Type 0} → Answer Unit → A → A → A
settled (gives u) was then = then
settled (refuses c) was then = was

-- adding an entry
abbrev pub add_of : Writer → Commit → Answer Unit × Writer
add_of w e = (taking (length w.bytes) w.extent e, settled (taking (length w.bytes) w.extent e) w (added w e))

-- a closed file: the bytes of its buffer, and how many at their front are the file
pub record Closed : Type 0 where
  pub bytes : List ℕ
  pub len : ℕ

-- closing a file; where the buffer has no room for the trailer, nothing is written and the file has no bytes
abbrev pub close_of : Writer → Closed
close_of w = cond (nat_le (w.extent.at + 10) (length w.bytes))
    (record { bytes = over w.bytes w.extent.at (trailer_bytes w.extent.records w.extent.count w.extent.at); len = w.extent.at + 10 })
    (record { bytes = w.bytes; len = 0 })

-- Whole files: one written at once, one copied, and the two round trips.
use Rattle.std.specs.Prelude.{◌≡◌, ℕ, cond, List, [], ◌∷◌, length, Some, nat_le}
use Rattle.store.specs.Refusals.{Answer}
use Rattle.store.specs.Refusals.Answer.{gives, refuses}
use Rattle.dayfile.specs.Refusals.{file_full}
use Rattle.dayfile.specs.Format.{Commit, file_bytes}
use Rattle.dayfile.specs.Reading.{Shape, read_of, entries_of}
use Rattle.daywriter.specs.Writing.{over, Extent, start_of, taking, after}

-- what comes of a first answer: its refusal, or what follows
abbrev pub and_then : {A B : Type 0} → Answer A → (A → Answer B) → Answer B
and_then (gives a) f = f a
and_then (refuses c) f = refuses c

-- entries one after another, up to the first that is refused
abbrev pub taken_all : ℕ → Extent → List Commit → Answer Extent
taken_all room x [] = gives x
taken_all room x (e ∷ es) = and_then (taking room x e) (λ u. taken_all room (after x e) es)

-- starting a file, then all its entries
abbrev pub check_all : ℕ → ℕ → List Commit → Answer Extent
check_all room r es = and_then (start_of room r) (λ x. taken_all room x es)

-- a file put into a buffer: its length and the buffer; a refusal leaves the buffer as it is
abbrev pub written : {A : Type 0} → List ℕ → List ℕ → Answer A → Answer ℕ × List ℕ
written b file (gives x) = (gives (length file), over b 0 file)
written b file (refuses c) = (refuses c, b)

-- writing the file of r records with the entries es into the buffer b
abbrev pub write_of : List ℕ → ℕ → List Commit → Answer ℕ × List ℕ
write_of b r es = written b (file_bytes r es) (check_all (length b) r es)

-- reading these bytes gives a file of r records that they fill, with the entries es
pub record Reads (bs : List ℕ) (r : ℕ) (es : List Commit) : Type 0 where
  pub read : read_of bs ≡ gives (record { offset = 0; records = r; count = length es; part = bs })
  pub entries : entries_of (record { offset = 0; records = r; count = length es; part = bs }) ≡ Some es

-- copying the file that was read into the buffer b; 34 where it does not fit
abbrev pub copy_into : List ℕ → Answer Shape → Answer ℕ × List ℕ
copy_into b (gives s) = cond (nat_le (length s.part) (length b)) (gives (length s.part), over b 0 s.part) (refuses file_full, b)
copy_into b (refuses c) = (refuses c, b)

abbrev pub copy_of : List ℕ → List ℕ → Answer ℕ × List ℕ
copy_of input b = copy_into b (read_of input)

-- the bytes written are those of the entries that the input's file says
pub record Rewritten (input bs : List ℕ) : Type 0 where
  pub shape : Shape
  pub es : List Commit
  pub read : read_of input ≡ gives shape
  pub entries : entries_of shape ≡ Some es
  pub bytes : bs ≡ file_bytes shape.records es

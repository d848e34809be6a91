-- The format of a day file: the bytes of its entries and of its trailer, and the ranges of their numbers.
use Rattle.std.specs.Prelude.{ℕ, ◌+◌, ◌*◌, ◌/◌, ◌%◌, Bool, true, ◌&&◌, List, [], ◌∷◌, ◌++◌, length, nat_le, nat_lt}
use Rattle.std.specs.List.{list_all}

-- what an entry says of a committed transaction: its console, its low mark, the versions that it noted and those that it overwrote
pub record Commit : Type 0 where
  pub console : ℕ
  pub low : ℕ
  pub reads : List ℕ
  pub writes : List ℕ

-- numbers as two bytes each, high byte first
abbrev pub twos : List ℕ → List ℕ
twos [] = []
twos (n ∷ ns) = n / 256 ∷ n % 256 ∷ twos ns

-- the numbers that pairs of bytes are
abbrev pub pairs : List ℕ → List ℕ
pairs [] = []
pairs (h ∷ []) = []
pairs (h ∷ l ∷ bs) = (h * 256 + l) ∷ pairs bs

abbrev pub entry_bytes : Commit → List ℕ
entry_bytes e = e.console ∷ length e.reads ∷ length e.writes ∷ e.low / 256 ∷ e.low % 256 ∷ (twos e.reads ++ twos e.writes)

abbrev pub body_bytes : List Commit → List ℕ
body_bytes [] = []
body_bytes (e ∷ es) = entry_bytes e ++ body_bytes es

-- the mark 52 54, the number of records, the count of entries, and their length in four bytes
abbrev pub trailer_bytes : ℕ → ℕ → ℕ → List ℕ
trailer_bytes r n len = 82 ∷ 84 ∷ r / 256 ∷ r % 256 ∷ n / 256 ∷ n % 256 ∷ len / 16777216 ∷ len / 65536 % 256 ∷ len / 256 % 256 ∷ len % 256 ∷ []

-- the file of r records with the entries es
abbrev pub file_bytes : ℕ → List Commit → List ℕ
file_bytes r es = body_bytes es ++ trailer_bytes r (length es) (length (body_bytes es))

-- each number is below b
abbrev pub below : ℕ → List ℕ → Bool
below b ns = list_all (λ n. nat_lt n b) ns

-- the numbers in the head of the entry at place n are in range
abbrev pub head_fits : ℕ → ℕ → ℕ → ℕ → ℕ → Bool
head_fits n console reads writes low = nat_lt console 16 && (nat_le reads 64 && (nat_le writes 16 && (nat_le 1 low && nat_le low n)))

-- the fields of the entry at place n are in range, where b versions were made before it
abbrev pub fits : ℕ → ℕ → Commit → Bool
fits n b e = head_fits n e.console (length e.reads) (length e.writes) e.low && (below b e.reads && below b e.writes)

-- the entries from place n on are in range; each write makes one version
abbrev pub sound : ℕ → ℕ → List Commit → Bool
sound n b [] = true
sound n b (e ∷ es) = fits n b e && sound (n + 1) (b + length e.writes) es

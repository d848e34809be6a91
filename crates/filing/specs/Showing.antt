-- What is printed of the last day file in some bytes.
use Rattle.std.specs.Prelude.{ℕ, ◌+◌, List, [], ◌∷◌, ◌++◌, length, Some, None, codes, decimal, Option}
use Rattle.store.specs.Refusals.{Answer}
use Rattle.store.specs.Refusals.Answer.{gives, refuses}
use Rattle.dayfile.specs.Format.{Commit}
use Rattle.dayfile.specs.Reading.{Shape, entries_of, read_of}

-- the byte that ends a line
abbrev pub newline : List ℕ
newline = 10 ∷ []

-- numbers, each after a space
abbrev pub numbers_text : List ℕ → List ℕ
numbers_text [] = []
numbers_text (n ∷ ns) = (codes " " ++ decimal n) ++ numbers_text ns

-- the first line: where the file begins and how long it is, how many records, and how many commits
abbrev pub head_text : Shape → List ℕ
head_text s =
    codes "file " ++ (decimal s.offset ++ (codes " " ++ (decimal (length s.part) ++ (codes " records " ++ (decimal s.records ++ (codes " commits " ++ (decimal s.count ++ newline)))))))

-- the head of an entry's line: its place, its console and its low mark
abbrev pub place_text : ℕ → ℕ → ℕ → List ℕ
place_text n console low = decimal n ++ (codes " console " ++ (decimal console ++ (codes " low " ++ decimal low)))

-- the line of the entry at place n
abbrev pub entry_text : ℕ → Commit → List ℕ
entry_text n e = place_text n e.console e.low ++ (codes " reads" ++ (numbers_text e.reads ++ (codes " writes" ++ (numbers_text e.writes ++ newline))))

-- the lines of entries from place n on
abbrev pub entries_text : ℕ → List Commit → List ℕ
entries_text n [] = []
entries_text n (e ∷ es) = entry_text n e ++ entries_text (n + 1) es

-- those of the entries that bytes say
abbrev pub said_text : Option (List Commit) → List ℕ
said_text None = []
said_text (Some es) = entries_text 1 es

-- what is printed of a file that was read, or of a refusal
abbrev pub answer_text : Answer Shape → List ℕ
answer_text (gives s) = head_text s ++ said_text (entries_of s)
answer_text (refuses c) = codes "no " ++ (decimal c.number ++ newline)

-- what is printed of the last day file in the bytes
abbrev pub shown_of : List ℕ → List ℕ
shown_of bytes = answer_text (read_of bytes)

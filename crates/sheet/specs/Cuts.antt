-- A sheet cut into lines, and a line into words.
use Rattle.std.specs.Prelude.{ℕ, ◌+◌, cond, List, [], ◌∷◌, length, ◌==◌}
use Rattle.std.specs.List.{slice_split}

-- the pieces between one s and the next
abbrev pub pieces : ℕ → List ℕ → List (List ℕ)
pieces s bs = slice_split (λ b. b == s) bs

-- words, each with its column
abbrev pub Placed : Type 0
Placed = List (List ℕ × ℕ)

-- pieces with their columns, the first at column c
abbrev pub placed : ℕ → List (List ℕ) → Placed
placed c [] = []
placed c (w ∷ ws) = (w, c) ∷ placed (c + length w + 1) ws

-- the words of a line, each with its column: a space parts two
abbrev pub words_of : List ℕ → Placed
words_of line = placed 1 (pieces 32 line)

-- the words behind the first
abbrev pub behind : Placed → Placed
behind [] = []
behind (w ∷ ws) = ws

-- a last piece that is empty is no line
abbrev pub shut : List (List ℕ) → List (List ℕ)
shut [] = []
shut (w ∷ []) = cond (length w == 0) [] (w ∷ [])
shut (w ∷ v ∷ ws) = w ∷ shut (v ∷ ws)

-- the lines of a sheet: the byte 10 ends one
abbrev pub lines_of : List ℕ → List (List ℕ)
lines_of sheet = shut (pieces 10 sheet)

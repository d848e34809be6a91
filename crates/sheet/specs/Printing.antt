-- The text of the printed lines.
use Rattle.std.specs.Prelude.{ℕ, ◌+◌, List, [], ◌∷◌, ◌++◌, Some, None, Ok, Err, codes, decimal, Option}
use Rattle.certifier.specs.Meaning.{LogState}
use Rattle.certifier.specs.Ranking.{joined}
use Rattle.filing.specs.Showing.{numbers_text}
use Rattle.sheet.specs.declared.response.Success.{Success}
use Rattle.sheet.specs.declared.response.Success.TheVariants.{Done, One, Granted, Version, Own}
use Rattle.sheet.specs.Answers.{Response, Log}
use Rattle.sheet.specs.Faults.{Flaw}

-- words and numbers, apart by a space
abbrev pub success_text : Success → List ℕ
success_text Done = codes "ok"
success_text (One n) = codes "ok " ++ decimal n
success_text (Granted g) = codes "ok " ++ (decimal g.stamp ++ (codes " " ++ (decimal g.low ++ (codes " " ++ decimal g.high))))
success_text (Version v) = codes "v " ++ (decimal v.number ++ (codes " " ++ decimal v.entry))
success_text (Own e) = codes "own " ++ decimal e

-- a fault of the line with its column, or a refusal from below
abbrev pub flaw_with : ℕ → Option ℕ → List ℕ
flaw_with n None = codes "no " ++ decimal n
flaw_with n (Some c) = codes "fault " ++ (decimal n ++ (codes " " ++ decimal c))

abbrev pub flaw_text : Flaw → List ℕ
flaw_text f = flaw_with f.code.number f.column

abbrev pub response_text : Response → List ℕ
response_text (Ok x) = success_text x
response_text (Err f) = flaw_text f

-- the byte that ends a line
abbrev pub newline : List ℕ
newline = 10 ∷ []

-- a printed line: the number of the line that it answers, and the answer
abbrev pub line_text : ℕ → Response → List ℕ
line_text n x = decimal n ++ (codes " " ++ (response_text x ++ newline))

-- the printed lines, numbered from n on
abbrev pub lines_text : ℕ → List Response → List ℕ
lines_text n [] = []
lines_text n (x ∷ xs) = line_text n x ++ lines_text (n + 1) xs

-- numbers to the end of a line, each after a space
abbrev pub stamps_text : List ℕ → List ℕ
stamps_text ns = numbers_text ns ++ newline

-- the commit stamps of a log by rank
abbrev pub stamps_by_rank : LogState ℕ → List ℕ
stamps_by_rank s = joined s.ranks.by_low

-- the last line, where a log is open
abbrev pub order_text : Log → List ℕ
order_text None = []
order_text (Some s) = codes "order" ++ stamps_text (stamps_by_rank s.state)

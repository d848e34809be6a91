-- What a sheet prints, and the day file that it leaves.
use Rattle.std.specs.Prelude.{ℕ, cond, List, [], ◌++◌, map, length, Some, None, codes, nat_lt}
use Rattle.runs.specs.History.{entries_in, summary_of}
use Rattle.dayfile.specs.Format.{file_bytes}
use Rattle.filing.specs.Filing.{commits_of}
use Rattle.sheet.specs.Answers.{Item, Log, responses_of, log_after}
use Rattle.sheet.specs.Cuts.{lines_of}
use Rattle.sheet.specs.Printing.{newline, lines_text, order_text}
use Rattle.sheet.specs.Requests.{request_of}

-- what lines print, from no log on
abbrev pub items_text : List Item → List ℕ
items_text is = lines_text 1 (responses_of None is) ++ order_text (log_after None is)

-- the day file of the log that is open, if one is
abbrev pub day_of : Log → List ℕ
day_of None = []
day_of (Some s) = file_bytes s.size (commits_of (entries_in (summary_of s.size s.history).done))

-- a sheet of more than 32,768 bytes is not read
abbrev pub unless_long : List ℕ → (List Item → List ℕ) → List ℕ
unless_long sheet f = cond (nat_lt 32768 (length sheet)) (codes "long" ++ newline) (f (map request_of (lines_of sheet)))

-- what a sheet prints
abbrev pub output_of : List ℕ → List ℕ
output_of sheet = unless_long sheet items_text

-- the day file of the log that is open at the end of a sheet
abbrev pub file_of : List ℕ → List ℕ
file_of sheet = unless_long sheet (λ is. day_of (log_after None is))

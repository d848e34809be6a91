-- How the code goes through a sheet: a stretch of lines at a time, each from an accepted open on.
use Rattle.std.specs.Prelude.{◌≡◌, ℕ, Bool, true, cond, drop, List, [], ◌∷◌, is_some, Some, None, Ok, Err, Option}
use Rattle.std.specs.List.{filter_map, position_or_len, before_first}
use Rattle.store.specs.Refusals.{bad_table}
use Rattle.certifier.specs.declared.Call as certifier
use Rattle.certifier.specs.Entries.{Entry}
use Rattle.runs.specs.History.{entries_in, summary_of}
use Rattle.sheet.specs.declared.request.LogKind.{LogKind}
use Rattle.sheet.specs.declared.request.Request.TheVariants.{Open, Call}
use Rattle.sheet.specs.Answers.{Item, Response, OpenLog, accepted}
use Rattle.sheet.specs.Printing.{stamps_by_rank}
use Rattle.sheet.specs.Faults.{no_log, passed}

-- what is left of a log at the end of its stretch: how many records it had, its commits by rank, and what a day file keeps
-- of them
pub record Final : Type 0 where
  pub size : ℕ
  pub stamps : List ℕ
  pub entries : List Entry

abbrev pub final_of : OpenLog → Final
final_of s = record { size = s.size; stamps = stamps_by_rank s.state; entries = entries_in (summary_of s.size s.history).done }

-- the size, the room and the kind of an accepted open
abbrev pub sizes_of : Item → Option (ℕ × ℕ × LogKind)
sizes_of (Err f) = None
sizes_of (Ok (Open r l k)) = cond (accepted r l) (Some (r, l, k)) None
sizes_of (Ok (Call c)) = None

-- those of the first line
abbrev pub opening : List Item → Option (ℕ × ℕ × LogKind)
opening [] = None
opening (i ∷ is) = sizes_of i

-- the first line is an accepted open, and the lines ms stand behind it
abbrev pub Opens : List Item → ℕ → ℕ → LogKind → List Item → Type 0
Opens is r l k ms = (is ≡ Ok (Open r l k) ∷ ms) × (accepted r l ≡ true)

-- whether a line is an accepted open
abbrev pub opens : Item → Bool
opens i = is_some (sizes_of i)

-- the lines before the first accepted open
abbrev pub until_open : List Item → List Item
until_open is = before_first opens is

-- the lines from it on
abbrev pub from_open : List Item → List Item
from_open is = drop (position_or_len opens is) is

-- the first line is an accepted open, the lines ms stand behind it up to the next, and ns from that on
abbrev pub Begins : List Item → ℕ → ℕ → LogKind → List Item → List Item → Type 0
Begins is r l k ms ns = (more : List Item) × Opens is r l k more × (ms ≡ until_open more) × (ns ≡ from_open more)

-- no line opens a log
abbrev pub NoneOpens : List Item → Type 0
NoneOpens is = until_open is ≡ is

-- the call of a line, if it makes one
abbrev pub call_in : Item → Option (certifier.Call ℕ)
call_in (Err f) = None
call_in (Ok (Open r l k)) = None
call_in (Ok (Call c)) = Some c

-- the calls among lines
abbrev pub calls_in : List Item → List (certifier.Call ℕ)
calls_in is = filter_map call_in is

-- what a call is answered to which some answers are left: the first; and where there is none it found no log
abbrev pub next_of : List Response → Response
next_of [] = Err no_log
next_of (x ∷ xs) = x

abbrev pub past_of : List Response → List Response
past_of [] = []
past_of (x ∷ xs) = xs

-- what a line is answered that opens no log, and the answers that are left
abbrev pub takes : Item → List Response → Response × List Response
takes (Err f) xs = (Err f, xs)
takes (Ok (Open r l k)) xs = (Err (passed bad_table), xs)
takes (Ok (Call c)) xs = (next_of xs, past_of xs)

-- what lines are answered of which none opens a log
abbrev pub beside : List Item → List Response → List Response
beside [] xs = []
beside (i ∷ is) xs = (takes i xs).0 ∷ beside is (takes i xs).1

-- What a day of the code stands for, and what a run with its day answers.
use Rattle.std.specs.Prelude.{◌≡◌, ℕ, List, map, Ok, Err, vec_items, Result}
use Rattle.store.specs.declared.OpenFault.{OpenFault}
use Rattle.store.specs.Meaning.{Rules, State}
use Rattle.certifier.specs.declared.Call.{Call}
use Rattle.runs.specs.declared.Outcome.{Outcome}
use Rattle.certifier.specs.Entries.{Entry, entry_by}
use Rattle.runs.specs.Outcomes.{Runs}
use Rattle.filing.specs.declared.day.Day.{Day}
use Rattle.filing.specs.declared.day.DayRun.{DayRun}

-- how many records a day's log has
abbrev pub records_of : Day → ℕ
records_of d = d.records

-- the entries of a day, in commit order
abbrev pub entries_of : Day → List Entry
entries_of d = map entry_by (vec_items d.entries)

-- a run with its day is the run, with the entries of the day
abbrev pub outcome_of : {S E : Type 0} → DayRun S E → Outcome S E
outcome_of r = record { log = r.log; answers = r.answers; entries = r.day.entries }

-- what a run with its day answers: what the run answers, and the day has the records of its opening
abbrev pub RunsDay : {S E : Type 0} → Rules → (S → State E) → ℕ → ℕ → E → List (Call E) → Result (DayRun S E) OpenFault → Type 0
RunsDay rules state size room first calls (Ok r) = Runs rules state size room first calls (Ok (outcome_of r)) × (records_of r.day ≡ size)
RunsDay rules state size room first calls (Err f) = Runs rules state size room first calls (Err f)

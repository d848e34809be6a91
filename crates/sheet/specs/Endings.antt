-- What the code has of the lines that are played.
use Rattle.std.specs.Prelude.{◌≡◌, List, ◌∷◌, ◌++◌, map, Some, None, Ok, Result, IfOk, vec_items, Vec}
use Rattle.std.specs.Option.{option_map}
use Rattle.std.specs.declared.alloc.AllocError.{AllocError}
use Rattle.store.specs.Meaning.{Rules}
use Rattle.filing.specs.Days.{records_of, entries_of}
use Rattle.sheet.specs.declared.fault.Fault.{Fault}
use Rattle.sheet.specs.declared.opening.Stretch.{Stretch}
use Rattle.sheet.specs.declared.play.Ending.{Ending}
use Rattle.sheet.specs.declared.play.Played.{Played}
use Rattle.sheet.specs.declared.response.Success.{Success}
use Rattle.sheet.specs.declared.response.Success.TheVariants.{Done}
use Rattle.sheet.specs.Answers.{Item, Response, OpenLog, fresh, responses_of, log_after}
use Rattle.sheet.specs.Faults.{told}
use Rattle.sheet.specs.Stretches.{Final, final_of}

-- what is left of a log at the end of its stretch stands for
abbrev pub ending_of : Ending → Final
ending_of e = record { size = records_of e.day; stamps = vec_items e.stamps; entries = entries_of e.day }

-- the fresh log of a stretch
abbrev pub fresh_of : Rules → Stretch → OpenLog
fresh_of rules s = fresh rules s.size.records s.size.places

-- the new responses are the old ones with these behind them
abbrev pub Gains : {A : Type 0} → Vec (Result Success Fault) A → Vec (Result Success Fault) A → List Response → Type 0
Gains old new xs = map told (vec_items new) ≡ map told (vec_items old) ++ xs

-- what the lines of a stretch are answered on its fresh log, the open first, and what is left of that
abbrev pub Plays : {A : Type 0} → Rules → Stretch → Vec (Result Success Fault) A → Vec (Result Success Fault) A → Result Ending AllocError → Type 0
Plays rules s old new r =
    IfOk r (λ e. Gains old new (Ok Done ∷ responses_of (Some (fresh_of rules s)) (map told s.lines.now))
    × (Some (ending_of e) ≡ option_map final_of (log_after (Some (fresh_of rules s)) (map told s.lines.now))))

-- what lines come to that are played from no log on
pub record PlaysAll (is : List Item) (p : Played) : Type 0 where
  pub responses : map told (vec_items p.responses) ≡ responses_of None is
  pub ending : option_map ending_of p.ending ≡ option_map final_of (log_after None is)

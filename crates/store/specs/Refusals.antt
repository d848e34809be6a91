-- The table of refusals, as far as a store has it: each has a number, and a layer that it comes from.
use Rattle.std.specs.Prelude.{ℕ, Some, None, Ok, Err, Option, Result}
use Rattle.store.specs.declared.Layer.{Layer}
use Rattle.store.specs.declared.Layer.TheVariants.{Store, Opening}
use Rattle.store.specs.declared.Code.{Code}
use Rattle.store.specs.declared.Refusal.{Refusal}
use Rattle.store.specs.declared.Refusal.TheVariants.{NoConsole, NoRecord, Shut, Open, Held, Stale, NoRoom, DayFull}
use Rattle.store.specs.declared.OpenFault.{OpenFault}
use Rattle.store.specs.declared.OpenFault.TheVariants.{Table, Memory}

abbrev pub code : ℕ → Layer → Code
code n l = record { number = n; layer = l }

-- the refusals of whichever layer is called
abbrev pub no_console : Layer → Code
no_console l = code 1 l

abbrev pub no_record : Layer → Code
no_record l = code 2 l

abbrev pub shut : Layer → Code
shut l = code 3 l

abbrev pub already_open : Layer → Code
already_open l = code 4 l

abbrev pub day_full : Layer → Code
day_full l = code 10 l

-- the refusals of a store alone
abbrev pub held : Code
held = code 7 Store

abbrev pub stale : Code
stale = code 8 Store

abbrev pub no_room : Code
no_room = code 9 Store

-- the refusal of an opening
abbrev pub bad_table : Code
bad_table = code 12 Opening

-- which of them each case of the code stands for
abbrev pub code_of : Refusal → Code
code_of NoConsole = no_console Store
code_of NoRecord = no_record Store
code_of Shut = shut Store
code_of Open = already_open Store
code_of Held = held
code_of Stale = stale
code_of NoRoom = no_room
code_of DayFull = day_full Store

-- want of memory has no number
abbrev pub open_code : OpenFault → Option Code
open_code Table = Some bad_table
open_code Memory = None

-- what a call answers: what it was asked for, or a refusal
pub data Answer (A : Type 0) : Type 0 where
  gives : A → Answer A
  refuses : Code → Answer A

-- the answer that a result of the code stands for, its value by f and its refusal by g
abbrev pub answer_by : {A B F : Type 0} → (A → B) → (F → Code) → Result A F → Answer B
answer_by f g (Ok a) = gives (f a)
answer_by f g (Err e) = refuses (g e)

abbrev pub answer_of : {A : Type 0} → Result A Refusal → Answer A
answer_of r = answer_by (λ a. a) code_of r

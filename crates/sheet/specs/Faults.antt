-- Why a line is refused.
use Rattle.std.specs.Prelude.{ℕ, Some, None, Ok, Err, Option, Result}
use Rattle.store.specs.declared.Layer.TheVariants.{Sheet}
use Rattle.store.specs.declared.Code.{Code}
use Rattle.store.specs.Refusals.{code, bad_table}
use Rattle.certifier.specs.Refusals.{code_of}
use Rattle.sheet.specs.declared.fault.Fault.{Fault}
use Rattle.sheet.specs.declared.fault.Fault.TheVariants.{WrongWord, WrongNumber, NoLog, Table, Log}

-- the number and the layer, and where the fault is of the line itself its column
pub record Flaw : Type 0 where
  pub code : Code
  pub column : Option ℕ

-- a wrong, empty or surplus word
abbrev pub word_at : ℕ → Flaw
word_at c = record { code = code 20 Sheet; column = Some c }

-- a wrong or missing number
abbrev pub numeral_at : ℕ → Flaw
numeral_at c = record { code = code 21 Sheet; column = Some c }

-- a call before any log is open
abbrev pub no_log : Flaw
no_log = record { code = code 22 Sheet; column = Some 1 }

-- a refusal of a layer below, as it was
abbrev pub passed : Code → Flaw
passed c = record { code = c; column = None }

-- what each case of the code stands for
abbrev pub flaw_of : Fault → Flaw
flaw_of (WrongWord c) = word_at c
flaw_of (WrongNumber c) = numeral_at c
flaw_of NoLog = no_log
flaw_of Table = passed bad_table
flaw_of (Log e) = passed (code_of e)

-- a result of the code, its error by f
abbrev pub told_by : {X F : Type 0} → (F → Flaw) → Result X F → Result X Flaw
told_by f (Ok x) = Ok x
told_by f (Err e) = Err (f e)

abbrev pub told : {X : Type 0} → Result X Fault → Result X Flaw
told r = told_by flaw_of r

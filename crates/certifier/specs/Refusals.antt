-- The table of refusals, as far as a log adds to a store's.
use Rattle.std.specs.Prelude.{ℕ, Bool, cond, ◌||◌, ◌==◌, nat_le}
use Rattle.store.specs.declared.Layer.TheVariants.{Certifier}
use Rattle.store.specs.declared.Code.{Code}
use Rattle.store.specs.Refusals as store
use Rattle.store.specs.Refusals.{code, no_console, no_record, shut, already_open, day_full}
use Rattle.certifier.specs.declared.LogRefusal.{LogRefusal}
use Rattle.certifier.specs.declared.LogRefusal.TheVariants.{NoConsole, NoRecord, Shut, Open, Reads, Writes, DayFull, Unsafe, NoVersion, ShortList, Store}

-- the refusals of the certifier alone
abbrev pub reads_full : Code
reads_full = code 5 Certifier

abbrev pub writes_full : Code
writes_full = code 6 Certifier

abbrev pub unsafe : Code
unsafe = code 11 Certifier

abbrev pub no_version : Code
no_version = code 13 Certifier

abbrev pub short_list : Code
short_list = code 14 Certifier

-- a store's refusal passed up: 1 to 4 and 10 come from the layer called, which is the log; any other keeps its layer
abbrev pub is_called : ℕ → Bool
is_called n = nat_le n 4 || n == 10

abbrev pub passed : Code → Code
passed c = cond (is_called c.number) (code c.number Certifier) c

-- which of them each case of the code stands for
abbrev pub code_of : LogRefusal → Code
code_of NoConsole = no_console Certifier
code_of NoRecord = no_record Certifier
code_of Shut = shut Certifier
code_of Open = already_open Certifier
code_of Reads = reads_full
code_of Writes = writes_full
code_of DayFull = day_full Certifier
code_of Unsafe = unsafe
code_of NoVersion = no_version
code_of ShortList = short_list
code_of (Store r) = store.code_of r

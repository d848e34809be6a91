-- Numbers that are taken where they are in their ranges.
use Rattle.std.specs.Prelude.{◌≡◌, ℕ, ◌<◌, ◌≤◌, Ok, Err, Result}
use Rattle.store.specs.declared.size.ConsoleId.{ConsoleId}
use Rattle.store.specs.declared.size.TableSize.{TableSize}
use Rattle.store.specs.declared.Refusal.{Refusal}
use Rattle.store.specs.declared.Refusal.TheVariants.{NoConsole}
use Rattle.store.specs.declared.OpenFault.{OpenFault}
use Rattle.store.specs.declared.OpenFault.TheVariants.{Table}
use Rattle.store.specs.Meaning.{Range}

-- the number names one of the sixteen consoles, or is refused
abbrev pub Names : ℕ → Result ConsoleId Refusal → Type 0
Names n (Ok c) = (n < 16) × (c.number ≡ n)
Names n (Err e) = (16 ≤ n) × (e ≡ NoConsole)

-- the numbers are the size of a table, or are refused
abbrev pub Measures : ℕ → ℕ → Result TableSize OpenFault → Type 0
Measures records places (Ok t) = Range records places × (t.records ≡ records) × (t.places ≡ places)
Measures records places (Err f) = (Range records places → ⊥) × (f ≡ Table)

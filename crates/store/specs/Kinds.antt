-- The kinds of store, by their rules.
use Rattle.std.specs.Prelude.{◌≡◌, ℕ, ◌+◌, ◌-◌, Bool, true, cond, List, [], ◌∷◌, length, nat_le}
use Rattle.store.specs.Meaning.{Rules}

-- the position of the last stamp that passes a test: `best` so far, `at` the position of the next one
abbrev pub last_from : (ℕ → Bool) → ℕ → ℕ → List ℕ → ℕ
last_from test best at [] = best
last_from test best at (s ∷ ss) = last_from test (cond (test s) at best) (at + 1) ss

-- the position of the last stamp that passes, or the first position where none does
abbrev pub last_passing : (ℕ → Bool) → List ℕ → ℕ
last_passing test stamps = last_from test 0 0 stamps

-- newest: the last version; a write always goes through
abbrev pub newest_rules : Rules
newest_rules = record { shown = λ stamps began. length stamps - 1; admits = λ stamp began. true }

-- snapshot: the last version whose stamp is at most the begin stamp; a write goes through when the newest stamp is
abbrev pub snapshot_rules : Rules
snapshot_rules = record { shown = λ stamps began. last_passing (λ s. nat_le s began) stamps; admits = λ stamp began. nat_le stamp began }

-- a read rule that is found by testing stamps from the newest on
abbrev pub Tested : Rules → (ℕ → ℕ → Bool) → Type 0
Tested rules test = (stamps : List ℕ) (began : ℕ) → rules.shown stamps began ≡ last_passing (λ s. test s began) stamps

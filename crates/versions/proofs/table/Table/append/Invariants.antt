use Rattle.std.proofs.Common.{◌≡◌, drop}
use Rattle.store.specs.Meaning.{appended}
use Rattle.versions.specs.Tables.{chains_of, next_of, Grows}
use Rattle.versions.proofs.table.Table.append.Given as goal

-- the table grew by as many as were pushed; what is left, appended to the chains as they are, gives what all gives, appended to the chains as they were
abbrev pub invariant-loop-p : goal.invariant-loop-p
invariant-loop-p g l =
    Grows l.initial.self l.self (chains_of l.self) l.p-index
    × (appended (chains_of l.self) l.stamp (next_of l.self) (drop l.p-index l.pending) ≡ appended (chains_of l.initial.self) l.stamp (next_of l.initial.self) l.pending)

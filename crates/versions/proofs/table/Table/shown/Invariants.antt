use Rattle.std.proofs.Common.{◌≡◌, [], get_or}
use Rattle.store.specs.Meaning.{origin, picked}
use Rattle.versions.specs.Tables.{places_of, chains_of}
use Rattle.versions.proofs.Picks.{chain_to, Linked}
use Rattle.versions.proofs.table.Table.shown.Given as goal

-- the rule shows in the chain up to this row what it shows in the whole chain
abbrev pub invariant-loop-older : goal.invariant-loop-older
invariant-loop-older g l =
    Linked (places_of l.self) l.row
    × (picked g.K.Kind.rules (origin l.self.first) (get_or (chains_of l.self) l.at []) l.began
    ≡ picked g.K.Kind.rules (origin l.self.first) (chain_to l.self.first (places_of l.self) l.row) l.began)

abbrev pub decreases-loop-older : goal.decreases-loop-older
decreases-loop-older g l = l.row.version.number

-- What a store stands for.
use Rattle.versions.specs.declared.Versions.{Versions}
use Rattle.store.specs.Meaning.{State}
use Rattle.versions.specs.Tables.{chains_of, room_of, first_of, next_of}
use Rattle.versions.specs.Sessions.{consoles_of}

module _ {E K : Type 0} where
  abbrev pub state_of : Versions E K → State E
  state_of v = record {
    first = first_of v.table;
    clock = v.clock;
    next = next_of v.table;
    room = room_of v.table;
    chains = chains_of v.table;
    consoles = consoles_of v.sessions;
  }

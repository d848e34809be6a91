-- What the sixteen consoles stand for, and how one of them changes.
use Rattle.std.specs.Prelude.{◌≡◌, ℕ, List, length, vec_items, Option, slice_set}
use Rattle.versions.specs.declared.sessions.Sessions.{Sessions}
use Rattle.store.specs.Meaning.{Console}
use Rattle.versions.specs.Session.{consoles_from}

module _ {E : Type 0} where
  abbrev pub consoles_of : Sessions E → List (Option (Console E))
  consoles_of d = consoles_from (vec_items d.sessions)

  abbrev pub records_of : Sessions E → ℕ
  records_of d = length (vec_items d.holds)

  -- console k becomes c, and all else stays
  pub record ChangesConsole (old new : Sessions E) (k : ℕ) (c : Option (Console E)) : Type 0 where
    pub consoles : consoles_of new ≡ slice_set (consoles_of old) k c
    pub records : records_of new ≡ records_of old

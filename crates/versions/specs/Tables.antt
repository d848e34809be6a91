-- What a table stands for, and how it grows.
use Rattle.std.specs.Prelude.{◌≡◌, ℕ, ◌+◌, List, length, vec_items, Option}
use Rattle.store.specs.declared.Version.{Version}
use Rattle.store.specs.Meaning.{versions_in}
use Rattle.versions.specs.declared.row.Row.{Row}
use Rattle.versions.specs.declared.table.Table.{Table}
use Rattle.versions.specs.Places.{chains_from}

module _ {E : Type 0} where
  abbrev pub places_of : Table E → List (Option (Row E))
  places_of a = vec_items a.places

  abbrev pub chains_of : Table E → List (List (Version E))
  chains_of a = chains_from a.first (vec_items a.places) (vec_items a.newest)

  abbrev pub room_of : Table E → ℕ
  room_of a = length (vec_items a.places)

  abbrev pub first_of : Table E → E
  first_of a = a.first

  -- the next number is how many versions there are
  abbrev pub next_of : Table E → ℕ
  next_of a = versions_in (chains_of a)

  -- the chains become cs by n versions more, and all else stays
  pub record Grows (old new : Table E) (cs : List (List (Version E))) (n : ℕ) : Type 0 where
    pub chains : chains_of new ≡ cs
    pub next : next_of new ≡ next_of old + n
    pub size : length (chains_of new) ≡ length (chains_of old)
    pub room : room_of new ≡ room_of old
    pub first : first_of new ≡ first_of old

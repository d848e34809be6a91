-- What printing to the end of a text leaves.
use Rattle.std.specs.Prelude.{◌≡◌, List, ℕ, ◌++◌, string_bytes, String}

-- the new text is the old one with these bytes behind it
abbrev pub Appends : {A : Type 0} → String A → String A → List ℕ → Type 0
Appends old new piece = string_bytes new ≡ string_bytes old ++ piece

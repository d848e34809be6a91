-- What a token says.
use Rattle.std.specs.Prelude.{◌≡◌, ℕ, ◌<◌, true, false, List, [], length}
use Rattle.sheet.specs.declared.token.Token.{Token}
use Rattle.sheet.specs.declared.token.Token.TheVariants.{Name, Digits, Empty}
use Rattle.sheet.specs.Numerals.{all_digits}

-- the word with its column
abbrev pub word_of : Token → List ℕ × ℕ
word_of (Name bytes column) = (bytes.now, column)
word_of (Digits bytes column) = (bytes.now, column)
word_of (Empty column) = ([], column)

-- the case is that of its bytes
abbrev pub Fits : Token → Type 0
Fits (Name bytes column) = (0 < length bytes.now) × (all_digits bytes.now ≡ false)
Fits (Digits bytes column) = (0 < length bytes.now) × (all_digits bytes.now ≡ true)
Fits (Empty column) = Unit

-- What a walk over the words of a line has still to give.
use Rattle.std.specs.Prelude.{◌≡◌, ℕ, ◌-◌, List, [], length, Some, None, Option, IfSome}
use Rattle.std.specs.Borrow.{Bor}
use Rattle.std.specs.Iterator.{YieldsFirstBy}
use Rattle.sheet.specs.declared.line.Words.{Words}
use Rattle.sheet.specs.declared.token.Token.{Token}
use Rattle.sheet.specs.Cuts.{Placed, placed, pieces, behind}
use Rattle.sheet.specs.Tokens.{word_of, Fits}

-- the words in what is left of a line whose end is before column e
abbrev pub words_left : ℕ → Option (Bor (List ℕ)) → Placed
words_left e None = []
words_left e (Some r) = placed (e - length r.now) (pieces 32 r.now)

-- the words to come
abbrev pub to_come : Words → Placed
to_come w = words_left w.end w.rest

-- a call of `next` gives the first of the words to come, in its case, and leaves those behind it, and the line ends where it did
abbrev pub Gives : Words → Option Token → Words → Type 0
Gives s r t = YieldsFirstBy word_of to_come s r t × IfSome r Fits × (t.end ≡ s.end)

-- the words behind the first are left, and the line ends where it did
pub record Passed (old new : Words) : Type 0 where
  pub left : to_come new ≡ behind (to_come old)
  pub end : new.end ≡ old.end

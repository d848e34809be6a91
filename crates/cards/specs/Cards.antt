-- Inspection cards: the rule that a card keeps, and its refusal.
use Rattle.std.specs.Prelude.{◌≡◌, ◌==◌, ℕ, List, Bool, true, false, if◌then◌else◌, not, codes}
use Rattle.store.specs.declared.Layer.TheVariants.{Card}
use Rattle.store.specs.declared.Code.{Code}
use Rattle.store.specs.Refusals.{Answer, code}
use Rattle.store.specs.Refusals.Answer.{gives, refuses}
use Rattle.cards.specs.declared.State.{State}
use Rattle.cards.specs.declared.State.TheVariants.{Due, Passed, Failed}
use Rattle.cards.specs.declared.CardRow.{CardRow}
use Rattle.cards.specs.declared.CardRefusal.{CardRefusal}
use Rattle.cards.specs.declared.CardRefusal.TheVariants.{Inspector}

-- the card waits for its inspection
abbrev pub is_due : State → Bool
is_due Due = true
is_due Passed = false
is_due Failed = false

-- what the states are called
abbrev pub state_text : State → List ℕ
state_text Due = codes "due"
state_text Passed = codes "passed"
state_text Failed = codes "failed"

-- the inspector is 0 exactly when the card is due
abbrev pub Sound : CardRow → Type 0
Sound row = (row.inspector == 0) ≡ is_due row.state

-- a card made against its inspector rule
abbrev pub bad_card : Code
bad_card = code 15 Card

-- which refusal each case of the code stands for
abbrev pub code_of : CardRefusal → Code
code_of Inspector = bad_card

-- both hold, or neither
abbrev pub alike : Bool → Bool → Bool
alike true b = b
alike false b = not b

-- the card of a row, by its row
abbrev pub card_of : CardRow → Answer CardRow
card_of row = if alike (row.inspector == 0) (is_due row.state) then gives row else refuses bad_card

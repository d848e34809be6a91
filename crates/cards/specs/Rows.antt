-- What a card stands for.
use Rattle.cards.specs.declared.CardRow.{CardRow}
use Rattle.cards.specs.declared.card.Card.{Card}

-- the row of a card
abbrev pub row_of : Card → CardRow
row_of c = c.row

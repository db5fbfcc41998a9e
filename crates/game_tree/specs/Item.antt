-- The items of which movetext is made (PGN standard, 8.2).
use Rattle.std.specs.Prelude.{ℕ, List}
use Rattle.cell_core.specs.declared.step.Move.{Move}

-- One item, as it is read: a move, a NAG, the text of a comment, or one of the two brackets of a variation.
pub data Item : Type 0 where
  move : Move → Item
  nag : ℕ → Item
  comment : List ℕ → Item
  opens : Item
  closes : Item

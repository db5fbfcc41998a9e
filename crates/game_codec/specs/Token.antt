-- The items of a record's moves (this project's own, after Scid's format). They are a packed move, a NAG, the mark of a
-- comment, the beginning and the end of a variation, and the end of the game. The texts of comments stand behind the
-- moves.
use Rattle.std.specs.Prelude.{ℕ}
use Rattle.cell_core.specs.declared.step.Move.{Move}

pub data Token : Type 0 where
  Play : Move → Token
  Nag : ℕ → Token
  Comment : Token
  Open : Token
  Close : Token
  End : Token

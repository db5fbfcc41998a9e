-- The tokens of a text in Portable Game Notation, as they are read (PGN standard, 7 and 8).
use Rattle.std.specs.Prelude.{ℕ, List}
use Rattle.game_tree.specs.declared.head.Outcome.{Outcome}

-- A tag with its name and its value, the text of a comment, a NAG (that of a suffix too), and the two brackets of a
-- variation. Then come an end mark, a number with its dots, the text of a move, and the end of the text. Three are
-- faulty: what begins like a tag and is none, a comment that is not closed, and what is no token.
pub data Token : Type 0 where
  tag : List ℕ → List ℕ → Token
  bad_tag : Token
  comment : List ℕ → Token
  open_comment : Token
  nag : ℕ → Token
  opens : Token
  closes : Token
  ending : Outcome → Token
  number : Token
  move : List ℕ → Token
  bad : Token
  the_end : Token

-- A token, and the bytes behind it.
pub record Lexed : Type 0 where
  pub token : Token
  pub rest : List ℕ

abbrev pub lexed_as : Token → List ℕ → Lexed
lexed_as token rest = record { token = token; rest = rest }

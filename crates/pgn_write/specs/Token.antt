-- The tokens of a movetext and the text of each (PGN standard, 7 and 8.2).
use Rattle.std.specs.Prelude.{ℕ, ◌==◌, if◌then◌else◌, List, [], ◌∷◌, ◌++◌, map, codes}
use Rattle.std.specs.Fmt.{decimal}
use Rattle.cell_core.specs.declared.man.Colour.{Colour}
use Rattle.cell_core.specs.declared.man.Colour.TheVariants.{White, Black}
use Rattle.game_tree.specs.declared.head.Outcome.{Outcome}
use Rattle.game_tree.specs.Outcome.{outcome_text}

-- The number of a move with the side that moves, the text of a move, a NAG, a comment, the two brackets of a variation, and
-- the result behind all moves.
pub data Token : Type 0 where
  number : ℕ → Colour → Token
  move : List ℕ → Token
  nag : ℕ → Token
  comment : List ℕ → Token
  opens : Token
  closes : Token
  ending : Outcome → Token

-- A closing brace would end a comment, so it is written as a closing bracket (PGN standard, 5; the bracket is this project's
-- own).
abbrev pub without_brace : ℕ → ℕ
without_brace byte = if byte == 125 then 41 else byte

-- The text of a token (PGN standard, 8.2.2 to 8.2.6): a number has the space behind it, and a comment stands in braces.
abbrev pub token_text : Token → List ℕ
token_text (number n White) = decimal n ++ codes ". "
token_text (number n Black) = decimal n ++ codes "... "
token_text (move text) = text
token_text (nag n) = 36 ∷ decimal n
token_text (comment text) = 123 ∷ map without_brace text ++ 125 ∷ []
token_text opens = codes "("
token_text closes = codes ")"
token_text (ending outcome) = outcome_text outcome

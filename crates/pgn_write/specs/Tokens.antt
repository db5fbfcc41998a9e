-- The tokens of a game in their order, with the positions played along (PGN standard, 8.2).
use Rattle.std.specs.Prelude.{ℕ, ◌+◌, Bool, true, false, if◌then◌else◌, List, [], ◌∷◌, ◌++◌, ◌||◌}
use Rattle.cell_core.specs.declared.man.Colour.{Colour}
use Rattle.cell_core.specs.declared.man.Colour.TheVariants.{White, Black}
use Rattle.cell_core.specs.Man.{same_colour}
use Rattle.cell_core.specs.declared.step.Move.{Move}
use Rattle.chess_laws.specs.declared.setup.Setup.{Setup}
use Rattle.chess_laws.specs.Step.{stepped}
use Rattle.chess_text.specs.SanText.{san_text}
use Rattle.game_tree.specs.declared.head.Outcome.{Outcome}
use Rattle.game_tree.specs.Game.{GameTree}
use Rattle.game_tree.specs.Movetext.{Movetext, end, move, nag, comment, variation}
use Rattle.game_tree.specs.Written.{movetext_of_game}
use Rattle.pgn_write.specs.Token.{Token}
use Rattle.pgn_write.specs.Token as token

-- A place in a line: the position, and the number of the move that is next.
pub record Turn : Type 0 where
  pub position : Setup
  pub number : ℕ

-- A move of Black ends a number (PGN standard, 8.2.2).
abbrev pub number_behind : Colour → ℕ → ℕ
number_behind White n = n
number_behind Black n = n + 1

abbrev pub turn_behind : Turn → Move → Turn
turn_behind t m = record { position = stepped t.position m; number = number_behind t.position.side t.number }

-- The number before a move, if it is due. It is due before each move of White, and before one of Black that is resumed:
-- the first of its line, or one behind a comment or a variation (PGN standard, 8.2.2.2).
abbrev pub number_due : Colour → ℕ → Bool → List Token
number_due side n resumed = if same_colour side White || resumed then token.number n side ∷ [] else []

-- The tokens of a movetext by the place before its last move and the place that it has come to. A variation begins at the
-- place before the move that it hangs on.
abbrev pub tokens_from : Turn → Turn → Bool → Movetext → List Token
tokens_from before here resumed end = []
tokens_from before here resumed (move m s) =
    number_due here.position.side here.number resumed
    ++ token.move (san_text here.position m) ∷ tokens_from here (turn_behind here m) false s
tokens_from before here resumed (nag n s) = token.nag n ∷ tokens_from before here resumed s
tokens_from before here resumed (comment text s) = token.comment text ∷ tokens_from before here true s
tokens_from before here resumed (variation inner s) =
    token.opens ∷ tokens_from before before true inner ++ token.closes ∷ tokens_from before here true s

-- Moves are counted from 1, also from a start of its own (this project's own).
abbrev pub first_turn : Setup → Turn
first_turn start = record { position = start; number = 1 }

-- The tokens of a game with its result behind them (PGN standard, 8.2.6).
abbrev pub tokens_of : GameTree → Outcome → List Token
tokens_of game outcome =
    tokens_from (first_turn game.start) (first_turn game.start) true (movetext_of_game game) ++ token.ending outcome ∷ []

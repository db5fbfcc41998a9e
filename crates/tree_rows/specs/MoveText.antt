-- The text of a move in a tree (this project's own, over PGN standard, 8.2.3).
use Rattle.std.specs.Prelude.{ℕ, List, Option, Some, None, codes}
use Rattle.std.specs.Option.{option_map_or}
use Rattle.cell_core.specs.declared.man.Colour.{Colour}
use Rattle.cell_core.specs.declared.man.Colour.TheVariants.{White, Black}
use Rattle.cell_core.specs.declared.step.Move.{Move}
use Rattle.cell_core.specs.Board.{Men}
use Rattle.chess_laws.specs.declared.effect.Effect.{Effect}
use Rattle.chess_laws.specs.declared.effect.Effect.TheVariants.{Passing, Castle}
use Rattle.chess_laws.specs.declared.setup.Setup.{Setup}
use Rattle.chess_laws.specs.declared.setup.Wing.TheVariants.{KingSide, QueenSide}
use Rattle.chess_laws.specs.Moves.{IsFrom}
use Rattle.chess_laws.specs.Position.{setup_of}
use Rattle.chess_laws.specs.Step.{effect_of}
use Rattle.chess_text.specs.SanText.{san_text}

-- The castling right that a half-move needs, as the bits of a position's rights: for castling the one on its wing, else none.
abbrev pub right_needed : Effect → Colour → ℕ
right_needed (Castle KingSide) White = 1
right_needed (Castle QueenSide) White = 2
right_needed (Castle KingSide) Black = 4
right_needed (Castle QueenSide) Black = 8
right_needed effect side = 0

-- The en passant square that it needs: for a capture en passant its target, else none.
abbrev pub square_needed : Effect → Move → Option ℕ
square_needed Passing m = Some m.to
square_needed _ m = None

-- The board with the side to move, no right and no en passant square.
abbrev pub bare : Men → Colour → Setup
bare men side = setup_of men side 0 None

-- The position of a board and a side to move whose only right and en passant square are those that the move needs.
unfoldable pub needed : Men → Colour → Move → Setup
needed men side m =
    setup_of men side (right_needed (effect_of (bare men side) m) side) (square_needed (effect_of (bare men side) m) m)

-- The text of a row's key: the move in Standard Algebraic Notation in that position.
abbrev pub key_text : Men → Colour → Option Move → List ℕ
key_text men side key = option_map_or (λ m. san_text (needed men side m) m) key (codes "end")

-- A key of a tree of this board and side: such a move, or `end`.
abbrev pub IsKey : Men → Colour → Option Move → Type 0
IsKey men side (Some m) = IsFrom men side m
IsKey men side None = Unit {0}

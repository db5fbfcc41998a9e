-- The answer to the text of a move, as it is computed: the one legal move of its shape, or why there is none (PGN standard,
-- 8.2.3).
use Rattle.std.specs.Prelude.{ℕ, zero, suc, ◌==◌, ◌&&◌, not, Bool, true, false, List, [], ◌∷◌, filter, map, Option, None, Result, Ok, Err}
use Rattle.std.specs.Option.{option_map_or}
use Rattle.cell_core.specs.declared.step.Move.{Move}
use Rattle.cell_core.specs.Board.{man_at}
use Rattle.cell_core.specs.Man.{is_man}
use Rattle.chess_laws.specs.declared.setup.Setup.{Setup}
use Rattle.chess_laws.specs.declared.setup.Wing.{Wing}
use Rattle.chess_laws.specs.declared.setup.Wing.TheVariants.{KingSide, QueenSide}
use Rattle.chess_laws.specs.declared.effect.Effect.{Effect}
use Rattle.chess_laws.specs.declared.effect.Effect.TheVariants as effect
use Rattle.chess_laws.specs.Geometry.{file_of, rank_of}
use Rattle.chess_laws.specs.Castling.{king_target}
use Rattle.chess_laws.specs.Position.{king_square}
use Rattle.chess_laws.specs.Step.{effect_of}
use Rattle.chess_laws.specs.LegalNow.{legal_now}
use Rattle.chess_text.specs.declared.shape.Going.{Going}
use Rattle.chess_text.specs.declared.shape.Shape.{Shape}
use Rattle.chess_text.specs.declared.shape.Shape.TheVariants.{Castle, Null, Goes}
use Rattle.chess_text.specs.declared.fault.SanFault.{SanFault}
use Rattle.chess_text.specs.declared.fault.SanFault.TheVariants as fault
use Rattle.chess_text.specs.SanReading.{shape_named}
use Rattle.chess_text.specs.SanReads.{has_own_form}

abbrev pub goes : ℕ → ℕ → Move
goes from to = record { from = from; to = to; promo = None }

-- Whether a move is castling on the wing, and whether it is the null move.
abbrev pub is_castling : Wing → Effect → Bool
is_castling KingSide (effect.Castle KingSide) = true
is_castling QueenSide (effect.Castle QueenSide) = true
is_castling wing _ = false

abbrev pub is_null : Effect → Bool
is_null effect.Null = true
is_null _ = false

-- Whether a file or a rank is the one that the text gives, if it gives one.
abbrev pub is_as_said : Option ℕ → ℕ → Bool
is_as_said said line = option_map_or (λ wanted. line == wanted) said true

-- The moves that the text may mean: that of the king, or one from each square.
abbrev pub below : ℕ → List ℕ
below zero = []
below (suc n) = n ∷ below n

abbrev pub from_square : Going → ℕ → Move
from_square g square = record { from = square; to = g.target; promo = g.promo }

abbrev pub candidates : Setup → Shape → List Move
candidates p (Castle wing) = goes (king_square p.board p.side) (king_target p.side wing) ∷ []
candidates p Null = goes (king_square p.board p.side) (king_square p.board p.side) ∷ []
candidates p (Goes g) = map (from_square g) (below 64)

-- Whether such a move is of the shape.
abbrev pub is_of_shape : Setup → Shape → Move → Bool
is_of_shape p (Castle wing) m = is_castling wing (effect_of p m)
is_of_shape p Null m = is_null (effect_of p m)
is_of_shape p (Goes g) m =
    is_man p.side g.kind (man_at p.board m.from)
    && (is_as_said g.file (file_of m.from) && (is_as_said g.rank (rank_of m.from) && not (has_own_form (effect_of p m))))

abbrev pub fits_now : Setup → Shape → Move → Bool
fits_now p shape m = is_of_shape p shape m && legal_now p m

-- The one move of these.
abbrev pub only_of : List Move → Result Move SanFault
only_of [] = Err fault.NoMove
only_of (m ∷ []) = Ok m
only_of (m ∷ n ∷ moves) = Err fault.Two

abbrev pub shape_answer : Setup → Option Shape → Result Move SanFault
shape_answer p shape = option_map_or (λ shape. only_of (filter (fits_now p shape) (candidates p shape))) shape (Err fault.Shape)

-- The answer to the text.
unfoldable pub san_answer : Setup → List ℕ → Result Move SanFault
san_answer p text = shape_answer p (shape_named text)

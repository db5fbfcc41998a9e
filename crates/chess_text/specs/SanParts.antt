-- What the reader of a move's text answers part by part. No public contract cites these words.
use Rattle.std.specs.Prelude.{ℕ, ◌==◌, ◌||◌, Bool, false, cond, List, [], ◌∷◌, Option, Some, None, is_some, unwrap_or, drop}
use Rattle.std.specs.List.{list_all}
use Rattle.cell_core.specs.declared.man.Kind.{Kind}
use Rattle.cell_core.specs.declared.man.Kind.TheVariants.{Pawn}
use Rattle.chess_laws.specs.Geometry.{square}
use Rattle.chess_text.specs.declared.shape.Going.{Going}
use Rattle.chess_text.specs.declared.shape.Shape.{Shape}
use Rattle.chess_text.specs.declared.shape.Shape.TheVariants.{Goes}
use Rattle.chess_text.specs.SanReading.{promotion_named, piece_named, file_named, rank_named, is_sign, aimed, form_named}

-- The signs of a capture.
abbrev pub is_capture_sign : ℕ → Bool
is_capture_sign byte = (byte == 120) || (byte == 58)

-- What the first byte names, if anything, and what stands behind it then.
abbrev pub front : {A : Type 0} → (ℕ → Option A) → List ℕ → Option A
front named [] = None
front named (byte ∷ text) = named byte

abbrev pub behind : {A : Type 0} → (ℕ → Option A) → List ℕ → List ℕ
behind named [] = []
behind named (byte ∷ text) = cond (is_some (named byte)) text (byte ∷ text)

-- Whether the text begins with such a byte, and what stands behind it then.
abbrev pub begins : (ℕ → Bool) → List ℕ → Bool
begins is_it [] = false
begins is_it (byte ∷ text) = is_it byte

abbrev pub passed : (ℕ → Bool) → List ℕ → List ℕ
passed is_it [] = []
passed is_it (byte ∷ text) = cond (is_it byte) text (byte ∷ text)

-- The square that the first two bytes name, if they do, and what stands behind it then.
abbrev pub square_from : Option ℕ → Option ℕ → Option ℕ
square_from (Some file) (Some rank) = Some (square file rank)
square_from _ _ = None

unfoldable pub square_front : List ℕ → Option ℕ
square_front text = square_from (front file_named text) (front rank_named (drop 1 text))

unfoldable pub behind_square : List ℕ → List ℕ
behind_square text = cond (is_some (square_front text)) (drop 2 text) text

-- The promotion that the text begins with, if it does, with its sign = or without, and what stands behind it then.
unfoldable pub promotion_front : List ℕ → Option Kind
promotion_front text = front promotion_named (passed (λ byte. byte == 61) text)

unfoldable pub behind_promotion : List ℕ → List ℕ
behind_promotion text =
    cond (is_some (promotion_front text)) (behind promotion_named (passed (λ byte. byte == 61) text)) text

-- What is aimed at, if only signs follow.
abbrev pub ended : Option Going → List ℕ → Option Going
ended going text = cond (list_all is_sign text) going None

-- The man that goes, from each part of the text on.
abbrev pub from_square : Kind → Option ℕ → Option ℕ → Bool → Option ℕ → List ℕ → Option Going
from_square kind file rank takes target text =
    ended (aimed kind file rank takes target (promotion_front text)) (behind_promotion text)

abbrev pub from_capture : Kind → Option ℕ → Option ℕ → Bool → List ℕ → Option Going
from_capture kind file rank takes text = from_square kind file rank takes (square_front text) (behind_square text)

abbrev pub from_rank : Kind → Option ℕ → Option ℕ → List ℕ → Option Going
from_rank kind file rank text = from_capture kind file rank (begins is_capture_sign text) (passed is_capture_sign text)

abbrev pub from_file : Kind → Option ℕ → List ℕ → Option Going
from_file kind file text = from_rank kind file (front rank_named text) (behind rank_named text)

abbrev pub from_kind : Kind → List ℕ → Option Going
from_kind kind text = from_file kind (front file_named text) (behind file_named text)

-- The kind of the man that moves is a pawn if no letter says another.
unfoldable pub going_parts : List ℕ → Option Going
going_parts text = from_kind (unwrap_or (front piece_named text) Pawn) (behind piece_named text)

abbrev pub shape_from : Option Going → List ℕ → Option Shape
shape_from None text = form_named text
shape_from (Some going) text = Some (Goes going)

-- The shape of a text, if it has one.
unfoldable pub shape_parts : List ℕ → Option Shape
shape_parts text = shape_from (going_parts text) text

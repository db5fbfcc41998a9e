-- Which shape a move's text has, as it is computed: its parts are read from the left (PGN standard, 8.2.3).
use Rattle.std.specs.Prelude.{ℕ, ◌-◌, ◌==◌, ◌&&◌, ◌||◌, nat_le, nat_lt, Bool, false, cond, List, [], ◌∷◌, Option, Some, None, is_some, option_map, option_and_then, unwrap_or}
use Rattle.std.specs.List.{find, list_all}
use Rattle.std.specs.Option.{option_map_or, option_or}
use Rattle.cell_core.specs.declared.man.Kind.{Kind}
use Rattle.cell_core.specs.declared.man.Kind.TheVariants.{King, Queen, Rook, Bishop, Knight, Pawn}
use Rattle.chess_laws.specs.declared.setup.Wing.TheVariants.{KingSide, QueenSide}
use Rattle.chess_laws.specs.Geometry.{square}
use Rattle.chess_text.specs.declared.shape.Going.{Going}
use Rattle.chess_text.specs.declared.shape.Shape.{Shape}
use Rattle.chess_text.specs.declared.shape.Shape.TheVariants.{Castle, Null, Goes}
use Rattle.chess_text.specs.Letters.{capital_of}
use Rattle.chess_text.specs.SanShape.{castling_text, castling_digits, null_text}

-- The kind that a letter names if it is what a pawn may become, and if it is any kind but a pawn.
unfoldable pub promotion_named : ℕ → Option Kind
promotion_named letter = find (λ kind. letter == capital_of kind) (Queen ∷ Rook ∷ Bishop ∷ Knight ∷ [])

unfoldable pub piece_named : ℕ → Option Kind
piece_named letter = cond (letter == 75) (Some King) (promotion_named letter)

-- The file that a letter names, and the rank that a digit names, counted from 0.
unfoldable pub file_named : ℕ → Option ℕ
file_named byte = cond (nat_le 97 byte && nat_lt byte 105) (Some (byte - 97)) None

unfoldable pub rank_named : ℕ → Option ℕ
rank_named byte = cond (nat_le 49 byte && nat_lt byte 57) (Some (byte - 49)) None

-- The sign of a capture, x or a colon.
abbrev pub capture_named : ℕ → Option ℕ
capture_named byte = cond (byte == 120 || byte == 58) (Some byte) None

-- The signs of check and mate.
abbrev pub is_sign : ℕ → Bool
is_sign byte = (byte == 43) || (byte == 35)

-- What the first byte of a text names, with the text behind it.
abbrev pub one : {A : Type 0} → (ℕ → Option A) → List ℕ → Option (A × List ℕ)
one named [] = None
one named (byte ∷ text) = option_map (λ x. (x, text)) (named byte)

-- What may be said or left out: what is read, if something is, and the text behind it.
unfoldable pub maybe : {A : Type 0} → (List ℕ → Option (A × List ℕ)) → List ℕ → Option A × List ℕ
maybe read text = option_map_or (λ found. (Some found.0, found.1)) (read text) (None, text)

-- A square by its file and its rank.
unfoldable pub square_read : List ℕ → Option (ℕ × List ℕ)
square_read text =
    option_and_then (λ file. option_map (λ rank. (square file.0 rank.0, rank.1)) (one rank_named file.1)) (one file_named text)

-- A promotion by its letter, behind the sign = or without it.
unfoldable pub promotion_read : List ℕ → Option (Kind × List ℕ)
promotion_read text =
    let equals = maybe (one (λ byte. cond (byte == 61) (Some byte) None)) text in
    one promotion_named equals.1

-- The man that goes: if no square follows its file and rank and no sign of a capture, they are the target, as in `e4`. Behind a sign
-- of a capture there must be one: `e4x` names no man that goes.
abbrev pub aimed : Kind → Option ℕ → Option ℕ → Bool → Option ℕ → Option Kind → Option Going
aimed k file rank takes (Some target) promo =
    Some (record { kind = k; file = file; rank = rank; target = target; promo = promo })
aimed k (Some file) (Some rank) false None promo =
    Some (record { kind = k; file = None; rank = None; target = square file rank; promo = promo })
aimed k _ _ _ None promo = None

-- The man that goes: its letter (a pawn has none), its file, its rank, the sign of a capture, the target and a promotion, each as far
-- as it is said. Only signs of check and mate follow.
unfoldable pub going_named : List ℕ → Option Going
going_named text =
    let piece = maybe (one piece_named) text in
    let file = maybe (one file_named) piece.1 in
    let rank = maybe (one rank_named) file.1 in
    let capture = maybe (one capture_named) rank.1 in
    let target = maybe square_read capture.1 in
    let promo = maybe promotion_read target.1 in
    cond (list_all is_sign promo.1) (aimed (unwrap_or piece.0 Pawn) file.0 rank.0 (is_some capture.0) target.0 promo.0) None

-- Whether the text is this form, and then only signs.
abbrev pub is_form : List ℕ → List ℕ → Bool
is_form [] text = list_all is_sign text
is_form (byte ∷ form) [] = false
is_form (byte ∷ form) (first ∷ text) = (first == byte) && is_form form text

-- The shape that is no man that goes.
unfoldable pub form_named : List ℕ → Option Shape
form_named text =
    cond (is_form (castling_text KingSide) text) (Some (Castle KingSide))
    (cond (is_form (castling_digits KingSide) text) (Some (Castle KingSide))
    (cond (is_form (castling_text QueenSide) text) (Some (Castle QueenSide))
    (cond (is_form (castling_digits QueenSide) text) (Some (Castle QueenSide))
    (cond (is_form null_text text) (Some Null) None))))

-- The shape of a text, if it has one.
unfoldable pub shape_named : List ℕ → Option Shape
shape_named text = option_or (option_map Goes (going_named text)) (form_named text)

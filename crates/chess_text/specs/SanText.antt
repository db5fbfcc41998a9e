-- The text of a legal move as it is computed: the one text that San.antt allows (PGN standard, 8.2.3).
use Rattle.std.specs.Prelude.{ℕ, ◌==◌, ◌&&◌, ◌||◌, not, Bool, if◌then◌else◌, List, [], ◌∷◌, ◌++◌, Option, Some, None, codes}
use Rattle.std.specs.Option.{option_map_or}
use Rattle.cell_core.specs.declared.man.Kind.{Kind}
use Rattle.cell_core.specs.declared.man.Kind.TheVariants.{Queen, Rook, Bishop, Knight, Pawn}
use Rattle.cell_core.specs.declared.man.Man.{Man}
use Rattle.cell_core.specs.declared.step.Move.{Move}
use Rattle.cell_core.specs.Board.{man_at}
use Rattle.cell_core.specs.Man.{is_man}
use Rattle.chess_laws.specs.declared.setup.Setup.{Setup}
use Rattle.chess_laws.specs.declared.effect.Effect.{Effect}
use Rattle.chess_laws.specs.declared.effect.Effect.TheVariants.{Castle, Null}
use Rattle.chess_laws.specs.Geometry.{file_of, rank_of}
use Rattle.chess_laws.specs.Step.{effect_of, after}
use Rattle.chess_laws.specs.LegalNow.{some_below, in_check_now, legal_now}
use Rattle.chess_text.specs.Letters.{capital_of}
use Rattle.chess_text.specs.Squares.{file_text, rank_text, square_text}
use Rattle.chess_text.specs.SanShape.{castling_text, null_text}
use Rattle.chess_text.specs.San.{capture_text, pawn_text}

-- Whether another man of this kind stands on the square s and can legally go to the move's target.
abbrev pub is_rival_now : Setup → Kind → Move → ℕ → Bool
is_rival_now p k m s =
    not (s == m.from) && (is_man p.side k (man_at p.board s) && legal_now p (record { from = s; to = m.to; promo = None }))

-- As much of the origin as tells the man from these.
unfoldable pub origin_now : Setup → Kind → Move → List ℕ
origin_now p k m =
    if not (some_below (is_rival_now p k m) 64) then []
    else if not (some_below (λ s. is_rival_now p k m s && (file_of s == file_of m.from)) 64) then file_text (file_of m.from)
    else if not (some_below (λ s. is_rival_now p k m s && (rank_of s == rank_of m.from)) 64) then rank_text (rank_of m.from)
    else square_text m.from

-- The text of a man of this kind that goes, without a sign.
abbrev pub kind_now : Setup → Kind → Move → List ℕ
kind_now p Pawn m = pawn_text p m
kind_now p k m = capital_of k ∷ (origin_now p k m ++ (capture_text p m ++ square_text m.to))

abbrev pub going_now : Option Man → Setup → Move → List ℕ
going_now standing p m = option_map_or (λ man. kind_now p man.kind m) standing []

-- What a move may be promoted to, and nothing.
abbrev pub some_promotion : (Option Kind → Bool) → Bool
some_promotion test =
    test None || (test (Some Queen) || (test (Some Rook) || (test (Some Bishop) || test (Some Knight))))

-- Whether there is a legal move besides the null move.
unfoldable pub has_move_now : Setup → Bool
has_move_now p =
    some_below (λ from. some_below (λ to.
    not (to == from) && some_promotion (λ promo. legal_now p (record { from = from; to = to; promo = promo }))) 64) 64

-- The sign of a move that leads here.
abbrev pub sign_now : Setup → List ℕ
sign_now q = if in_check_now q.board q.side then (if has_move_now q then codes "+" else codes "#") else []

abbrev pub san_now : Effect → Setup → Move → List ℕ
san_now (Castle wing) p m = castling_text wing ++ sign_now (after p m (Castle wing))
san_now Null p m = null_text
san_now effect p m = going_now (man_at p.board m.from) p m ++ sign_now (after p m effect)

-- The text of a legal move.
unfoldable pub san_text : Setup → Move → List ℕ
san_text p m = san_now (effect_of p m) p m

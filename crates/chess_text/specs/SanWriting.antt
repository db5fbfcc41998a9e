-- What the writer of a move's text keeps on its way. No public contract cites these words.
use Rattle.std.specs.Prelude.{◌≡◌, ◌↔◌, ℕ, IsTrue, List, [], if◌then◌else◌}
use Rattle.std.specs.Int.{bit_at}
use Rattle.cell_core.specs.declared.man.Kind.{Kind}
use Rattle.cell_core.specs.declared.step.Move.{Move}
use Rattle.chess_laws.specs.declared.setup.Setup.{Setup}
use Rattle.cell_core.specs.Board.{man_at}
use Rattle.chess_laws.specs.declared.effect.Effect.{Effect}
use Rattle.chess_laws.specs.declared.effect.Effect.TheVariants.{Plain, Double, Passing, Castle, Null}
use Rattle.chess_laws.specs.Geometry.{file_of, rank_of}
use Rattle.chess_text.specs.SanShape.{castling_text, null_text}
use Rattle.chess_text.specs.declared.san_writing.Rivals.{Rivals}
use Rattle.chess_text.specs.Squares.{file_text, rank_text, square_text}
use Rattle.chess_text.specs.San.{IsRival, HasRival, HasRivalOnFile, HasRivalOnRank, GoingText, SignText}

-- A square that has no one in the word has the property.
abbrev pub SomeBut : ℕ → (ℕ → Type 0) → Type 0
SomeBut left P = (s : ℕ) × (bit_at left s ≡ 0) × P s

-- The other men of this kind that can legally go to the target: whether there is any, one on the file of the origin,
-- one on its rank. The word `left` has the squares of those that are still to be tried, and only the others count.
pub record RivalsBut (p : Setup) (k : Kind) (m : Move) (left : ℕ) (seen : Rivals) : Type 0 where
  pub any : IsTrue seen.any ↔ SomeBut left (IsRival p k m)
  pub on_file : IsTrue seen.on_file ↔ SomeBut left (λ s. IsRival p k m s × (file_of s ≡ file_of m.from))
  pub on_rank : IsTrue seen.on_rank ↔ SomeBut left (λ s. IsRival p k m s × (rank_of s ≡ rank_of m.from))

-- The same over all squares.
pub record AreRivals (p : Setup) (k : Kind) (m : Move) (seen : Rivals) : Type 0 where
  pub any : IsTrue seen.any ↔ HasRival p k m
  pub on_file : IsTrue seen.on_file ↔ HasRivalOnFile p k m
  pub on_rank : IsTrue seen.on_rank ↔ HasRivalOnRank p k m

-- The origin as far as these want it.
abbrev pub origin_by : Rivals → ℕ → List ℕ
origin_by seen s =
    if seen.any
    then (if seen.on_file then (if seen.on_rank then square_text s else rank_text (rank_of s)) else file_text (file_of s))
    else []

-- The text of a move before its sign, by the kind of half-move.
abbrev pub FrontText : Effect → Setup → Move → List ℕ → Type 0
FrontText Plain p m text = GoingText (man_at p.board m.from) p m text
FrontText Double p m text = GoingText (man_at p.board m.from) p m text
FrontText Passing p m text = GoingText (man_at p.board m.from) p m text
FrontText (Castle wing) p m text = text ≡ castling_text wing
FrontText Null p m text = text ≡ null_text

-- The sign by the kind of half-move and the position that it leads to.
abbrev pub SignBehind : Effect → Setup → List ℕ → Type 0
SignBehind Plain q text = SignText q text
SignBehind Double q text = SignText q text
SignBehind Passing q text = SignText q text
SignBehind (Castle wing) q text = SignText q text
SignBehind Null q text = text ≡ []

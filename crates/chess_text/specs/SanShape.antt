-- The shapes of a move's text in Standard Algebraic Notation (PGN standard, 8.2.3).
use Rattle.std.specs.Prelude.{◌≡◌, ℕ, ◌<◌, ◌⊎◌, List, [], ◌∷◌, ◌++◌, Option, Some, None, IsTrue, IfSome, codes}
use Rattle.std.specs.List.{AllByRecursion}
use Rattle.cell_core.specs.declared.man.Kind.{Kind}
use Rattle.cell_core.specs.declared.man.Kind.TheVariants.{King, Queen, Rook, Bishop, Knight, Pawn}
use Rattle.chess_laws.specs.declared.setup.Wing.{Wing}
use Rattle.chess_laws.specs.declared.setup.Wing.TheVariants.{KingSide, QueenSide}
use Rattle.chess_laws.specs.Step.{may_become}
use Rattle.chess_text.specs.declared.shape.Going.{Going}
use Rattle.chess_text.specs.declared.shape.Shape.{Shape}
use Rattle.chess_text.specs.declared.shape.Shape.TheVariants.{Castle, Null, Goes}
use Rattle.chess_text.specs.Letters.{capital_of}
use Rattle.chess_text.specs.Squares.{file_text, rank_text, square_text}

-- The letter of the man that moves: K, Q, R, B, N, and none for a pawn (PGN standard, 8.2.3.2).
abbrev pub man_text : Kind → List ℕ
man_text King = capital_of King ∷ []
man_text Queen = capital_of Queen ∷ []
man_text Rook = capital_of Rook ∷ []
man_text Bishop = capital_of Bishop ∷ []
man_text Knight = capital_of Knight ∷ []
man_text Pawn = []

-- Castling, by the letter O (PGN standard, 8.2.3.3), and as read also by the digit 0 (this project's own).
abbrev pub castling_text : Wing → List ℕ
castling_text KingSide = codes "O-O"
castling_text QueenSide = codes "O-O-O"

abbrev pub castling_digits : Wing → List ℕ
castling_digits KingSide = codes "0-0"
castling_digits QueenSide = codes "0-0-0"

-- The null move (this project's own).
abbrev pub null_text : List ℕ
null_text = codes "--"

-- What may be said or left out.
abbrev pub part : (ℕ → List ℕ) → Option ℕ → List ℕ
part text None = []
part text (Some n) = text n

-- The sign of a capture, x or a colon, or none: it is not checked (this project's own).
abbrev pub IsCaptureSign : List ℕ → Type 0
IsCaptureSign text = (text ≡ []) ⊎ ((text ≡ codes "x") ⊎ (text ≡ codes ":"))

-- A promotion: the letter of a queen, rook, bishop or knight, behind the sign = (PGN standard, 8.2.3.3) or without it (this
-- project's own); or none.
abbrev pub IsPromotion : List ℕ → Option Kind → Type 0
IsPromotion text None = text ≡ []
IsPromotion text (Some kind) =
    IsTrue (may_become (Some kind)) × ((text ≡ capital_of kind ∷ []) ⊎ (text ≡ 61 ∷ capital_of kind ∷ []))

-- A man goes to a square: its letter, its file and its rank as far as they are said, the sign of a capture, the target and
-- a promotion (PGN standard, 8.2.3.3 and 8.2.3.4).
pub record IsGoing (text : List ℕ) (g : Going) : Type 0 where
  pub capture : List ℕ
  pub promotion : List ℕ
  pub spelled : text
      ≡ man_text g.kind ++ (part file_text g.file ++ (part rank_text g.rank
      ++ (capture ++ (square_text g.target ++ promotion))))
  pub file : IfSome g.file (λ file. file < 8)
  pub rank : IfSome g.rank (λ rank. rank < 8)
  pub target : g.target < 64
  pub captures : IsCaptureSign capture
  pub promotes : IsPromotion promotion g.promo

-- The text of a move before its signs.
abbrev pub IsMoveText : List ℕ → Shape → Type 0
IsMoveText text (Castle wing) = (text ≡ castling_text wing) ⊎ (text ≡ castling_digits wing)
IsMoveText text Null = text ≡ null_text
IsMoveText text (Goes g) = IsGoing text g

-- The signs of check and mate, + and #: any number in any order, which are not checked (this project's own).
abbrev pub AreSigns : List ℕ → Type 0
AreSigns signs = AllByRecursion (λ byte. (byte ≡ 43) ⊎ (byte ≡ 35)) signs

-- The text has this shape: it is the text of a move, and then any signs.
pub record HasShape (text : List ℕ) (shape : Shape) : Type 0 where
  pub front : List ℕ
  pub signs : List ℕ
  pub spelled : text ≡ front ++ signs
  pub is_text : IsMoveText front shape
  pub are_signs : AreSigns signs

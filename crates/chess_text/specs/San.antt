-- The text of a legal move in Standard Algebraic Notation (PGN standard, 8.2.3).
use Rattle.std.specs.Prelude.{◌≡◌, ℕ, ◌⊎◌, if◌then◌else◌, List, [], ◌∷◌, ◌++◌, Option, Some, None, codes}
use Rattle.std.specs.Option.{option_map_or}
use Rattle.cell_core.specs.declared.man.Kind.{Kind}
use Rattle.cell_core.specs.declared.man.Kind.TheVariants.{King, Queen, Rook, Bishop, Knight, Pawn}
use Rattle.cell_core.specs.declared.man.Man.{Man}
use Rattle.cell_core.specs.declared.step.Move.{Move}
use Rattle.cell_core.specs.Board.{man_at}
use Rattle.cell_core.specs.Man.{man}
use Rattle.chess_laws.specs.declared.setup.Setup.{Setup}
use Rattle.chess_laws.specs.declared.effect.Effect.{Effect}
use Rattle.chess_laws.specs.declared.effect.Effect.TheVariants.{Plain, Double, Passing, Castle, Null}
use Rattle.chess_laws.specs.Attacks.{IsInCheck}
use Rattle.chess_laws.specs.Geometry.{file_of, rank_of}
use Rattle.chess_laws.specs.Moves.{IsMove}
use Rattle.chess_laws.specs.Step.{effect_of, after, is_capture, Legal}
use Rattle.chess_text.specs.Letters.{capital_of}
use Rattle.chess_text.specs.Squares.{file_text, rank_text, square_text}
use Rattle.chess_text.specs.SanShape.{castling_text, null_text}

-- Another man of this kind stands on the square s, and can legally go to the move's target.
pub record IsRival (p : Setup) (k : Kind) (m : Move) (s : ℕ) : Type 0 where
  pub apart : s ≡ m.from → ⊥
  pub stands : man_at p.board s ≡ Some (man p.side k)
  pub legal : Legal p (record { from = s; to = m.to; promo = None })

-- There is such a man: anywhere, on the file of the move's origin, on its rank.
abbrev pub HasRival : Setup → Kind → Move → Type 0
HasRival p k m = (s : ℕ) × IsRival p k m s

abbrev pub HasRivalOnFile : Setup → Kind → Move → Type 0
HasRivalOnFile p k m = (s : ℕ) × IsRival p k m s × (file_of s ≡ file_of m.from)

abbrev pub HasRivalOnRank : Setup → Kind → Move → Type 0
HasRivalOnRank p k m = (s : ℕ) × IsRival p k m s × (rank_of s ≡ rank_of m.from)

-- As much of the origin as tells the man from all others of its kind that can legally go there: nothing, else its file, else
-- its rank, else both (PGN standard, 8.2.3.4).
abbrev pub OriginText : Setup → Kind → Move → List ℕ → Type 0
OriginText p k m text =
    ((HasRival p k m → ⊥) × (text ≡ []))
    ⊎ ((HasRival p k m × ((HasRivalOnFile p k m → ⊥) × (text ≡ file_text (file_of m.from))))
    ⊎ ((HasRivalOnFile p k m × ((HasRivalOnRank p k m → ⊥) × (text ≡ rank_text (rank_of m.from))))
    ⊎ (HasRivalOnFile p k m × (HasRivalOnRank p k m × (text ≡ square_text m.from)))))

-- The sign of a capture.
abbrev pub capture_text : Setup → Move → List ℕ
capture_text p m = if is_capture p m then codes "x" else []

-- A promotion: the sign = and the letter (PGN standard, 8.2.3.3).
abbrev pub promotion_text : Option Kind → List ℕ
promotion_text promo = option_map_or (λ kind. codes "=" ++ capital_of kind ∷ []) promo []

-- A pawn's move: if it captures, its file always (PGN standard, 8.2.3.3).
unfoldable pub pawn_text : Setup → Move → List ℕ
pawn_text p m = (if is_capture p m then file_text (file_of m.from) ++ codes "x" else []) ++ (square_text m.to ++ promotion_text m.promo)

-- The move of any other man: its letter, its origin as far as needed, the sign of a capture, the target (PGN standard,
-- 8.2.3.3).
pub record PieceText (p : Setup) (k : Kind) (m : Move) (text : List ℕ) : Type 0 where
  pub origin : List ℕ
  pub is_origin : OriginText p k m origin
  pub spelled : text ≡ capital_of k ∷ (origin ++ (capture_text p m ++ square_text m.to))

abbrev pub KindText : Setup → Kind → Move → List ℕ → Type 0
KindText p King m text = PieceText p King m text
KindText p Queen m text = PieceText p Queen m text
KindText p Rook m text = PieceText p Rook m text
KindText p Bishop m text = PieceText p Bishop m text
KindText p Knight m text = PieceText p Knight m text
KindText p Pawn m text = text ≡ pawn_text p m

-- The text of a man that goes to its target, before the signs.
abbrev pub GoingText : Option Man → Setup → Move → List ℕ → Type 0
GoingText None p m text = text ≡ []
GoingText (Some man) p m text = KindText p man.kind m text

-- There is a legal move besides the null move.
abbrev pub HasMove : Setup → Type 0
HasMove p = (m : Move) × IsMove p m

-- The sign of a move that leads here: + for check, # for mate, which is check with no legal move (PGN standard, 8.2.3.5; FIDE
-- Laws, Article 5.1.1).
abbrev pub SignText : Setup → List ℕ → Type 0
SignText q text =
    ((IsInCheck q.board q.side → ⊥) × (text ≡ []))
    ⊎ ((IsInCheck q.board q.side × (HasMove q × (text ≡ codes "+")))
    ⊎ (IsInCheck q.board q.side × ((HasMove q → ⊥) × (text ≡ codes "#"))))

-- A text and the sign behind it.
pub record IsSigned (q : Setup) (Front : List ℕ → Type 0) (text : List ℕ) : Type 0 where
  pub front : List ℕ
  pub sign : List ℕ
  pub spelled : text ≡ front ++ sign
  pub is_front : Front front
  pub is_sign : SignText q sign

-- The text of a legal move: castling and the null move have forms of their own, and the null move no sign.
abbrev pub SanBy : Effect → Setup → Move → List ℕ → Type 0
SanBy Plain p m text = IsSigned (after p m Plain) (GoingText (man_at p.board m.from) p m) text
SanBy Double p m text = IsSigned (after p m Double) (GoingText (man_at p.board m.from) p m) text
SanBy Passing p m text = IsSigned (after p m Passing) (GoingText (man_at p.board m.from) p m) text
SanBy (Castle wing) p m text = IsSigned (after p m (Castle wing)) (λ front. front ≡ castling_text wing) text
SanBy Null p m text = text ≡ null_text

abbrev pub San : Setup → Move → List ℕ → Type 0
San p m text = SanBy (effect_of p m) p m text

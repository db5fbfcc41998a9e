-- Which move a text is in a position, and why a text is none (PGN standard, 8.2.3).
use Rattle.std.specs.Prelude.{◌≡◌, ℕ, Bool, true, false, List, Some, IfSome}
use Rattle.cell_core.specs.declared.step.Move.{Move}
use Rattle.cell_core.specs.Board.{man_at}
use Rattle.cell_core.specs.Man.{man}
use Rattle.chess_laws.specs.declared.setup.Setup.{Setup}
use Rattle.chess_laws.specs.declared.effect.Effect.{Effect}
use Rattle.chess_laws.specs.declared.effect.Effect.TheVariants as effect
use Rattle.chess_laws.specs.Geometry.{file_of, rank_of}
use Rattle.chess_laws.specs.Step.{effect_of, Legal}
use Rattle.chess_text.specs.declared.shape.Going.{Going}
use Rattle.chess_text.specs.declared.shape.Shape.{Shape}
use Rattle.chess_text.specs.declared.shape.Shape.TheVariants.{Castle, Null, Goes}
use Rattle.chess_text.specs.declared.fault.SanFault.{SanFault}
use Rattle.chess_text.specs.declared.fault.SanFault.TheVariants as fault
use Rattle.chess_text.specs.SanShape.{HasShape}

-- Castling and the null move are read only by forms of their own (this project's own).
abbrev pub has_own_form : Effect → Bool
has_own_form (effect.Castle wing) = true
has_own_form effect.Null = true
has_own_form _ = false

-- The man that goes is of this kind, comes from this file and rank as far as they are said, goes to this target and is
-- promoted to this, or not at all.
pub record GoesSo (p : Setup) (m : Move) (g : Going) : Type 0 where
  pub stands : man_at p.board m.from ≡ Some (man p.side g.kind)
  pub file : IfSome g.file (λ file. file_of m.from ≡ file)
  pub rank : IfSome g.rank (λ rank. rank_of m.from ≡ rank)
  pub target : m.to ≡ g.target
  pub promo : m.promo ≡ g.promo
  pub no_own_form : has_own_form (effect_of p m) ≡ false

-- The move is of this shape.
abbrev pub IsOfShape : Setup → Move → Shape → Type 0
IsOfShape p m (Castle wing) = effect_of p m ≡ effect.Castle wing
IsOfShape p m Null = effect_of p m ≡ effect.Null
IsOfShape p m (Goes g) = GoesSo p m g

-- A legal move of this shape.
pub record Fits (p : Setup) (shape : Shape) (m : Move) : Type 0 where
  pub legal : Legal p m
  pub of_shape : IsOfShape p m shape

-- The text is this move: the one legal move of the text's shape.
pub record SanReads (p : Setup) (text : List ℕ) (m : Move) : Type 0 where
  pub shape : Shape
  pub spelled : HasShape text shape
  pub fits : Fits p shape m
  pub only : (n : Move) → Fits p shape n → n ≡ m

-- The text has a shape, and no legal move is of it.
pub record FitsNone (p : Setup) (text : List ℕ) : Type 0 where
  pub shape : Shape
  pub spelled : HasShape text shape
  pub none : (m : Move) → Fits p shape m → ⊥

-- The text has a shape, and two different legal moves are of it.
pub record FitsTwo (p : Setup) (text : List ℕ) : Type 0 where
  pub shape : Shape
  pub spelled : HasShape text shape
  pub first : Move
  pub second : Move
  pub fits_first : Fits p shape first
  pub fits_second : Fits p shape second
  pub different : first ≡ second → ⊥

-- Why a text is no move: it has no shape, no legal move is of its shape, or more than one is.
abbrev pub SanFaultOf : Setup → List ℕ → SanFault → Type 0
SanFaultOf p text fault.Shape = (shape : Shape) → HasShape text shape → ⊥
SanFaultOf p text fault.NoMove = FitsNone p text
SanFaultOf p text fault.Two = FitsTwo p text

-- What the search for a move of a shape answers. No public contract cites these words.
use Rattle.std.specs.Prelude.{◌≡◌, ℕ, ◌<◌, ◌+◌, ◌%◌, ◌==◌, not, Bool, false, List, Option, Some, None, Result, MatchResult, IfSome, slice_index_or}
use Rattle.std.specs.Int.{bit_at}
use Rattle.cell_core.specs.declared.step.Move.{Move}
use Rattle.cell_core.specs.Board.{man_at}
use Rattle.cell_core.specs.Man.{man}
use Rattle.chess_laws.specs.declared.setup.Setup.{Setup}
use Rattle.chess_laws.specs.Geometry.{file_of, rank_of}
use Rattle.chess_text.specs.declared.shape.Going.{Going}
use Rattle.chess_text.specs.declared.shape.Shape.{Shape}
use Rattle.chess_text.specs.declared.shape.Shape.TheVariants.{Goes}
use Rattle.chess_text.specs.declared.fault.SanFault.{SanFault}
use Rattle.chess_text.specs.declared.fault.SanFault.TheVariants as fault
use Rattle.chess_text.specs.SanReads.{Fits}

-- The move is the one legal move of the shape.
pub record IsOnly (p : Setup) (shape : Shape) (m : Move) : Type 0 where
  pub fits : Fits p shape m
  pub only : (n : Move) → Fits p shape n → n ≡ m

-- Two different legal moves are of the shape.
pub record AreTwo (p : Setup) (shape : Shape) : Type 0 where
  pub first : Move
  pub second : Move
  pub fits_first : Fits p shape first
  pub fits_second : Fits p shape second
  pub different : first ≡ second → ⊥

-- The answer to a shape: its one legal move, or that there is none, or that there are two.
abbrev pub NotOne : Setup → Shape → SanFault → Type 0
NotOne p shape fault.Shape = ⊥
NotOne p shape fault.NoMove = (m : Move) → Fits p shape m → ⊥
NotOne p shape fault.Two = AreTwo p shape

abbrev pub AnswersShape : Setup → Shape → Result Move SanFault → Type 0
AnswersShape p shape answer = MatchResult answer (IsOnly p shape) (NotOne p shape)

-- Such a man stands on the square, as far as the text says where.
pub record StandsSo (p : Setup) (g : Going) (s : ℕ) : Type 0 where
  pub stands : man_at p.board s ≡ Some (man p.side g.kind)
  pub file : IfSome g.file (λ file. file_of s ≡ file)
  pub rank : IfSome g.rank (λ rank. rank_of s ≡ rank)

-- The one legal move of the shape from a square below n, if there is one.
pub record IsOnlyBelow (p : Setup) (g : Going) (n : ℕ) (m : Move) : Type 0 where
  pub fits : Fits p (Goes g) m
  pub below : m.from < n
  pub only : (other : Move) → Fits p (Goes g) other → other.from < n → other ≡ m

abbrev pub FoundBelow : Setup → Going → ℕ → Option Move → Type 0
FoundBelow p g n None = (m : Move) → Fits p (Goes g) m → m.from < n → ⊥
FoundBelow p g n (Some m) = IsOnlyBelow p g n m

-- The legal move of the shape from this square, if there is one.
pub record FitsFrom (p : Setup) (g : Going) (s : ℕ) (m : Move) : Type 0 where
  pub fits : Fits p (Goes g) m
  pub from : m.from ≡ s

-- What was found is this move, and it is every legal move of the shape from a square.
abbrev pub IsFound : Option Move → Move → Type 0
IsFound None m = ⊥
IsFound (Some first) m = m ≡ first

abbrev pub Known : Setup → Going → Option Move → ℕ → Type 0
Known p g found s = (m : Move) → Fits p (Goes g) m → m.from ≡ s → IsFound found m

-- A legal move of the shape, if any was found, and what was known of squares before stays known.
pub record Grown (p : Setup) (g : Going) (before after : Option Move) : Type 0 where
  pub fits : IfSome after (Fits p (Goes g))
  pub kept : (s : ℕ) → Known p g before s → Known p g after s

-- So it is after one more square, and after the first n squares to which these steps lead from the target.
pub record FoundWith (p : Setup) (g : Going) (s : ℕ) (before after : Option Move) : Type 0 where
  pub grown : Grown p g before after
  pub known : Known p g after s

abbrev pub step_on : List ℕ → ℕ → ℕ → ℕ
step_on steps target k = (target + slice_index_or steps k 0 % 64) % 64

pub record FoundBy (p : Setup) (g : Going) (steps : List ℕ) (n : ℕ) (found : Option Move) : Type 0 where
  pub fits : IfSome found (Fits p (Goes g))
  pub known : (k : ℕ) → k < n → Known p g found (step_on steps g.target k)

-- So it is if the squares of the men that are left to be tried are the bits of a word.
pub record FoundBut (p : Setup) (g : Going) (left : ℕ) (found : Option Move) : Type 0 where
  pub fits : IfSome found (Fits p (Goes g))
  pub known : (s : ℕ) → bit_at left s ≡ 0 → Known p g found s

-- What was found is every legal move of the shape.
pub record FoundAll (p : Setup) (g : Going) (found : Option Move) : Type 0 where
  pub fits : IfSome found (Fits p (Goes g))
  pub all : (m : Move) → Fits p (Goes g) m → IsFound found m

-- Whether what was found is a move from another square.
abbrev pub is_from_elsewhere : Option Move → ℕ → Bool
is_from_elsewhere None s = false
is_from_elsewhere (Some first) s = not (first.from == s)

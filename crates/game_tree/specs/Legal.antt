-- Which games are legal (FIDE Laws, Article 3, for the moves; PGN standard, 8.2, for lines and variations).
use Rattle.std.specs.Prelude.{◌≢◌, ℕ, ◌≤◌, List, [], Option, Some, None}
use Rattle.chess_laws.specs.declared.setup.Setup.{Setup}
use Rattle.chess_laws.specs.Step.{Step, stepped}
use Rattle.game_tree.specs.Tree.{Line, ends, goes, Branches, none, more, depth_of}
use Rattle.game_tree.specs.Game.{GameTree}

-- A comment is not empty.
abbrev pub IsComment : Option (List ℕ) → Type 0
IsComment None = Unit {0}
IsComment (Some text) = text ≢ []

-- A line is a chain of legal moves from its position, and each variation one from the position before the move that it
-- hangs on; no comment is empty.
abbrev mutual
  pub IsLegalLine : Setup → Line → Type 0
  IsLegalLine p ends = Unit {0}
  IsLegalLine p (goes mv nags comment variations line) =
      Step p mv (stepped p mv) × (IsComment comment × (AreLegalBranches p variations × IsLegalLine (stepped p mv) line))

  pub AreLegalBranches : Setup → Branches → Type 0
  AreLegalBranches p none = Unit {0}
  AreLegalBranches p (more lead line others) = IsComment lead × (IsLegalLine p line × AreLegalBranches p others)

-- How many variations may be open at one place (this project's own).
abbrev pub deepest : ℕ
deepest = 200

-- A game is legal if all its lines are and no more variations than that are open at one place.
pub record IsLegalGame (g : GameTree) : Type 0 where
  pub lead : IsComment g.lead
  pub line : IsLegalLine g.start g.line
  pub depth : depth_of g.line ≤ deepest

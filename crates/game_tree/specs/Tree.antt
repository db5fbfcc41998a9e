-- Games as trees of plain values (PGN standard, 8.2: moves, comments, NAGs, and variations in brackets).
use Rattle.std.specs.Prelude.{ℕ, ◌+◌, max, List, [], ◌∷◌, Option}
use Rattle.cell_core.specs.declared.step.Move.{Move}

-- A line is a list of moves, each with its NAGs, an optional comment and variations. A variation is an optional comment
-- and a line, which begins at the position before the move that the variation hangs on.
mutual
  pub data Line : Type 0 where
    ends : Line
    goes : Move → List ℕ → Option (List ℕ) → Branches → Line → Line

  pub data Branches : Type 0 where
    none : Branches
    more : Option (List ℕ) → Line → Branches → Branches

-- One move of a line.
pub record Played : Type 0 where
  pub mv : Move
  pub nags : List ℕ
  pub comment : Option (List ℕ)
  pub variations : Branches

-- One variation of a move.
pub record Variation : Type 0 where
  pub lead : Option (List ℕ)
  pub line : Line

-- The line of these moves.
abbrev pub line_of : List Played → Line
line_of [] = ends
line_of (p ∷ ps) = goes p.mv p.nags p.comment p.variations (line_of ps)

-- The variations of a move, in their order.
abbrev pub branches_of : List Variation → Branches
branches_of [] = none
branches_of (v ∷ vs) = more v.lead v.line (branches_of vs)

-- The moves of a line, without its variations.
abbrev pub moves_of : Line → List Move
moves_of ends = []
moves_of (goes mv nags comment variations line) = mv ∷ moves_of line

-- How many variations are open at most at a place of a line.
abbrev mutual
  pub depth_of : Line → ℕ
  depth_of ends = 0
  depth_of (goes mv nags comment variations line) = max (depth_within variations) (depth_of line)

  pub depth_within : Branches → ℕ
  depth_within none = 0
  depth_within (more lead line others) = max (depth_of line + 1) (depth_within others)

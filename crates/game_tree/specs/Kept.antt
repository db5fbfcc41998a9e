-- What every game keeps by the types of its parts. Its start keeps the rules of a position, no text of a comment has a
-- zero byte, and each NAG is a number below 256 (PGN standard, 8.2.4; that a zero byte ends a stored text is this
-- project's own).
use Rattle.std.specs.Prelude.{ℕ, ◌<◌, List, All, Option, Some, None}
use Rattle.cell_core.specs.Text.{IsZeroFree}
use Rattle.chess_laws.specs.Position.{Sound}
use Rattle.game_tree.specs.Tree.{Line, ends, goes, Branches, none, more, Played, Variation}
use Rattle.game_tree.specs.Game.{GameTree}

-- A comment has no zero byte.
abbrev pub IsCommentText : Option (List ℕ) → Type 0
IsCommentText None = Unit {0}
IsCommentText (Some text) = IsZeroFree text

-- Each NAG is a byte.
abbrev pub AreNags : List ℕ → Type 0
AreNags nags = All (λ nag. nag < 256) nags

-- A line whose comments and NAGs are so, in its variations too.
abbrev mutual
  pub IsLine : Line → Type 0
  IsLine ends = Unit {0}
  IsLine (goes mv nags comment variations line) = AreNags nags × (IsCommentText comment × (AreBranches variations × IsLine line))

  pub AreBranches : Branches → Type 0
  AreBranches none = Unit {0}
  AreBranches (more lead line others) = IsCommentText lead × (IsLine line × AreBranches others)

-- One move of such a line, and one variation.
pub record IsPlayed (played : Played) : Type 0 where
  pub nags : AreNags played.nags
  pub comment : IsCommentText played.comment
  pub variations : AreBranches played.variations

pub record IsVariation (variation : Variation) : Type 0 where
  pub lead : IsCommentText variation.lead
  pub line : IsLine variation.line

-- The whole game.
pub record IsGame (game : GameTree) : Type 0 where
  pub start : Sound game.start
  pub lead : IsCommentText game.lead
  pub line : IsLine game.line

-- A game with other texts in its comments (this project's own).
use Rattle.std.specs.Prelude.{◌≢◌, List, [], ℕ, option_map}
use Rattle.game_tree.specs.Tree.{Line, ends, goes, Branches, none, more}
use Rattle.game_tree.specs.Game.{GameTree}

-- The line with each comment's text changed in this way, in all its variations.
abbrev mutual
  pub line_with_comments : (List ℕ → List ℕ) → Line → Line
  line_with_comments f ends = ends
  line_with_comments f (goes mv nags comment variations line) =
      goes mv nags (option_map f comment) (branches_with_comments f variations) (line_with_comments f line)

  pub branches_with_comments : (List ℕ → List ℕ) → Branches → Branches
  branches_with_comments f none = none
  branches_with_comments f (more lead line others) =
      more (option_map f lead) (line_with_comments f line) (branches_with_comments f others)

-- The game so.
abbrev pub with_comments : (List ℕ → List ℕ) → GameTree → GameTree
with_comments f game = record { start = game.start; lead = option_map f game.lead; line = line_with_comments f game.line }

-- A change of texts that makes no text empty.
abbrev pub KeepsTexts : (List ℕ → List ℕ) → Type 0
KeepsTexts f = (text : List ℕ) → text ≢ [] → f text ≢ []

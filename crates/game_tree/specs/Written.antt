-- The items of a tree in the order in which they are written: after each move its NAGs, its comment and its
-- variations, and a line's own comment before its first move (PGN standard, 8.2).
use Rattle.std.specs.Prelude.{ℕ, List, [], ◌∷◌, Option, Some, None}
use Rattle.game_tree.specs.Tree.{Line, ends, goes, Branches, none, more}
use Rattle.game_tree.specs.Game.{GameTree}
use Rattle.game_tree.specs.Movetext.{Movetext, end, move, nag, comment, variation}
use Rattle.game_tree.specs.Legal.{IsComment}

abbrev pub nags_before : List ℕ → Movetext → Movetext
nags_before [] s = s
nags_before (n ∷ ns) s = nag n (nags_before ns s)

abbrev pub comment_before : Option (List ℕ) → Movetext → Movetext
comment_before None s = s
comment_before (Some text) s = comment text s

abbrev mutual
  pub movetext_of : Line → Movetext
  movetext_of ends = end
  movetext_of (goes mv nags text variations line) =
      move mv (nags_before nags (comment_before text (variations_before variations (movetext_of line))))

  pub variations_before : Branches → Movetext → Movetext
  variations_before none s = s
  variations_before (more lead line others) s = variation (comment_before lead (movetext_of line)) (variations_before others s)

-- The movetext of a game: its comment, and its main line.
abbrev pub movetext_of_game : GameTree → Movetext
movetext_of_game game = comment_before game.lead (movetext_of game.line)

-- No comment of a line is empty.
abbrev mutual
  pub HasComments : Line → Type 0
  HasComments ends = Unit {0}
  HasComments (goes mv nags text variations line) = IsComment text × (HaveComments variations × HasComments line)

  pub HaveComments : Branches → Type 0
  HaveComments none = Unit {0}
  HaveComments (more lead line others) = IsComment lead × (HasComments line × HaveComments others)

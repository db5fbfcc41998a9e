-- How many variations, comments and NAGs a game has: in its main line and in all its variations (this project's own). The
-- comment before the first move counts, that of a variation too.
use Rattle.std.specs.Prelude.{ℕ, ◌+◌, min, List, Option, length}
use Rattle.std.specs.Option.{option_len}
use Rattle.game_tree.specs.Tree.{Line, ends, goes, Branches, none, more}
use Rattle.game_tree.specs.Game.{GameTree}

-- A sum over a line and all its variations: so much for each move, by its NAGs and its comment, and so much for each variation, by the
-- comment before its first move.
abbrev mutual
  pub line_sum : (List ℕ → Option (List ℕ) → ℕ) → (Option (List ℕ) → ℕ) → Line → ℕ
  line_sum at_move at_variation ends = 0
  line_sum at_move at_variation (goes mv nags comment variations line) =
      at_move nags comment + branches_sum at_move at_variation variations + line_sum at_move at_variation line

  pub branches_sum : (List ℕ → Option (List ℕ) → ℕ) → (Option (List ℕ) → ℕ) → Branches → ℕ
  branches_sum at_move at_variation none = 0
  branches_sum at_move at_variation (more lead line others) =
      at_variation lead + line_sum at_move at_variation line + branches_sum at_move at_variation others

-- The variations of a game, its comments and its NAGs.
abbrev pub variations_of : GameTree → ℕ
variations_of game = line_sum (λ nags comment. 0) (λ lead. 1) game.line

abbrev pub comments_of : GameTree → ℕ
comments_of game = option_len game.lead + line_sum (λ nags comment. option_len comment) option_len game.line

abbrev pub nags_of : GameTree → ℕ
nags_of game = line_sum (λ nags comment. length nags) (λ lead. 0) game.line

-- A count as 64 bits have it: the greatest number stands for all above it.
abbrev pub in_64_bits : ℕ → ℕ
in_64_bits n = min n 18446744073709551615

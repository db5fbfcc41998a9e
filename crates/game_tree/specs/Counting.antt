-- Counts while a walk goes over the lines of a game. No public contract cites these words.
use Rattle.std.specs.Prelude.{◌≡◌, ℕ, ◌+◌, ◌≤◌, length}
use Rattle.std.specs.Option.{option_len}
use Rattle.game_tree.specs.Tree.{Line, ends, goes, Branches, none, more}
use Rattle.game_tree.specs.Counts.{in_64_bits}
use Rattle.game_tree.specs.declared.counts.Counts.{Counts}

-- The variations of a line.
abbrev mutual
  pub line_variations : Line → ℕ
  line_variations ends = 0
  line_variations (goes mv nags comment variations line) = branches_variations variations + line_variations line

  pub branches_variations : Branches → ℕ
  branches_variations none = 0
  branches_variations (more lead line others) = 1 + line_variations line + branches_variations others

-- Its comments.
abbrev mutual
  pub line_comments : Line → ℕ
  line_comments ends = 0
  line_comments (goes mv nags comment variations line) = option_len comment + branches_comments variations + line_comments line

  pub branches_comments : Branches → ℕ
  branches_comments none = 0
  branches_comments (more lead line others) = option_len lead + line_comments line + branches_comments others

-- Its NAGs.
abbrev mutual
  pub line_nags : Line → ℕ
  line_nags ends = 0
  line_nags (goes mv nags comment variations line) = length nags + branches_nags variations + line_nags line

  pub branches_nags : Branches → ℕ
  branches_nags none = 0
  branches_nags (more lead line others) = line_nags line + branches_nags others

-- So many variations, comments and NAGs came to the counts.
pub record Came (old new : Counts) (variations comments nags : ℕ) : Type 0 where
  pub variations_are : in_64_bits new.variations ≡ in_64_bits (old.variations + variations)
  pub comments_are : in_64_bits new.comments ≡ in_64_bits (old.comments + comments)
  pub nags_are : in_64_bits new.nags ≡ in_64_bits (old.nags + nags)

-- The counts are numbers of 64 bits.
pub record Fit (counts : Counts) : Type 0 where
  pub variations : counts.variations ≤ 18446744073709551615
  pub comments : counts.comments ≤ 18446744073709551615
  pub nags : counts.nags ≤ 18446744073709551615

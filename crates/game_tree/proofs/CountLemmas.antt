-- Counts in 64 bits, and that a walk over the lines counts the sums.
use Rattle.std.proofs.Common.{◌≡◌, ℕ, ◌+◌, ◌≤◌, length, refl, arith}
use Rattle.std.specs.Option.{option_len}
use Rattle.game_tree.specs.Tree.{Line, ends, goes, Branches, none, more}
use Rattle.game_tree.specs.Counts.{line_sum, branches_sum, in_64_bits}
use Rattle.game_tree.specs.Counting.{Fit, line_variations, branches_variations, line_comments, branches_comments, line_nags, branches_nags}
use Rattle.game_tree.specs.declared.counts.Counts.{Counts}

-- While the counts go up: what is left leads to the same as all.
pub record Left (old now : Counts) (all_variations all_comments all_nags variations comments nags : ℕ) : Type 0 where
  pub fit : Fit now
  pub variations_are : in_64_bits (now.variations + variations) ≡ in_64_bits (old.variations + all_variations)
  pub comments_are : in_64_bits (now.comments + comments) ≡ in_64_bits (old.comments + all_comments)
  pub nags_are : in_64_bits (now.nags + nags) ≡ in_64_bits (old.nags + all_nags)

-- A count that came from nothing else.
pub in_64_bits-whole : (new sum all : ℕ) → new ≤ 18446744073709551615 → in_64_bits new ≡ in_64_bits sum → sum ≡ all → new ≡ in_64_bits all
in_64_bits-whole new sum all under e is = grind arith

-- The variations of a line, and of variations one behind the other, as a sum.
abbrev pub variations_in : Line → ℕ
variations_in line = line_sum (λ nags comment. 0) (λ lead. 1) line

abbrev pub variations_among : Branches → ℕ
variations_among branches = branches_sum (λ nags comment. 0) (λ lead. 1) branches

mutual
  pub variations-is : (line : Line) → line_variations line ≡ variations_in line
  variations-is ends = refl
  variations-is (goes mv nags comment variations line) = omega (arith, variations-are variations, variations-is line)

  pub variations-are : (branches : Branches) → branches_variations branches ≡ variations_among branches
  variations-are none = refl
  variations-are (more lead line others) = omega (arith, variations-is line, variations-are others)

-- The comments of a line, and of variations one behind the other, as a sum.
abbrev pub comments_in : Line → ℕ
comments_in line = line_sum (λ nags comment. option_len comment) option_len line

abbrev pub comments_among : Branches → ℕ
comments_among branches = branches_sum (λ nags comment. option_len comment) option_len branches

mutual
  pub comments-is : (line : Line) → line_comments line ≡ comments_in line
  comments-is ends = refl
  comments-is (goes mv nags comment variations line) = omega (arith, comments-are variations, comments-is line)

  pub comments-are : (branches : Branches) → branches_comments branches ≡ comments_among branches
  comments-are none = refl
  comments-are (more lead line others) = omega (arith, comments-is line, comments-are others)

-- The NAGs of a line, and of variations one behind the other, as a sum.
abbrev pub nags_in : Line → ℕ
nags_in line = line_sum (λ nags comment. length nags) (λ lead. 0) line

abbrev pub nags_among : Branches → ℕ
nags_among branches = branches_sum (λ nags comment. length nags) (λ lead. 0) branches

mutual
  pub nags-is : (line : Line) → line_nags line ≡ nags_in line
  nags-is ends = refl
  nags-is (goes mv nags comment variations line) = omega (arith, nags-are variations, nags-is line)

  pub nags-are : (branches : Branches) → branches_nags branches ≡ nags_among branches
  nags-are none = refl
  nags-are (more lead line others) = omega (arith, nags-is line, nags-are others)

-- A game with other texts in its comments has the same moves, and is legal where it was.
use Rattle.std.proofs.Common.{◌≡◌, ℕ, List, ◌∷◌, Option, Some, None, refl, ap}
use Rattle.std.specs.Prelude.{◌+◌, max, option_map}
use Rattle.chess_laws.specs.declared.setup.Setup.{Setup}
use Rattle.game_tree.specs.Tree.{Line, ends, goes, Branches, none, more, moves_of, depth_of, depth_within}
use Rattle.game_tree.specs.Game.{GameTree}
use Rattle.chess_laws.specs.Step.{stepped}
use Rattle.game_tree.specs.Legal.{IsComment, IsLegalLine, AreLegalBranches, IsLegalGame}
use Rattle.game_tree.specs.Comments.{line_with_comments, branches_with_comments, with_comments, KeepsTexts}

pub moves_of-comments : (f : List ℕ → List ℕ) (l : Line) → moves_of (line_with_comments f l) ≡ moves_of l
moves_of-comments f ends = refl
moves_of-comments f (goes m n c v l) = ap (λ ms. m ∷ ms) (moves_of-comments f l)

mutual
  pub depth_of-comments : (f : List ℕ → List ℕ) (l : Line) → depth_of (line_with_comments f l) ≡ depth_of l
  depth_of-comments f ends = refl
  depth_of-comments f (goes m n c v l) = λ i. max (depth_within-comments f v i) (depth_of-comments f l i)

  pub depth_within-comments : (f : List ℕ → List ℕ) (v : Branches) → depth_within (branches_with_comments f v) ≡ depth_within v
  depth_within-comments f none = refl
  depth_within-comments f (more lead line others) = λ i. max (depth_of-comments f line i + 1) (depth_within-comments f others i)

comment-kept : (f : List ℕ → List ℕ) → KeepsTexts f → (c : Option (List ℕ)) → IsComment c → IsComment (option_map f c)
comment-kept f keeps None is = tt
comment-kept f keeps (Some text) is = keeps text is

mutual
  line-kept : (f : List ℕ → List ℕ) → KeepsTexts f → (p : Setup) (l : Line) → IsLegalLine p l → IsLegalLine p (line_with_comments f l)
  line-kept f keeps p ends is = tt
  line-kept f keeps p (goes m n c v l) is =
      (is.0, (comment-kept f keeps c is.1.0, (branches-kept f keeps p v is.1.1.0, line-kept f keeps (stepped p m) l is.1.1.1)))

  branches-kept : (f : List ℕ → List ℕ) → KeepsTexts f → (p : Setup) (v : Branches) → AreLegalBranches p v → AreLegalBranches p (branches_with_comments f v)
  branches-kept f keeps p none is = tt
  branches-kept f keeps p (more lead line others) is =
      (comment-kept f keeps lead is.0, (line-kept f keeps p line is.1.0, branches-kept f keeps p others is.1.1))

pub IsLegalGame-comments : (f : List ℕ → List ℕ) → KeepsTexts f → (g : GameTree) → IsLegalGame g → IsLegalGame (with_comments f g)
IsLegalGame-comments f keeps g is = record {
  lead = comment-kept f keeps g.lead is.lead;
  line = line-kept f keeps g.start g.line is.line;
  depth = rw (depth_of-comments f g.line) is.depth;
}

-- Movetext: the moves of a line in the order in which they are written, with NAGs, comments, and variations in brackets
-- (PGN standard, 8.2), and which tree it means.
use Rattle.std.specs.Prelude.{ℕ, List, [], ◌∷◌, ◌++◌, Option, Some, None}
use Rattle.cell_core.specs.declared.step.Move.{Move}
use Rattle.game_tree.specs.Item.{Item}
use Rattle.game_tree.specs.Item as item
use Rattle.game_tree.specs.Tree.{Line, ends, goes, Branches, none, more}

-- The items of a line in their order, with each variation where it stands.
pub data Movetext : Type 0 where
  end : Movetext
  move : Move → Movetext → Movetext
  nag : ℕ → Movetext → Movetext
  comment : List ℕ → Movetext → Movetext
  variation : Movetext → Movetext → Movetext

-- The items of a movetext, a variation's between its two brackets.
abbrev pub items_of : Movetext → List Item
items_of end = []
items_of (move m s) = item.move m ∷ items_of s
items_of (nag n s) = item.nag n ∷ items_of s
items_of (comment t s) = item.comment t ∷ items_of s
items_of (variation inner s) = item.opens ∷ items_of inner ++ item.closes ∷ items_of s

-- A comment as a tree has it: an empty text is none.
abbrev pub as_comment : List ℕ → Option (List ℕ)
as_comment [] = None
as_comment (c ∷ cs) = Some (c ∷ cs)

-- Two comments at one place, joined with a space.
abbrev pub joined : Option (List ℕ) → Option (List ℕ) → Option (List ℕ)
joined None later = later
joined (Some t) None = Some t
joined (Some t) (Some u) = Some (t ++ 32 ∷ u)

-- What a movetext says of the move before it (or, at the beginning of a line, its comment alone of the line), and the line
-- of the moves that follow.
pub record Said : Type 0 where
  pub nags : List ℕ
  pub comment : Option (List ℕ)
  pub variations : Branches
  pub line : Line

-- Nothing is said, and this line follows.
abbrev pub unmarked : Line → Said
unmarked line = record { nags = []; comment = None; variations = none; line = line }

-- What a movetext means. The marks after a move may stand in any order; comments at one place are joined.
abbrev pub meaning : Movetext → Said
meaning end = unmarked ends
meaning (move m s) = unmarked (goes m (meaning s).nags (meaning s).comment (meaning s).variations (meaning s).line)
meaning (nag n s) = record (meaning s) { nags = n ∷ (meaning s).nags }
meaning (comment t s) = record (meaning s) { comment = joined (as_comment t) (meaning s).comment }
meaning (variation inner s) =
    record (meaning s) { variations = more (meaning inner).comment (meaning inner).line (meaning s).variations }

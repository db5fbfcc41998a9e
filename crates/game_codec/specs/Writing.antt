-- The parts of a record's moves and texts, as the code writes them one behind the other. No public contract cites these
-- words.
use Rattle.std.specs.Prelude.{◌≡◌, ℕ, List, [], ◌∷◌, ◌++◌, Option, Some, None}
use Rattle.chess_laws.specs.declared.setup.Setup.{Setup}
use Rattle.chess_laws.specs.Position.{is_start}
use Rattle.game_tree.specs.Movetext.{end}
use Rattle.game_tree.specs.Tree.{Branches, Played}
use Rattle.game_tree.specs.Written.{variations_before}
use Rattle.move_codec.specs.Numbers.{Numbered}
use Rattle.move_codec.specs.Packed.{encoding}
use Rattle.game_codec.specs.Texts.{texts_of, ended}
use Rattle.game_codec.specs.Written.{moves_text, numbered_start, start_text}

-- The mark of a comment, and its text.
abbrev pub mark_text : Option (List ℕ) → List ℕ
mark_text None = []
mark_text (Some text) = 12 ∷ []

abbrev pub comment_text : Option (List ℕ) → List ℕ
comment_text None = []
comment_text (Some text) = text ++ 0 ∷ []

-- NAGs.
abbrev pub nags_text : List ℕ → List ℕ
nags_text [] = []
nags_text (n ∷ ns) = 11 ∷ n ∷ nags_text ns

-- The variations of a move by the position before it, and the texts of their comments.
abbrev pub variations_text : Numbered → Branches → List ℕ
variations_text before v = moves_text before before (variations_before v end)

abbrev pub variations_texts : Branches → List ℕ
variations_texts v = ended (texts_of (variations_before v end))

-- A move of a line by the position before it, with what stands behind it, and the texts of the comments.
abbrev pub node_text : Numbered → Played → List ℕ
node_text before node =
    encoding before node.mv ++ (nags_text node.nags ++ (mark_text node.comment ++ variations_text before node.variations))

abbrev pub node_texts : Played → List ℕ
node_texts node = comment_text node.comment ++ variations_texts node.variations

-- The flags and what tells the start were added, and these are the numbers that the men have in the record.
pub record AddsStart (start : Setup) (flags : ℕ) (old new : List ℕ) (numbered : Numbered) : Type 0 where
  pub bytes : new ≡ old ++ start_text (is_start start) start flags
  pub start_is : numbered ≡ numbered_start (is_start start) start

-- A tree that is built of the items of a record and the texts of its comments at once. No public contract cites these words.
use Rattle.std.specs.Prelude.{◌≡◌, ◌+◌, ℕ, All, List, ◌++◌, Ok, length}
use Rattle.cell_core.specs.Text.{IsZeroFree}
use Rattle.game_tree.specs.Building.{Building, Gives, built}
use Rattle.game_tree.specs.Movetext.{Movetext, items_of, meaning}
use Rattle.game_tree.specs.Tree.{Variation}
use Rattle.move_codec.specs.Numbers.{Numbered}
use Rattle.game_codec.specs.Scanning.{Scans, comments_in, dealt, nest_of}
use Rattle.game_codec.specs.Texts.{AreTexts, ended}
use Rattle.game_codec.specs.Token.{Token}

-- The bytes begin with a text for each comment of these items, and the tree was built on with these items and texts: whatever follows them,
-- items and texts, follows from there.
pub record Deals (tokens : List Token) (bytes rest : List ℕ) (before after : Building) : Type 0 where
  pub texts : List (List ℕ)
  pub zero_free : All IsZeroFree texts
  pub spelled : bytes ≡ ended texts ++ rest
  pub count : (more : List Token) → length texts + comments_in more ≡ comments_in (tokens ++ more)
  pub onward : (more : List Token) (later : List (List ℕ)) → built (dealt more later) after ≡ built (dealt (tokens ++ more) (texts ++ later)) before

-- The bytes begin with the items of a game, the texts of its comments are the rest of them, and the tree is what these mean.
pub record IsTreeOf (start : Numbered) (bytes : List ℕ) (branch : Variation) : Type 0 where
  pub tokens : List Token
  pub texts : List (List ℕ)
  pub behind : List ℕ
  pub items : Scans (nest_of start) bytes tokens (Ok behind)
  pub then_texts : AreTexts behind texts
  pub count : length texts ≡ comments_in tokens
  pub meant : (s : Movetext) → items_of s ≡ dealt tokens texts → Gives branch (meaning s).comment (meaning s).line

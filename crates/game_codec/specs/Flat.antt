-- A record and its first fault with the items of the moves one behind the other, as the code reads them. No public contract
-- cites these words.
use Rattle.std.specs.Prelude.{◌≡◌, ℕ, ◌⊎◌, List, Ok, Err, length}
use Rattle.game_tree.specs.Game.{GameTree}
use Rattle.game_tree.specs.Movetext.{Movetext, items_of, meaning}
use Rattle.game_tree.specs.declared.head.Tag.{Tag}
use Rattle.move_codec.specs.Numbers.{Numbered}
use Rattle.game_tree.specs.TagName.{free_of}
use Rattle.game_codec.specs.TagReading.{BeginsTags}
use Rattle.game_codec.specs.Start.{BeginsStart}
use Rattle.game_codec.specs.Texts.{AreTexts, BreaksTexts}
use Rattle.game_codec.specs.Fault.{BreaksInTags, BreaksInStart}
use Rattle.game_codec.specs.Scanning.{Scans, nest_of, comments_in, dealt}
use Rattle.game_codec.specs.Token.{Token}
use Rattle.game_codec.specs.declared.fault.RecordWhat.{RecordWhat}

-- The parts of a record.
pub record IsFlat (bytes : List ℕ) (all_tags : List Tag) (start : Numbered) (tokens : List Token) (texts : List (List ℕ)) : Type 0 where
  pub behind_tags : List ℕ
  pub behind_start : List ℕ
  pub behind_moves : List ℕ
  pub tags_first : BeginsTags bytes all_tags behind_tags
  pub then_start : BeginsStart behind_tags start behind_start
  pub then_items : Scans (nest_of start) behind_start tokens (Ok behind_moves)
  pub then_texts : AreTexts behind_moves texts
  pub count : length texts ≡ comments_in tokens

-- What is read: these tags and this game, which is what the items mean if they are those of a movetext.
pub record IsRead (bytes : List ℕ) (tags : List Tag) (game : GameTree) : Type 0 where
  pub all_tags : List Tag
  pub start : Numbered
  pub tokens : List Token
  pub texts : List (List ℕ)
  pub flat : IsFlat bytes all_tags start tokens texts
  pub tags_are : tags ≡ free_of all_tags
  pub start_is : game.start ≡ start.position
  pub meant : (s : Movetext) → items_of s ≡ dealt tokens texts → (game.lead ≡ (meaning s).comment) × (game.line ≡ (meaning s).line)

-- A fault in the moves, and one in the texts.
pub record IsFlatInMoves (bytes rest : List ℕ) (what : RecordWhat) : Type 0 where
  pub tags : List Tag
  pub start : Numbered
  pub tokens : List Token
  pub behind_tags : List ℕ
  pub behind_start : List ℕ
  pub tags_first : BeginsTags bytes tags behind_tags
  pub then_start : BeginsStart behind_tags start behind_start
  pub breaks : Scans (nest_of start) behind_start tokens (Err (rest, what))

pub record IsFlatInTexts (bytes rest : List ℕ) (what : RecordWhat) : Type 0 where
  pub tags : List Tag
  pub start : Numbered
  pub tokens : List Token
  pub behind_tags : List ℕ
  pub behind_start : List ℕ
  pub behind_moves : List ℕ
  pub tags_first : BeginsTags bytes tags behind_tags
  pub then_start : BeginsStart behind_tags start behind_start
  pub then_items : Scans (nest_of start) behind_start tokens (Ok behind_moves)
  pub breaks : BreaksTexts (comments_in tokens) behind_moves rest what

abbrev pub FlatBreaks : List ℕ → List ℕ → RecordWhat → Type 0
FlatBreaks bytes rest what =
    BreaksInTags bytes rest what ⊎ (BreaksInStart bytes rest what ⊎ (IsFlatInMoves bytes rest what ⊎ IsFlatInTexts bytes rest what))

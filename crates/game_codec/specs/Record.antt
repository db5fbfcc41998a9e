-- Which bytes are a record, and what they say (this project's own, after Scid's format). A record has extra tags and a
-- zero byte, the start, the moves, and the texts of the comments in the order of their marks.
use Rattle.std.specs.Prelude.{◌≡◌, ℕ, List, Ok}
use Rattle.game_tree.specs.Game.{GameTree}
use Rattle.game_tree.specs.Movetext.{Movetext, meaning}
use Rattle.game_tree.specs.declared.head.Tag.{Tag}
use Rattle.move_codec.specs.Numbers.{Numbered}
use Rattle.game_tree.specs.TagName.{free_of}
use Rattle.game_codec.specs.RecordAnswer.{game_of, record_answer}
use Rattle.game_codec.specs.TagReading.{BeginsTags}
use Rattle.game_codec.specs.Start.{BeginsStart}
use Rattle.game_codec.specs.Place.{beginning}
use Rattle.game_codec.specs.Moves.{SpellsMoves}
use Rattle.game_codec.specs.Texts.{AreTexts, texts_of}

-- The bytes are a record of this game and these extra tags.
pub record IsRecord (bytes : List ℕ) (tags : List Tag) (game : GameTree) : Type 0 where
  pub answer : record_answer bytes ≡ Ok (tags, game)

-- The bytes are a record.
abbrev pub IsSomeRecord : List ℕ → Type 0
IsSomeRecord bytes = (tags : List Tag) × ((game : GameTree) × IsRecord bytes tags game)

-- The same in words: the parts stand one behind the other.
pub record IsSpelled (bytes : List ℕ) (tags : List Tag) (game : GameTree) : Type 0 where
  pub all_tags : List Tag
  pub start : Numbered
  pub movetext : Movetext
  pub behind_tags : List ℕ
  pub behind_start : List ℕ
  pub behind_moves : List ℕ
  pub tags_first : BeginsTags bytes all_tags behind_tags
  pub then_start : BeginsStart behind_tags start behind_start
  pub then_moves : SpellsMoves (beginning 0 start) movetext behind_start behind_moves
  pub then_texts : AreTexts behind_moves (texts_of movetext)
  pub tags_are : tags ≡ free_of all_tags
  pub game_is : game ≡ game_of start.position (meaning movetext)

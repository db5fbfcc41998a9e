-- The parts that are read one after the other are a record's.
use Rattle.std.proofs.Common.{◌≡◌, ℕ, List, drop, sym, ◌∙◌, subst}
use Rattle.game_tree.specs.Game.{GameTree}
use Rattle.game_tree.specs.TagName.{free_of}
use Rattle.game_tree.specs.Tree.{Variation}
use Rattle.game_tree.specs.declared.head.Tag.{Tag}
use Rattle.move_codec.specs.Numbers.{Numbered}
use Rattle.game_codec.specs.TagReading.{BeginsTags}
use Rattle.game_codec.specs.Start.{BeginsStart}
use Rattle.game_codec.specs.Dealing.{IsTreeOf}
use Rattle.game_codec.specs.Flat.{IsRead}

-- The tags and the start of a record, by the numbers of their bytes.
pub record Begun (bytes behind_tags behind_start : List ℕ) (start : Numbered) : Type 0 where
  pub tags : List Tag
  pub tags_first : BeginsTags bytes tags behind_tags
  pub then_start : BeginsStart behind_tags start behind_start

abbrev pub begun : (bytes behind_tags behind_start : List ℕ) (used used' : ℕ) (tags : List Tag) (start : Numbered) → behind_tags ≡ drop used bytes → behind_start ≡ drop used' behind_tags
    → BeginsTags bytes tags (drop used bytes) → BeginsStart behind_tags start (drop used' behind_tags) → Begun bytes behind_tags behind_start start
begun bytes behind_tags behind_start used used' tags start e e' first then = record {
  tags = tags;
  tags_first = subst (BeginsTags bytes tags) (sym e) first;
  then_start = subst (BeginsStart behind_tags start) (sym e') then;
}

-- The tags, the start and the tree are those of a record.
pub read-is : (bytes behind_tags behind_start : List ℕ) (start : Numbered) (tags : List Tag) (branch : Variation) (game : GameTree) (b : Begun bytes behind_tags behind_start start)
    → tags ≡ free_of b.tags → IsTreeOf start behind_start branch → game.start ≡ start.position → game.lead ≡ branch.lead → game.line ≡ branch.line → IsRead bytes tags game
read-is bytes behind_tags behind_start start tags branch game b free tree start_is lead line = record {
  all_tags = b.tags;
  start = start;
  tokens = tree.tokens;
  texts = tree.texts;
  flat = record {
    behind_tags = behind_tags;
    behind_start = behind_start;
    behind_moves = tree.behind;
    tags_first = b.tags_first;
    then_start = b.then_start;
    then_items = tree.items;
    then_texts = tree.then_texts;
    count = tree.count;
  };
  tags_are = free;
  start_is = start_is;
  meant = λ s items. (lead ∙ (tree.meant s items).lead_is, line ∙ (tree.meant s items).line_is);
}

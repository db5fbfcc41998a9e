-- The event dates that tags give, as they are read one after the other. No public contract cites these words.
use Rattle.std.specs.Prelude.{◌≡◌, ℕ, ◌<◌, ◌≤◌, List, Option, length, drop}
use Rattle.game_tree.specs.Settle.{near_date}
use Rattle.game_tree.specs.declared.date.Date.{Date}
use Rattle.game_tree.specs.declared.head.Tag.{Tag}
use Rattle.game_codec.specs.TagReading.{BeginsTag}

-- The bytes begin with a tag of so many bytes, which gives this date within the rule.
pub record IsTagDate (game : Date) (bytes : List ℕ) (date : Option Date) (used : ℕ) : Type 0 where
  pub tag : Tag
  pub begins : BeginsTag bytes tag (drop used bytes)
  pub some : 0 < used
  pub fits : used ≤ length bytes
  pub date_is : date ≡ near_date game tag

-- Which items of a record may follow when a tree is built. No public contract cites these words.
use Rattle.game_tree.specs.Item as item
use Rattle.game_tree.specs.Building.{Building, MayStand}
use Rattle.game_codec.specs.Token.{Token, Play, Nag, Comment, Open, Close, End}

-- An item may stand there.
abbrev pub MayAdd : Token → Building → Type 0
MayAdd (Play m) b = Unit {0}
MayAdd (Nag n) b = MayStand (item.nag n) b
MayAdd Comment b = Unit {0}
MayAdd Open b = MayStand item.opens b
MayAdd Close b = MayStand item.closes b
MayAdd End b = Unit {0}

-- What one item of a record adds to a tree while it is built. No public contract cites these words.
use Rattle.std.specs.Prelude.{◌≡◌, ℕ, ◌∷◌, ◌++◌, List, drop}
use Rattle.cell_core.specs.Text.{IsZeroFree}
use Rattle.game_tree.specs.Item as item
use Rattle.game_tree.specs.Building.{Building, added}
use Rattle.game_codec.specs.Token.{Token, Play, Nag, Comment, Open, Close, End}

-- A text that the bytes begin with, with the zero byte that ends it.
pub record BeginsText (text bytes : List ℕ) (used : ℕ) : Type 0 where
  pub zero_free : IsZeroFree text
  pub spelled : bytes ≡ text ++ 0 ∷ drop used bytes

-- The tree after an item, and how many bytes of the texts the item takes.
abbrev pub Adds : Token → List ℕ → Building → ℕ → Building → Type 0
Adds (Play m) bytes before used after = (used ≡ 0) × (after ≡ added (item.move m) before)
Adds (Nag n) bytes before used after = (used ≡ 0) × (after ≡ added (item.nag n) before)
Adds Comment bytes before used after = (text : List ℕ) × (BeginsText text bytes used × (after ≡ added (item.comment text) before))
Adds Open bytes before used after = (used ≡ 0) × (after ≡ added item.opens before)
Adds Close bytes before used after = (used ≡ 0) × (after ≡ added item.closes before)
Adds End bytes before used after = (used ≡ 0) × (after ≡ before)

-- What is met in the lines of a record, item by item, as the code counts it. No public contract cites these words.
use Rattle.std.specs.Prelude.{◌≡◌, ℕ, ◌+◌, ◌≤◌, ◌||◌, false, List, [], ◌∷◌, length}
use Rattle.game_tree.specs.Promotions.{is_promotion, is_underpromotion}
use Rattle.game_codec.specs.Following.{HasFollowed}
use Rattle.game_codec.specs.Place.{Place}
use Rattle.game_codec.specs.Token.{Token, Play, Nag, Comment, Open, Close, End}
use Rattle.game_codec.specs.declared.tally.Tally.{Tally}

-- Of nothing yet.
abbrev pub no_tally : Tally
no_tally = record { variations = 0; comments = 0; nags = 0; promo = false; under = false }

-- With one item more.
abbrev pub added : Tally → Token → Tally
added t (Play m) = record { variations = t.variations; comments = t.comments; nags = t.nags; promo = t.promo || is_promotion m; under = t.under || is_underpromotion m }
added t (Nag n) = record { variations = t.variations; comments = t.comments; nags = t.nags + 1; promo = t.promo; under = t.under }
added t Comment = record { variations = t.variations; comments = t.comments + 1; nags = t.nags; promo = t.promo; under = t.under }
added t Open = record { variations = t.variations + 1; comments = t.comments; nags = t.nags; promo = t.promo; under = t.under }
added t Close = t
added t End = t

-- With these items more.
abbrev pub tallied : Tally → List Token → Tally
tallied t [] = t
tallied t (token ∷ tokens) = tallied (added t token) tokens

-- How many items were counted.
abbrev pub size_of : Tally → ℕ
size_of t = t.variations + t.comments + t.nags

-- A line as far as it was read, with what was met before it and what has been met since.
pub record HasTallied (start : Place) (bytes : List ℕ) (now : Place) (rest : List ℕ) (before tally : Tally) : Type 0 where
  pub tokens : List Token
  pub followed : HasFollowed start bytes now rest tokens
  pub tally_is : tally ≡ tallied before tokens
  pub few : size_of tally + length rest ≤ size_of before + length bytes

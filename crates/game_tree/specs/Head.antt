-- What a head may hold (this project's own limits, after those of Scid's index).
use Rattle.std.specs.Prelude.{◌≡◌, ℕ, ◌<◌, ◌≤◌, ◌^◌, ◌==◌, nat_le, Bool, false, not, ◌&&◌, List, [], length, All}
use Rattle.std.specs.List.{list_all}
use Rattle.cell_core.specs.Text.{IsZeroFree}
use Rattle.game_tree.specs.Date.{IsDate}
use Rattle.game_tree.specs.TagName.{IsTagName, is_reserved}
use Rattle.game_tree.specs.declared.head.Rating.{Rating}
use Rattle.game_tree.specs.declared.head.Tag.{Tag}
use Rattle.game_tree.specs.declared.head.Head.{Head}
use Rattle.game_tree.specs.declared.head.HeadRef.{HeadRef}

-- A name of a player, event, site or round, or the value of a tag: at most 255 bytes, none of them zero.
pub record IsName (name : List ℕ) : Type 0 where
  pub short : length name ≤ 255
  pub zero_free : IsZeroFree name

-- The same as a test.
abbrev pub is_name : List ℕ → Bool
is_name name = nat_le (length name) 255 && list_all (λ byte. not (byte == 0)) name

-- A rating of at most 4095 and of one of seven kinds; no rating is the value 0 with the kind 0.
pub record IsRating (rating : Rating) : Type 0 where
  pub value : rating.value ≤ 4095
  pub kind : rating.kind ≤ 6
  pub none : rating.value ≡ 0 → rating.kind ≡ 0

-- An extra tag: a tag name that is not reserved, and a value.
pub record IsTag (tag : Tag) : Type 0 where
  pub name : IsTagName tag.name
  pub free : is_reserved tag.name ≡ false
  pub value : IsName tag.value

-- The bounds of a head: each field is within its own.
pub record IsBounded (head : Head) : Type 0 where
  pub white : IsName head.white
  pub black : IsName head.black
  pub event : IsName head.event
  pub site : IsName head.site
  pub round : IsName head.round
  pub date : IsDate head.date
  pub event_date : IsDate head.event_date
  pub white_rating : IsRating head.white_rating
  pub black_rating : IsRating head.black_rating
  pub eco : head.eco ≤ 65500
  pub marks : head.marks < 2 ^ 18
  pub tags : All IsTag head.tags

-- No name of these fields has a zero byte.
pub record HasTexts (h : HeadRef) : Type 0 where
  pub white : IsZeroFree h.white.now
  pub black : IsZeroFree h.black.now
  pub event : IsZeroFree h.event.now
  pub site : IsZeroFree h.site.now
  pub round : IsZeroFree h.round.now

-- The head of these fields and these tags.
abbrev pub head_of : HeadRef → List Tag → Head
head_of h given = record {
  white = h.white.now;
  black = h.black.now;
  event = h.event.now;
  site = h.site.now;
  round = h.round.now;
  date = h.date;
  event_date = h.event_date;
  result = h.result;
  white_rating = h.white_rating;
  black_rating = h.black_rating;
  eco = h.eco;
  marks = h.marks;
  deleted = h.deleted;
  tags = given;
}

-- A head without its tags.
abbrev pub without_tags : Head → Head
without_tags head = record head { tags = [] }

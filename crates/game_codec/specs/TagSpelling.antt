-- The extra tags of a record (this project's own, after Scid's format). A tag is its name's length, its name, its
-- value's length and its value. A code may stand for the length and the text of a common name, and the code 255 with a
-- packed date is a tag EventDate.
use Rattle.std.specs.Prelude.{◌≡◌, ℕ, ◌+◌, ◌/◌, ◌%◌, ◌⊎◌, List, [], ◌∷◌, ◌++◌, Some, length, slice_get, codes}
use Rattle.game_tree.specs.Date.{IsDate, date_number, date_text}
use Rattle.game_tree.specs.Head.{IsName}
use Rattle.game_tree.specs.TagName.{IsTagName}
use Rattle.game_tree.specs.declared.date.Date.{Date}
use Rattle.game_tree.specs.declared.head.Tag.{Tag}

-- The names of the codes from 241 on.
abbrev pub coded_names : List (List ℕ)
coded_names =
    codes "WhiteCountry" ∷ codes "BlackCountry" ∷ codes "Annotator" ∷ codes "PlyCount" ∷ codes "EventDate"
    ∷ codes "Opening" ∷ codes "Variation" ∷ codes "Setup" ∷ codes "Source" ∷ codes "SetUp" ∷ []

-- A text behind its length.
abbrev pub counted : List ℕ → List ℕ
counted text = length text ∷ text

-- A tag with its name written out.
pub record IsSpelledOut (bytes : List ℕ) (tag : Tag) : Type 0 where
  pub name : IsTagName tag.name
  pub value : IsName tag.value
  pub spelled : bytes ≡ counted tag.name ++ counted tag.value

-- A tag with a code for its name: 241 for the first of the names, and so on.
pub record IsCoded (bytes : List ℕ) (tag : Tag) : Type 0 where
  pub number : ℕ
  pub name : slice_get coded_names number ≡ Some tag.name
  pub value : IsName tag.value
  pub spelled : bytes ≡ (241 + number) ∷ counted tag.value

-- The tag EventDate with a packed date, whose text is its value.
pub record IsDated (bytes : List ℕ) (tag : Tag) : Type 0 where
  pub date : Date
  pub kept : IsDate date
  pub name : tag.name ≡ codes "EventDate"
  pub value : tag.value ≡ date_text date
  pub spelled : bytes ≡ 255 ∷ date_number date / 65536 ∷ date_number date / 256 % 256 ∷ date_number date % 256 ∷ []

-- The bytes begin with a spelling of the tag, and these bytes follow it.
abbrev pub SpellsTag : List ℕ → Tag → List ℕ → Type 0
SpellsTag bytes tag later =
    (spelled : List ℕ) × (IsSpelledOut spelled tag ⊎ (IsCoded spelled tag ⊎ IsDated spelled tag)) × (bytes ≡ spelled ++ later)

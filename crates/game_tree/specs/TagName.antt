-- The names of tags (PGN standard, 8.1: tag pairs).
use Rattle.std.specs.Prelude.{ℕ, ◌≤◌, ◌==◌, nat_le, Bool, not, ◌&&◌, ◌||◌, IsTrue, List, [], ◌∷◌, ◌++◌, length, map, filter, slice_index_or, All, Option, is_some, codes}
use Rattle.std.specs.List.{list_any, list_all, position_from}
use Rattle.std.specs.Option.{option_map, option_or}
use Rattle.std.specs.Str.{bytes_eq}
use Rattle.cell_core.specs.declared.man.Colour.{Colour}
use Rattle.cell_core.specs.declared.man.Colour.TheVariants.{White, Black}
use Rattle.game_tree.specs.declared.head.Tag.{Tag}

abbrev pub is_among : List (List ℕ) → List ℕ → Bool
is_among names name = list_any (λ other. bytes_eq other name) names

-- The names of the tags that every PGN text of a game has (PGN standard, 8.1.1: Seven Tag Roster).
abbrev pub roster_names : List (List ℕ)
roster_names =
    codes "Event" ∷ codes "Site" ∷ codes "Date" ∷ codes "Round" ∷ codes "White" ∷ codes "Black" ∷ codes "Result" ∷ []

-- The names of what a game says by other means than tags: where it starts, and its marks.
abbrev pub refused_names : List (List ℕ)
refused_names = codes "SetUp" ∷ codes "Setup" ∷ codes "FEN" ∷ codes "ScidFlags" ∷ []

abbrev pub is_refused : List ℕ → Bool
is_refused name = is_among refused_names name

-- The kinds of ratings, each under its number from 0 to 6 (this project's own, after Scid's names).
abbrev pub rating_names : List (List ℕ)
rating_names =
    codes "Elo" ∷ codes "Rating" ∷ codes "Rapid" ∷ codes "ICCF" ∷ codes "USCF" ∷ codes "DWZ" ∷ codes "ECF" ∷ []

-- The names of a side's ratings: that of the side and that of the kind.
abbrev pub rating_tags : Colour → List (List ℕ)
rating_tags White = map (λ kind. codes "White" ++ kind) rating_names
rating_tags Black = map (λ kind. codes "Black" ++ kind) rating_names

-- The name of the tag of a side's rating of this kind.
unfoldable pub rating_tag : Colour → ℕ → List ℕ
rating_tag side kind = slice_index_or (rating_tags side) kind []

-- The kind of a side's rating whose tag has this name.
abbrev pub kind_of : Colour → List ℕ → Option ℕ
kind_of side name = position_from (λ other. bytes_eq other name) 0 (rating_tags side)

-- The side and the kind of the rating whose tag has this name.
unfoldable pub rating_of : List ℕ → Option (Colour × ℕ)
rating_of name =
    option_or (option_map (λ kind. (White, kind)) (kind_of White name)) (option_map (λ kind. (Black, kind)) (kind_of Black name))

-- The names that no extra tag has: those of the fields of a head, and of what a game says by other means.
unfoldable pub is_reserved : List ℕ → Bool
is_reserved name =
    is_among roster_names name || bytes_eq name (codes "ECO") || is_some (rating_of name) || is_refused name

-- A byte of a tag name: a printed character of ASCII but `"` and `]` (this project's own).
abbrev pub is_tag_byte : ℕ → Bool
is_tag_byte byte = nat_le 33 byte && nat_le byte 126 && not (byte == 34) && not (byte == 93)

abbrev pub IsTagByte : ℕ → Type 0
IsTagByte byte = IsTrue (is_tag_byte byte)

-- A tag name: 1 to 240 such bytes.
pub record IsTagName (name : List ℕ) : Type 0 where
  pub some : 1 ≤ length name
  pub short : length name ≤ 240
  pub bytes : All IsTagByte name

-- The same as a test.
abbrev pub is_tag_name : List ℕ → Bool
is_tag_name name = nat_le 1 (length name) && nat_le (length name) 240 && list_all is_tag_byte name

-- The tags without those of reserved names, which a game has by other means.
abbrev pub free_of : List Tag → List Tag
free_of tags = filter (λ tag. not (is_reserved tag.name)) tags

-- What the names of tags tell, as it is kept while a game is read. No public contract cites these words.
use Rattle.std.specs.Prelude.{ℕ, ◌≡◌, ◌≤◌, ◌==◌, nat_lt, Bool, false, List, [], ◌∷◌, ◌++◌, slice_index_or, Option, None, Some, codes, ⊤}
use Rattle.cell_core.specs.declared.man.Colour.{Colour}
use Rattle.game_tree.specs.TagName.{roster_names, refused_names, rating_tag, is_reserved}
use Rattle.pgn_read.specs.declared.field.Field.{Field}
use Rattle.pgn_read.specs.declared.field.Field.TheVariants as field
use Rattle.pgn_read.specs.declared.field.Name.{Name}
use Rattle.pgn_read.specs.declared.field.Name.TheVariants as name

-- The names that a game is read from, but for those of ratings, in the order of the code's.
abbrev pub own_names : List (List ℕ)
own_names = roster_names ++ codes "ECO" ∷ refused_names

abbrev pub name_number : Name → ℕ
name_number name.Event = 0
name_number name.Site = 1
name_number name.Date = 2
name_number name.Round = 3
name_number name.White = 4
name_number name.Black = 5
name_number name.Result = 6
name_number name.Eco = 7
name_number name.SetUp = 8
name_number name.Setup = 9
name_number name.Fen = 10
name_number name.ScidFlags = 11

abbrev pub name_text : Name → List ℕ
name_text own = slice_index_or own_names (name_number own) []

abbrev pub is_roster_name : Name → Bool
is_roster_name own = nat_lt (name_number own) 7

-- The name of a tag that tells this. That of an extra tag stands beside it.
abbrev pub name_of : Field → List ℕ → List ℕ
name_of (field.Own own) extra = name_text own
name_of (field.Rating side kind) extra = rating_tag side kind
name_of field.Extra extra = extra

-- There are seven kinds of ratings, and no extra tag has the name of another field.
abbrev pub IsField : Field → List ℕ → Type 0
IsField (field.Own own) extra = ⊤
IsField (field.Rating side kind) extra = kind ≤ 6
IsField field.Extra extra = is_reserved extra ≡ false

-- Whether it is this name, and the rating that it is.
abbrev pub is_own : Field → Name → Bool
is_own (field.Own own) asked = name_number own == name_number asked
is_own (field.Rating side kind) asked = false
is_own field.Extra asked = false

abbrev pub rating_in : Field → Option (Colour × ℕ)
rating_in (field.Own own) = None
rating_in (field.Rating side kind) = Some (side, kind)
rating_in field.Extra = None

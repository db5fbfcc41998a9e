-- Lists of extra tags, changed by a name (this project's own).
use Rattle.std.specs.Prelude.{ℕ, ◌==◌, Bool, not, if◌then◌else◌, List, [], ◌∷◌, length, filter}
use Rattle.std.specs.Str.{bytes_eq}
use Rattle.game_tree.specs.declared.head.Tag.{Tag}

abbrev pub is_named : List ℕ → Tag → Bool
is_named name tag = bytes_eq tag.name name

-- The tags without those of a name.
abbrev pub tags_without : List ℕ → List Tag → List Tag
tags_without name tags = filter (λ tag. not (is_named name tag)) tags

-- The tag takes the place of the first of its name, or comes last.
abbrev pub put_tag : Tag → List Tag → List Tag
put_tag tag [] = tag ∷ []
put_tag tag (first ∷ tags) = if is_named tag.name first then tag ∷ tags else first ∷ put_tag tag tags

-- The tags after one is set: an empty value removes all of that name.
unfoldable pub with_tag : Tag → List Tag → List Tag
with_tag tag tags = if length tag.value == 0 then tags_without tag.name tags else put_tag tag tags

-- How the text of a table is cut into lines, and a line into words (this project's own).
use Rattle.std.specs.Prelude.{ℕ, ◌==◌, ◌||◌, if◌then◌else◌, Bool, List, [], ◌∷◌, filter, is_some, slice_get}
use Rattle.std.specs.List.{onto_first, slice_split}

-- The lines of a text: a line feed ends a line.
abbrev pub lines_of : List ℕ → List (List ℕ)
lines_of [] = []
lines_of (byte ∷ text) = if byte == 10 then [] ∷ lines_of text else onto_first byte (lines_of text)

-- What stands behind the first byte.
abbrev pub without_first : List ℕ → List ℕ
without_first [] = []
without_first (byte ∷ text) = text

-- The words of a line: spaces and tabs stand between them.
abbrev pub is_blank : ℕ → Bool
is_blank byte = (byte == 32) || (byte == 9)

unfoldable pub words_of : List ℕ → List (List ℕ)
words_of line = filter (λ word. is_some (slice_get word 0)) (slice_split is_blank line)

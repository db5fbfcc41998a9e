-- How a line is cut into words (this project's own).
use Rattle.std.specs.Prelude.{ℕ, ◌==◌, Bool, ◌||◌, if◌then◌else◌, List, [], ◌∷◌, ◌++◌, Option, Some, None, option_map}
use Rattle.script_text.specs.declared.words.Place.{Place}
use Rattle.script_text.specs.declared.words.Place.TheVariants.{Between, Inside, Quoted, Escaped}

-- A word is its text, without quotes and escapes; a word whose quoted part is not closed has none.
abbrev pub Word : Type 0
Word = Option (List ℕ)

-- Spaces and tabs stand between words.
abbrev pub is_blank : ℕ → Bool
is_blank byte = (byte == 32) || (byte == 9)

-- Quotes and backslashes, which a backslash before them makes plain bytes of a quoted part.
abbrev pub is_escaped : ℕ → Bool
is_escaped byte = (byte == 34) || (byte == 92)

-- Bytes before the first word's own; a word that is not closed has no text.
abbrev pub front : List ℕ → List Word → List Word
front bytes [] = []
front bytes (word ∷ words) = option_map (λ text. bytes ++ text) word ∷ words

-- The words of the rest of a line, the first of them being the one that the place is in. Blanks separate words. In a
-- word, a quote begins a quoted part and the next quote ends it. In a quoted part blanks stand for themselves, a
-- backslash before a quote or a backslash is left out, and another backslash stands for itself.
unfoldable pub cut : Place → List ℕ → List Word
cut Between [] = []
cut Inside [] = Some [] ∷ []
cut _ [] = None ∷ []
cut Between (byte ∷ line) =
    if is_blank byte then cut Between line
    else if byte == 34 then cut Quoted line
    else front (byte ∷ []) (cut Inside line)
cut Inside (byte ∷ line) =
    if is_blank byte then Some [] ∷ cut Between line
    else if byte == 34 then cut Quoted line
    else front (byte ∷ []) (cut Inside line)
cut Quoted (byte ∷ line) =
    if byte == 34 then cut Inside line
    else if byte == 92 then cut Escaped line
    else front (byte ∷ []) (cut Quoted line)
cut Escaped (byte ∷ line) =
    if is_escaped byte then front (byte ∷ []) (cut Quoted line)
    else front (92 ∷ byte ∷ []) (cut Quoted line)

-- The words of a line.
abbrev pub words_of : List ℕ → List Word
words_of line = cut Between line

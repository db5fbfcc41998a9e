-- Tags: `[`, a name, a value in quotation marks, and `]`, with white space between or without (PGN standard, 8.1). A tag that
-- is malformed ends before the first byte that does not fit.
use Rattle.std.specs.Prelude.{ℕ, ◌==◌, Bool, true, false, not, ◌&&◌, ◌||◌, if◌then◌else◌, List, [], ◌∷◌, ◌++◌, drop, suc, take}
use Rattle.game_tree.specs.TagName.{is_tag_byte}
use Rattle.pgn_read.specs.Bytes.{is_white, has_zero, front, behind}
use Rattle.pgn_read.specs.Token.{tag, bad_tag, Lexed, lexed_as}

-- A backslash escapes the byte behind it, unless it is itself escaped.
abbrev pub escapes : Bool → ℕ → Bool
escapes escaped byte = not escaped && (byte == 92)

-- How many bytes a value has as it stands: it ends before the first quotation mark that none escapes, or at the end of the text.
abbrev pub value_len : Bool → List ℕ → ℕ
value_len escaped [] = 0
value_len escaped (byte ∷ text) = if not escaped && (byte == 34) then 0 else suc (value_len (escapes escaped byte) text)

-- The value that these bytes are: `\"` and `\\` stand for `"` and `\`, and another backslash for itself.
abbrev pub meant_by : Bool → ℕ → List ℕ
meant_by true byte = if (byte == 34) || (byte == 92) then byte ∷ [] else 92 ∷ byte ∷ []
meant_by false byte = if byte == 92 then [] else byte ∷ []

abbrev pub unescaped_from : Bool → List ℕ → List ℕ
unescaped_from true [] = 92 ∷ []
unescaped_from false [] = []
unescaped_from escaped (byte ∷ text) = meant_by escaped byte ++ unescaped_from (escapes escaped byte) text

-- From the closing bracket on. No byte of a tag is zero.
abbrev pub closing : List ℕ → List ℕ → List ℕ → Lexed
closing name raw [] = lexed_as bad_tag []
closing name raw (byte ∷ text) =
    if byte == 93 then lexed_as (if has_zero raw then bad_tag else tag name (unescaped_from false raw)) text else lexed_as bad_tag (byte ∷ text)

-- From the opening quotation mark on.
abbrev pub quoting : List ℕ → List ℕ → Lexed
quoting name [] = lexed_as bad_tag []
quoting name (byte ∷ text) =
    if byte == 34 then closing name (take (value_len false text) text) (behind is_white (drop 1 (drop (value_len false text) text)))
    else lexed_as bad_tag (byte ∷ text)

-- From behind the name, which has at least one byte.
abbrev pub naming : List ℕ → List ℕ → Lexed
naming [] text = lexed_as bad_tag text
naming (byte ∷ name) text = quoting (byte ∷ name) (behind is_white text)

-- From behind the opening bracket on.
abbrev pub tag_from : List ℕ → Lexed
tag_from text = naming (front is_tag_byte (behind is_white text)) (behind is_tag_byte (behind is_white text))

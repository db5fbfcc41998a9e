-- One way to spell words in a line: each in quotes (this project's own).
use Rattle.std.specs.Prelude.{ℕ, if◌then◌else◌, List, [], ◌∷◌, ◌++◌}
use Rattle.script_text.specs.Words.{is_escaped}

-- The bytes of a quoted part: a backslash stands before each quote and each backslash of the text.
abbrev pub escaped : List ℕ → List ℕ
escaped [] = []
escaped (byte ∷ text) = if is_escaped byte then 92 ∷ byte ∷ escaped text else byte ∷ escaped text

-- The line of these words: each in quotes, with a space behind it.
abbrev pub quoted_line : List (List ℕ) → List ℕ
quoted_line [] = []
quoted_line (text ∷ texts) = 34 ∷ (escaped text ++ 34 ∷ 32 ∷ quoted_line texts)

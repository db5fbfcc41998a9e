-- The words of a line as they are spelled, apart from how a line is cut (this project's own).
use Rattle.std.specs.Prelude.{◌≡◌, ◌==◌, ℕ, Bool, true, false, List, [], ◌∷◌, ◌++◌, Some, None}
use Rattle.std.specs.List.{AllByRecursion}
use Rattle.script_text.specs.Words.{Word, is_blank, is_escaped}

-- What stands for one byte of a quoted part: the byte, or a quote or backslash behind a backslash. A backslash before another byte
-- stands for itself, so that the two are spelled as they are.
pub data Mark : Type 0 where
  plain : ℕ → Mark
  escape : ℕ → Mark
  lone : ℕ → Mark

abbrev pub mark_bytes : List Mark → List ℕ
mark_bytes [] = []
mark_bytes (plain byte ∷ marks) = byte ∷ mark_bytes marks
mark_bytes (escape byte ∷ marks) = 92 ∷ byte ∷ mark_bytes marks
mark_bytes (lone byte ∷ marks) = 92 ∷ byte ∷ mark_bytes marks

abbrev pub mark_text : List Mark → List ℕ
mark_text [] = []
mark_text (plain byte ∷ marks) = byte ∷ mark_text marks
mark_text (escape byte ∷ marks) = byte ∷ mark_text marks
mark_text (lone byte ∷ marks) = 92 ∷ byte ∷ mark_text marks

-- A plain byte is no quote and no backslash; an escape is of one of them, and a lone backslash stands before neither.
abbrev pub IsMark : Mark → Type 0
IsMark (plain byte) = is_escaped byte ≡ false
IsMark (escape byte) = is_escaped byte ≡ true
IsMark (lone byte) = is_escaped byte ≡ false

-- A part of a word: a byte outside of quotes, or a quoted part.
pub data Part : Type 0 where
  bare : ℕ → Part
  quoted : List Mark → Part

abbrev pub part_bytes : List Part → List ℕ → List ℕ
part_bytes [] rest = rest
part_bytes (bare byte ∷ parts) rest = byte ∷ part_bytes parts rest
part_bytes (quoted marks ∷ parts) rest = 34 ∷ mark_bytes marks ++ 34 ∷ part_bytes parts rest

abbrev pub part_text : List Part → List ℕ
part_text [] = []
part_text (bare byte ∷ parts) = byte ∷ part_text parts
part_text (quoted marks ∷ parts) = mark_text marks ++ part_text parts

-- A byte outside of quotes is no blank and no quote.
pub record IsBare (byte : ℕ) : Type 0 where
  pub no_blank : is_blank byte ≡ false
  pub no_quote : (byte == 34) ≡ false

abbrev pub IsPart : Part → Type 0
IsPart (bare byte) = IsBare byte
IsPart (quoted marks) = AllByRecursion IsMark marks

-- A line: blanks, and words behind them. The last word may end in a quoted part that is not closed, which runs to the end of the line
-- and may end in a lone backslash.
pub data Line : Type 0 where
  end : List ℕ → Line
  word : List ℕ → List Part → Line → Line
  unclosed : List ℕ → List Part → List Mark → Bool → Line

-- The backslash at the end of the line, if there is one.
abbrev pub last_backslash : Bool → List ℕ
last_backslash true = 92 ∷ []
last_backslash false = []

abbrev pub line_bytes : Line → List ℕ
line_bytes (end blanks) = blanks
line_bytes (word blanks parts line) = blanks ++ part_bytes parts (line_bytes line)
line_bytes (unclosed blanks parts marks backslash) = blanks ++ part_bytes parts (34 ∷ mark_bytes marks ++ last_backslash backslash)

abbrev pub line_words : Line → List Word
line_words (end blanks) = []
line_words (word blanks parts line) = Some (part_text parts) ∷ line_words line
line_words (unclosed blanks parts marks backslash) = None ∷ []

abbrev pub AreBlanks : List ℕ → Type 0
AreBlanks blanks = AllByRecursion (λ byte. is_blank byte ≡ true) blanks

-- The line begins with a blank, or is at its end: what stands behind a word.
abbrev pub IsApart : Line → Type 0
IsApart (end blanks) = Unit {0}
IsApart (word blanks parts line) = blanks ≡ [] → ⊥
IsApart (unclosed blanks parts marks backslash) = blanks ≡ [] → ⊥

-- A word has at least one part, and a blank or the end of the line behind it.
abbrev pub IsLine : Line → Type 0
IsLine (end blanks) = AreBlanks blanks
IsLine (word blanks parts line) = AreBlanks blanks × (parts ≡ [] → ⊥) × AllByRecursion IsPart parts × IsApart line × IsLine line
IsLine (unclosed blanks parts marks backslash) = AreBlanks blanks × AllByRecursion IsPart parts × AllByRecursion IsMark marks

-- These bytes spell these words; a word that is not closed has no text.
pub record Spells (bytes : List ℕ) (words : List Word) : Type 0 where
  pub line : Line
  pub is_line : IsLine line
  pub bytes_are : bytes ≡ line_bytes line
  pub words_are : words ≡ line_words line

-- What table a text is, or its first fault in the order of lines and then of words (this project's own).
use Rattle.std.specs.Prelude.{ℕ, ◌+◌, ◌==◌, nat_le, if◌then◌else◌, List, [], ◌∷◌, ◌++◌, length, slice_index, Option, Some, None, Result, Ok, Err}
use Rattle.std.specs.Option.{option_map_or}
use Rattle.std.specs.Str.Lines.{strip_carriage_return}
use Rattle.cell_core.specs.Steps.{blamed, ◌>>=◌}
use Rattle.chess_laws.specs.Position.{start_setup}
use Rattle.chess_laws.specs.Step.{stepped}
use Rattle.chess_laws.specs.declared.setup.Setup.{Setup}
use Rattle.chess_text.specs.SanAnswer.{san_answer}
use Rattle.chess_text.specs.declared.fault.SanFault.{SanFault}
use Rattle.game_tree.specs.Eco.{eco_read}
use Rattle.eco_class.specs.Cutting.{lines_of, words_of}
use Rattle.eco_class.specs.Table.{Opening, line_at}
use Rattle.eco_class.specs.declared.fault.EcoFault.{EcoFault}
use Rattle.eco_class.specs.declared.fault.EcoWhat.TheVariants.{Code, Lines, San, Twice}

-- The position after the moves that these words are in Standard Algebraic Notation, or the fault of the first word that is none.
unfoldable pub played : Setup → List (List ℕ) → Result Setup SanFault
played p [] = Ok p
played p (word ∷ words) = san_answer p word >>= λ m. played (stepped p m) words

-- The table with one more line, unless an earlier one, with this number, ends on the same board with the same side to move.
abbrev pub joined : List Opening → Opening → Option ℕ → Result (List Opening) EcoFault
joined table opening earlier = option_map_or (λ line. Err (record { line = opening.line; what = Twice line })) earlier (Ok (table ++ opening ∷ []))

-- The table with the line of this number, which is this code, if it is one, and then the words of these moves. A table has at most 65,536
-- lines with a code.
abbrev pub with_code : List Opening → ℕ → List (List ℕ) → Option ℕ → Result (List Opening) EcoFault
with_code table number moves None = Err (record { line = number; what = Code })
with_code table number moves (Some code) = if nat_le 65536 (length table) then Err (record { line = number; what = Lines }) else do
  p ← blamed (λ fault. record { line = number; what = San fault }) (played start_setup moves)
  joined table (record { line = number; code = code; board = p.board; side = p.side }) (line_at table p.board p.side)

abbrev pub with_words : List Opening → ℕ → List (List ℕ) → Result (List Opening) EcoFault
with_words table number [] = Ok table
with_words table number (first ∷ moves) = with_code table number moves (eco_read first)

-- The table with one more line: a comment, which begins with #, and a line without words add nothing. A carriage return at its end is
-- dropped.
unfoldable pub with_line : List Opening → ℕ → List ℕ → Result (List Opening) EcoFault
with_line table number line = if slice_index line 0 == 35 then Ok table else with_words table number (words_of (strip_carriage_return line))

-- The table with these lines, the first of which has this number.
unfoldable pub with_lines : List Opening → ℕ → List (List ℕ) → Result (List Opening) EcoFault
with_lines table number [] = Ok table
with_lines table number (line ∷ lines) = with_line table number line >>= λ next. with_lines next (number + 1) lines

-- The table of a text. Lines count from 1, all lines included.
abbrev pub table_of : List ℕ → Result (List Opening) EcoFault
table_of text = with_lines [] 1 (lines_of text)

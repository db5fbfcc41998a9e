-- The lines of the input, and the answers to them (this project's own).
use Rattle.std.specs.Prelude.{ℕ, ◌==◌, if◌then◌else◌, List, [], ◌∷◌, ◌++◌, length, flat_map}
use Rattle.scid_moves.specs.Answers.{answer}

-- The lines of bytes behind a line so far, without their line feeds: those that one ends, and the last one, which none ends; it may be empty.
unfoldable pub lines_from : List ℕ → List ℕ → List (List ℕ) × List ℕ
lines_from line [] = ([], line)
lines_from line (byte ∷ bytes) = if byte == 10 then (line ∷ (lines_from [] bytes).0, (lines_from [] bytes).1) else lines_from (line ++ byte ∷ []) bytes

-- The lines that a line feed ends, and what stands behind them.
abbrev pub whole_lines : List ℕ → List (List ℕ)
whole_lines bytes = (lines_from [] bytes).0

abbrev pub open_line : List ℕ → List ℕ
open_line bytes = (lines_from [] bytes).1

-- All lines of an input: the end of the input ends a last line that is not empty.
abbrev pub all_lines : List ℕ → List (List ℕ)
all_lines bytes = whole_lines bytes ++ (if length (open_line bytes) == 0 then [] else open_line bytes ∷ [])

-- The answers to lines, one after the other.
abbrev pub answers : List (List ℕ) → List ℕ
answers lines = flat_map answer lines

-- Numbers and spans of numbers (this project's own).
use Rattle.std.specs.Prelude.{ℕ, ◌==◌, nat_le, if◌then◌else◌, List, [], ◌∷◌, drop, slice_index_or, Option, Some, None, option_map, option_and_then, codes}
use Rattle.std.specs.Str.{bytes_eq}
use Rattle.game_tree.specs.Decimal.{decimal_read}
use Rattle.sig_index.specs.declared.span.Span.{Span}

-- A number: decimal digits, below 2^64.
abbrev pub number : List ℕ → Option ℕ
number word = decimal_read 18446744073709551615 word

-- D of index: how many plies it holds of each game, at most 40, or off.
abbrev pub index_depth : List ℕ → Option (Option ℕ)
index_depth word = if bytes_eq word (codes "off") then Some None else option_map Some (decimal_read 40 word)

-- What stands before the first such byte, and what stands behind it.
abbrev pub split_once : ℕ → List ℕ → Option (List ℕ × List ℕ)
split_once at [] = None
split_once at (byte ∷ text) = if byte == at then Some ([], text) else option_map (λ parts. (byte ∷ parts.0, parts.1)) (split_once at text)

-- The two ends of LO..HI: the first dot has another right behind it.
unfoldable pub ends : List ℕ → Option (List ℕ × List ℕ)
ends text = option_and_then (λ both. if slice_index_or both.1 0 0 == 46 then Some (both.0, drop 1 both.1) else None) (split_once 46 text)

-- The span between two ends that read as numbers, if the lower one is not above the upper one.
abbrev pub between : Option ℕ → Option ℕ → Option Span
between (Some lo) (Some hi) = if nat_le lo hi then Some (record { lo = lo; hi = hi }) else None
between _ _ = None

-- LO..HI with ends that are read so.
unfoldable pub span : (List ℕ → Option ℕ) → List ℕ → Option Span
span end text = option_and_then (λ parts. between (end parts.0) (end parts.1)) (ends text)

-- What a source in memory shows of what it holds (this project's own).
use Rattle.std.specs.Prelude.{ℕ, ◌-◌, ◌<◌, ◌≤◌, List, drop, length, Option, None, Some}
use Rattle.base_files.specs.declared.mem_source.Store.{Store}
use Rattle.base_files.specs.declared.mem_source.Store.TheVariants.{Once, Again}

-- Bytes that are given once are told, those that are given again and again are not.
abbrev pub left_of : Store → Option (List ℕ)
left_of (Once bytes next) = Some (drop next bytes.items)
left_of (Again piece next budget) = None

-- The number of bytes left, or the budget.
abbrev pub budget_of : Store → ℕ
budget_of (Once bytes next) = length bytes.items - next
budget_of (Again piece next budget) = budget

-- The next byte is within the bytes, or at their end if they are given once.
abbrev pub IsWithin : Store → Type 0
IsWithin (Once bytes next) = next ≤ length bytes.items
IsWithin (Again piece next budget) = next < length piece.items

-- How many bytes come at most in one call: one whole piece, or the given number.
abbrev pub most_of : Store → ℕ → ℕ
most_of (Once bytes next) most = most
most_of (Again piece next budget) most = length piece.items

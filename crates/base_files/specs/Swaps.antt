-- Bytes of a games file in memory that change by themselves (this project's own).
use Rattle.std.specs.Prelude.{ℕ, ◌==◌, if◌then◌else◌, List, [], ◌∷◌, slice_set, Option, None, Some}
use Rattle.std.specs.Global.{Vec}
use Rattle.base_files.specs.declared.swap.Swap.{Swap}

-- The games file before the call of this number, if a byte may be put. A place past the end changes nothing.
abbrev pub after_swap : ℕ → Swap → List ℕ → List ℕ
after_swap call swap games = if swap.before == call then slice_set games swap.place swap.byte else games

-- The games file before the call of this number: the bytes that are planned before it are put, one after the other.
abbrev pub swapped : ℕ → List Swap → List ℕ → List ℕ
swapped call [] games = games
swapped call (swap ∷ more) games = swapped call more (after_swap call swap games)

-- The swaps that are planned, if the games file may change by itself.
abbrev pub swaps_of : Option (Vec Swap) → Option (List Swap)
swaps_of None = None
swaps_of (Some swaps) = Some swaps.items

-- The games file before the call of this number. It stays as it is unless it may change by itself.
abbrev pub games_before : ℕ → Option (List Swap) → List ℕ → List ℕ
games_before call None games = games
games_before call (Some swaps) games = swapped call swaps games

-- What is told of the contents: nothing, if they may change by themselves.
abbrev pub told_of : Option (List Swap) → List ℕ → Option (List ℕ)
told_of None bytes = Some bytes
told_of (Some swaps) bytes = None

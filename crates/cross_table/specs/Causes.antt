-- Why there is no crosstable (this project's own).
use Rattle.std.specs.Prelude.{◌≡◌, ℕ, ◌<◌, List, length, ⊤}
use Rattle.game_tree.specs.declared.head.Head.{Head}
use Rattle.cross_table.specs.declared.fault.CrossError.{CrossError}
use Rattle.cross_table.specs.declared.fault.CrossError.TheVariants.{TooMany, Memory}
use Rattle.cross_table.specs.Crosstable.{event_games, names_of}

-- How many names play in an event.
abbrev pub players : List ℕ → List Head → ℕ
players event heads = length (names_of (event_games event heads))

-- More than 200 names play, and it tells how many; or memory was refused.
abbrev pub HasCause : CrossError → ℕ → Type 0
HasCause (TooMany told) playing = (told ≡ playing) × (200 < playing)
HasCause Memory playing = ⊤

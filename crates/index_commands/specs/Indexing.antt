-- The commands on the position index: `index D` and `index off`. This project's own.
use Rattle.std.specs.Fmt.{decimal}
use Rattle.std.specs.Prelude.{ℕ, Bool, is_some, List, ◌++◌, codes, if◌then◌else◌, length, Option, Some, None, sum_by}
use Rattle.pos_index.specs.Hits.{entries_of}
use Rattle.shell_state.specs.Lines.{error_line}
use Rattle.shell_state.specs.Refusing.{index_is_full}
use Rattle.shell_state.specs.Stands.{index_of}
use Rattle.shell_state.specs.State.{State, games_of, with_index}
use Rattle.shell_state.specs.Work.{Look, Work, reading}

-- An index to this depth has no room for the games of the base.
abbrev pub is_too_big : State → ℕ → Bool
is_too_big s depth = index_is_full (Some depth) (length s.shared.base.games)

-- The base has an index to this depth, in the place of an older one, or none.
abbrev pub index_after : State → Option ℕ → State
index_after s depth = if index_is_full depth (length s.shared.base.games) then s else with_index s depth

-- `index D E entries`: the depth, and how many hits there are on all boards.
abbrev pub index_line : ℕ → ℕ → List ℕ
index_line depth entries = codes "index " ++ decimal depth ++ (codes " " ++ decimal entries ++ codes " entries\n")

abbrev pub too_big_line : List ℕ
too_big_line = error_line (codes "index too big")

abbrev pub index_text : State → Option ℕ → List ℕ
index_text s (Some depth) = if is_too_big s depth then too_big_line else index_line depth (entries_of (index_of (games_of s) depth).rows)
index_text s None = codes "index off\n"

-- The records of all games are read when an index is built.
abbrev pub index_work : Option ℕ → Work
index_work depth =
    let price : List Look → List (Option ℕ) → ℕ = λ looks plies. if is_some depth then sum_by (λ look. look.len) looks else 0 in
    record (reading (λ s. index_after s depth) (λ s. index_text s depth) price) { files = is_some depth }

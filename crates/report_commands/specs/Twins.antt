-- The command that marks twins as deleted. This project's own.
use Rattle.std.specs.Fmt.{decimal}
use Rattle.std.specs.Prelude.{ℕ, List, map, [], ◌∷◌, ◌++◌, codes, fold, length, ◌&&◌, not, nat_le, Option, sum_by}
use Rattle.base_core.specs.Edits.{deleted}
use Rattle.twin_games.specs.Asking.{agreeing}
use Rattle.twin_games.specs.Twins.{twins_of}
use Rattle.shell_state.specs.Lines.{line_of}
use Rattle.shell_state.specs.Passing.{len_if}
use Rattle.shell_state.specs.State.{State, games_of, with_base}
use Rattle.shell_state.specs.Work.{Work, Look, reading}

-- The games that are twins of earlier ones, by their first so many plies.
abbrev pub found_twins : State → ℕ → List ℕ
found_twins s depth = twins_of (map (λ held. held.head) s.shared.base.games) (games_of s) depth

-- The state with these games marked as deleted; without any it stays as it is.
abbrev pub with_deleted : State → List ℕ → State
with_deleted s [] = s
with_deleted s (game ∷ games) = with_base s (fold (λ base game. deleted game base) s.shared.base (game ∷ games))

-- An undeleted game is read if another undeleted one has the same names, date and result.
abbrev pub twins_price : List Look → List (Option ℕ) → ℕ
twins_price looks plies =
    sum_by (λ look. len_if (not look.head.deleted && nat_le 2 (agreeing look.head (map (λ look. look.head) looks))) look.len) looks

-- twins D
abbrev pub twins_work : ℕ → Work
twins_work depth =
    reading (λ s. with_deleted s (found_twins s depth)) (λ s. line_of (codes "twins " ++ decimal (length (found_twins s depth)))) twins_price

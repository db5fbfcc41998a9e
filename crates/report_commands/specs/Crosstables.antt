-- The command that writes the crosstable of an event. This project's own.
use Rattle.std.specs.Prelude.{ℕ, nat_lt, if◌then◌else◌, List, codes, length, map}
use Rattle.cross_table.specs.Crosstable.{crosstable, event_games, names_of, table_text}
use Rattle.game_tree.specs.declared.head.Head.{Head}
use Rattle.shell_state.specs.Lines.{error_line}
use Rattle.shell_state.specs.Work.{Work, quiet}

-- cross EVENT: the table of the games with these heads, or an error line if more than 200 names play.
abbrev pub cross_of : List ℕ → List Head → List ℕ
cross_of event heads =
    if nat_lt 200 (length (names_of (event_games event heads))) then error_line (codes "too many players")
    else table_text (crosstable event heads)

abbrev pub cross_work : List ℕ → Work
cross_work event = quiet (λ s. s) (λ s. cross_of event (map (λ held. held.head) s.shared.base.games))

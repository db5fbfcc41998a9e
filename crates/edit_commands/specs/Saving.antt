-- Saving, and what the files carry while a script runs. This project's own.
use Rattle.std.specs.Fmt.{decimal}
use Rattle.std.specs.Prelude.{Some, ℕ, List, ◌++◌, codes, length}
use Rattle.shell_state.specs.State.{State, saved_whole}
use Rattle.shell_state.specs.Work.{Work, writing}
use Rattle.shell_state.specs.Work.Price.{by_looks}

-- save: the files carry the base as it is.
abbrev pub save_after : State → State
save_after s = record s { shared = saved_whole s.shared s.shared.base }

abbrev pub saved_line : ℕ → List ℕ
saved_line games = codes "saved " ++ decimal games ++ codes " games\n"

abbrev pub save_work : Work
save_work = record (writing save_after (λ s. saved_line (length s.shared.base.games)) (by_looks (λ looks plies. 0))) { left = Some (λ base. base) }

-- The command that writes the opening tree of the games that are in. This project's own.
use Rattle.std.specs.Prelude.{ℕ, List}
use Rattle.cell_core.specs.Board.{Men}
use Rattle.cell_core.specs.declared.man.Colour.{Colour}
use Rattle.game_filter.specs.declared.op.Op.TheVariants.{And}
use Rattle.shell_state.specs.Meeting.{position_len, tree_of}
use Rattle.shell_state.specs.Slots.{exactly}
use Rattle.shell_state.specs.State.{State}
use Rattle.shell_state.specs.Work.{Work, reading}

-- tree BOARD SIDE: the rows of the games that are in and meet the board on all squares.
abbrev pub tree_said : State → Men → Colour → List ℕ
tree_said s board side = tree_of (exactly board side) s.seat.filter s.shared.base.games

abbrev pub tree_work : Men → Colour → Work
tree_work board side = reading (λ s. s) (λ s. tree_said s board side) (position_len And (exactly board side))

-- How taking games in ends early. Only private functions cite this.
use Rattle.base_files.specs.declared.faults.Stop.TheVariants as stop
use Rattle.pgn_read.specs.declared.error.PgnError.{PgnError}
use Rattle.pgn_read.specs.declared.error.PgnError.TheVariants as pgn
use Rattle.shell_state.specs.declared.halt.Halt.{Halt}
use Rattle.shell_state.specs.declared.halt.Halt.TheVariants as halt

-- How a command ends whose body is not read.
abbrev pub unread_halt : PgnError → Halt
unread_halt pgn.Failed = halt.Device stop.Read
unread_halt pgn.Memory = halt.Device stop.Memory

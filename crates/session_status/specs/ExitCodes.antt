-- The exit codes of the process. This project's own.
use Rattle.std.specs.Prelude.{ℕ}
use Rattle.session_status.specs.declared.status.Status.{Status}
use Rattle.session_status.specs.declared.status.Status.TheVariants.{Done, Usage, BadBase, ReadFault, WriteFault, FilesFault, Changed, InputTooLong, Memory}

abbrev pub exit_code_of : Status → ℕ
exit_code_of Done = 0
exit_code_of Usage = 1
exit_code_of (BadBase fault) = 2
exit_code_of ReadFault = 3
exit_code_of WriteFault = 4
exit_code_of FilesFault = 5
exit_code_of (Changed game kept found) = 6
exit_code_of InputTooLong = 7
exit_code_of Memory = 8

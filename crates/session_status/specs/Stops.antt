-- The status of what ends a session early. This project's own.
use Rattle.std.specs.Prelude.{Option, Some}
use Rattle.base_files.specs.declared.faults.Stop.{Stop}
use Rattle.base_files.specs.declared.faults.Stop.TheVariants as stop
use Rattle.base_core.specs.declared.fault.OpenError.{OpenError}
use Rattle.base_core.specs.declared.fault.OpenError.TheVariants as opening
use Rattle.script_lines.specs.declared.reader.ReadError.{ReadError}
use Rattle.script_lines.specs.declared.reader.ReadError.TheVariants as reading
use Rattle.shell_state.specs.declared.halt.Halt.{Halt}
use Rattle.shell_state.specs.declared.halt.Halt.TheVariants as halt
use Rattle.session_status.specs.declared.status.Status.{Status}
use Rattle.session_status.specs.declared.status.Status.TheVariants as status

-- A device failed, or memory ran out.
abbrev pub status_of : Stop → Status
status_of stop.Read = status.ReadFault
status_of stop.Write = status.WriteFault
status_of stop.Files = status.FilesFault
status_of stop.Memory = status.Memory

-- A command was broken off.
abbrev pub status_of_halt : Halt → Status
status_of_halt (halt.Device stop) = status_of stop
status_of_halt (halt.Changed game kept found) = status.Changed game kept found

-- A base was not opened.
abbrev pub status_of_opening : OpenError → Status
status_of_opening (opening.Bad fault) = status.BadBase fault
status_of_opening opening.Failed = status.FilesFault
status_of_opening opening.Memory = status.Memory

-- No line was read.
abbrev pub status_of_reading : ReadError → Status
status_of_reading reading.Failed = status.ReadFault
status_of_reading reading.TooLong = status.InputTooLong
status_of_reading reading.Memory = status.Memory

-- A command was broken off over its body: if a read of the body failed, by why the body is read no further.
abbrev pub status_in_body : Halt → Option ReadError → Status
status_in_body (halt.Device stop.Read) (Some error) = status_of_reading error
status_in_body halt _ = status_of_halt halt

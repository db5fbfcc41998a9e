-- What the program says of a session on standard error (this project's own).
use Rattle.std.specs.Prelude.{ℕ, List, codes}
use Rattle.session_status.specs.declared.status.Status.{Status}
use Rattle.session_status.specs.declared.status.Status.TheVariants.{Done, Usage, BadBase, ReadFault, WriteFault, FilesFault, Changed, InputTooLong, Memory}

-- The line for a status, of a bad base and of a changed game its beginning; none for a session that is done.
abbrev pub line_of : Status → List ℕ
line_of Done = codes ""
line_of Usage = codes "usage: scid_shell [--create] [--strict] [--desk] BASE (--help tells more)"
line_of (BadBase fault) = codes "bad base: "
line_of ReadFault = codes "read fault"
line_of WriteFault = codes "write fault"
line_of FilesFault = codes "files fault"
line_of Memory = codes "out of memory"
line_of (Changed game kept found) = codes "changed game "
line_of InputTooLong = codes "input too long"

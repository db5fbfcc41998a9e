-- What the program says of a run on standard error (this project's own).
use Rattle.std.specs.Prelude.{ℕ, List, codes}
use Rattle.scid_mend.specs.declared.status.Status.{Status}
use Rattle.scid_mend.specs.declared.status.Status.TheVariants as status

-- The line for a status, of a faulty index and of a limit its beginning; none for a run that is done.
abbrev pub line_of : Status → List ℕ
line_of status.All = codes ""
line_of status.NotAll = codes ""
line_of (status.BadIndex fault) = codes "bad base: index file: "
line_of status.WriteFault = codes "write fault"
line_of status.FilesFault = codes "files fault"
line_of status.Memory = codes "out of memory"
line_of status.Usage = codes "usage: scid_mend [--fronts] [--loose] OLD NEW"
line_of (status.Full what) = codes "full "

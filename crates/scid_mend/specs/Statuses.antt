-- How the program ends (this project's own).
use Rattle.std.specs.Prelude.{ℕ, nat_eq, if◌then◌else◌}
use Rattle.base_files.specs.declared.faults.DeviceError.{DeviceError}
use Rattle.base_files.specs.declared.faults.DeviceError.TheVariants as device
use Rattle.mend_base.specs.declared.fault.MendError.{MendError}
use Rattle.mend_base.specs.declared.fault.MendError.TheVariants as error
use Rattle.mend_base.specs.declared.mending.Mended.{Mended}
use Rattle.scid_mend.specs.declared.status.Status.{Status}
use Rattle.scid_mend.specs.declared.status.Status.TheVariants as status

-- The exit code of a status.
abbrev pub exit_code_of : Status → ℕ
exit_code_of status.All = 0
exit_code_of (status.BadIndex fault) = 2
exit_code_of status.WriteFault = 4
exit_code_of status.FilesFault = 5
exit_code_of status.Memory = 8
exit_code_of status.Usage = 9
exit_code_of (status.Full what) = 10
exit_code_of status.NotAll = 11

-- The status after the files of a base failed.
abbrev pub files_status : DeviceError → Status
files_status device.Failed = status.FilesFault
files_status device.Memory = status.Memory

-- The status after mending failed.
abbrev pub mending_status : MendError → Status
mending_status (error.Bad fault) = status.BadIndex fault
mending_status (error.Full what) = status.Full what
mending_status error.OldFailed = status.FilesFault
mending_status error.NewFailed = status.FilesFault
mending_status error.ReportFailed = status.WriteFault
mending_status error.Memory = status.Memory

-- The status after all games came over, so many of them changed.
abbrev pub changed_status : ℕ → Status
changed_status changed = if nat_eq changed 0 then status.All else status.NotAll

-- The status after so many games came over, and so many of them changed.
abbrev pub mended_status : Mended → Status
mended_status mended = if nat_eq mended.came mended.of then changed_status mended.changed else status.NotAll

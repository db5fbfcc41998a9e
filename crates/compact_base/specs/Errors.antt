-- Which error of a compaction an error of its parts is (this project's own).
use Rattle.base_core.specs.declared.fault.DraftError.{DraftError}
use Rattle.base_core.specs.declared.fault.DraftError.TheVariants as draft
use Rattle.base_core.specs.declared.fault.EditError.{EditError}
use Rattle.base_core.specs.declared.fault.EditError.TheVariants as edit
use Rattle.base_files.specs.declared.faults.DeviceError.{DeviceError}
use Rattle.base_files.specs.declared.faults.DeviceError.TheVariants as device
use Rattle.compact_base.specs.declared.fault.CompactError.{CompactError}
use Rattle.compact_base.specs.declared.fault.CompactError.TheVariants as error

abbrev pub draft_error : DraftError → CompactError
draft_error draft.Full = error.Full
draft_error draft.Memory = error.Memory

abbrev pub files_error : DeviceError → CompactError
files_error device.Failed = error.Failed
files_error device.Memory = error.Memory

-- Reading the record of a game that is there has the first three of these errors alone.
abbrev pub record_error : EditError → CompactError
record_error (edit.Changed game sig found) = error.Changed game sig found
record_error edit.Failed = error.Failed
record_error edit.Memory = error.Memory
record_error (edit.NoGame game) = error.Memory
record_error (edit.TooLong n) = error.Memory
record_error (edit.Full what) = error.Memory

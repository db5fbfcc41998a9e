-- Which error of mending an error of its parts is (this project's own).
use Rattle.base_core.specs.declared.fault.EditError.{EditError}
use Rattle.base_core.specs.declared.fault.EditError.TheVariants as edit
use Rattle.base_files.specs.declared.faults.DeviceError.{DeviceError}
use Rattle.base_files.specs.declared.faults.DeviceError.TheVariants as device
use Rattle.mend_base.specs.declared.fault.MendError.{MendError}
use Rattle.mend_base.specs.declared.fault.MendError.TheVariants as error

abbrev pub old_error : DeviceError → MendError
old_error device.Failed = error.OldFailed
old_error device.Memory = error.Memory

abbrev pub new_error : DeviceError → MendError
new_error device.Failed = error.NewFailed
new_error device.Memory = error.Memory

abbrev pub report_error : DeviceError → MendError
report_error device.Failed = error.ReportFailed
report_error device.Memory = error.Memory

-- A draft that takes no game is full, or wants memory.
abbrev pub not_taken_error : EditError → MendError
not_taken_error (edit.Full what) = error.Full what
not_taken_error _ = error.Memory

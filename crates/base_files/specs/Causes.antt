-- When an answer of the outside may come (this project's own).
use Rattle.std.specs.Prelude.{ℕ, ⊤}
use Rattle.base_files.specs.declared.faults.DeviceError.{DeviceError}
use Rattle.base_files.specs.declared.faults.DeviceError.TheVariants as device
use Rattle.base_files.specs.declared.faults.Stop.{Stop}
use Rattle.base_files.specs.declared.faults.Stop.TheVariants as stop
use Rattle.base_files.specs.Counters.{Rose, raised}

-- The cause of a device's error, if its count of faults went from `old` to `new`: a fault was counted; want of memory is free.
abbrev pub HasCause : DeviceError → ℕ → ℕ → Type 0
HasCause device.Failed old new = Rose old new
HasCause device.Memory old new = ⊤

-- A count of faults after an error: a fault is counted, want of memory is not.
abbrev pub after_error : DeviceError → ℕ → ℕ
after_error device.Failed faults = raised faults 1
after_error device.Memory faults = faults

-- The early end that an error of the input is.
abbrev pub input_stop : DeviceError → Stop
input_stop device.Failed = stop.Read
input_stop device.Memory = stop.Memory

-- The early end that an error of the output is.
abbrev pub output_stop : DeviceError → Stop
output_stop device.Failed = stop.Write
output_stop device.Memory = stop.Memory

-- The early end that an error of the files is.
abbrev pub files_stop : DeviceError → Stop
files_stop device.Failed = stop.Files
files_stop device.Memory = stop.Memory

-- How a run of the program ends (this project's own).
use Rattle.std.specs.Prelude.{ℕ, List, ⊤, codes}
use Rattle.base_files.specs.Counters.{Rose}
use Rattle.base_files.specs.declared.faults.DeviceError.{DeviceError}
use Rattle.base_files.specs.declared.faults.DeviceError.TheVariants as device
use Rattle.scid_moves.specs.declared.end.End.{End}
use Rattle.scid_moves.specs.declared.end.End.TheVariants as end

-- The exit code of a run that is not done.
abbrev pub exit_code_of : End → ℕ
exit_code_of end.Usage = 1
exit_code_of end.ReadFault = 3
exit_code_of end.WriteFault = 4
exit_code_of end.Memory = 8

-- What it says of that on standard error.
abbrev pub line_of : End → List ℕ
line_of end.Usage = codes "usage: scid_moves"
line_of end.ReadFault = codes "read fault"
line_of end.WriteFault = codes "write fault"
line_of end.Memory = codes "out of memory"

-- The end that an error of the output is.
abbrev pub output_end : DeviceError → End
output_end device.Failed = end.WriteFault
output_end device.Memory = end.Memory

-- Why a run over an input and an output ends so, whose faults were and are counted: want of memory is free, and its words end no such run.
abbrev pub Why : End → ℕ → ℕ → ℕ → ℕ → Type 0
Why end.Usage read reads wrote writes = ⊥
Why end.ReadFault read reads wrote writes = Rose read reads
Why end.WriteFault read reads wrote writes = Rose wrote writes
Why end.Memory read reads wrote writes = ⊤

-- How saving and compacting end early. Only private functions cite this.
use Rattle.std.specs.Prelude.{ℕ, List, Result, Ok, Err}
use Rattle.base_core.specs.declared.fault.SaveError.{SaveError}
use Rattle.base_core.specs.declared.fault.SaveError.TheVariants as saving
use Rattle.base_core.specs.declared.fault.What.TheVariants.{File}
use Rattle.base_files.specs.declared.faults.Stop.TheVariants as stop
use Rattle.compact_base.specs.declared.fault.CompactError.{CompactError}
use Rattle.compact_base.specs.declared.fault.CompactError.TheVariants as compacting
use Rattle.shell_state.specs.Refusing.{refusal_line}
use Rattle.shell_state.specs.declared.halt.Halt.{Halt}
use Rattle.shell_state.specs.declared.halt.Halt.TheVariants as halt
use Rattle.shell_state.specs.declared.refusing.Refusal.TheVariants.{Full}

-- How a command ends whose base is not saved.
abbrev pub unsaved_halt : SaveError → Halt
unsaved_halt saving.Failed = halt.Device stop.Files
unsaved_halt saving.Memory = halt.Device stop.Memory

-- How a command ends whose base is not compacted: with an error line, or early.
abbrev pub uncompacted : CompactError → Result (List ℕ) Halt
uncompacted compacting.Full = Ok (refusal_line (Full File))
uncompacted compacting.Failed = Err (halt.Device stop.Files)
uncompacted compacting.Memory = Err (halt.Device stop.Memory)
uncompacted (compacting.Changed game kept found) = Err (halt.Changed game kept found)

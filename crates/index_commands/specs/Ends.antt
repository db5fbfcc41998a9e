-- How a command ends whose index is not built. Only private functions cite this.
use Rattle.base_files.specs.declared.faults.Stop.TheVariants as stop
use Rattle.pos_index.specs.declared.fault.BuildError.{BuildError}
use Rattle.pos_index.specs.declared.fault.BuildError.TheVariants as build
use Rattle.shell_state.specs.Ends.{halt_of_fetch}
use Rattle.shell_state.specs.declared.halt.Halt.{Halt}
use Rattle.shell_state.specs.declared.halt.Halt.TheVariants as halt

abbrev pub halt_of_build : BuildError → Halt
halt_of_build (build.Fetch error) = halt_of_fetch error
halt_of_build build.Memory = halt.Device stop.Memory

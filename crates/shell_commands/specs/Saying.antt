-- How the line of a command is written. Only private functions cite this.
use Rattle.std.specs.Prelude.{◌≡◌, ℕ, List, [], Option, Result, Ok, Err, IfErr, OnOk}
use Rattle.std.specs.Global.{Vec}
use Rattle.base_files.specs.Told.{adds}
use Rattle.command_runs.specs.Counts.{Causes, counts}
use Rattle.command_runs.specs.Endings.{Halted, NoneLost}
use Rattle.shell_state.specs.Ends.{IsOutput}
use Rattle.shell_state.specs.Stands.{WhyHalt}
use Rattle.shell_state.specs.declared.halt.Halt.{Halt}

-- The line was written, or a front part of it; nothing if memory ran out before there was one.
abbrev pub Said : {A E : Type 0} → Result (Vec ℕ) E → Result A Halt → Option (List ℕ) → Option (List ℕ) → Type 0
Said (Ok line) (Ok x) told told' = told' ≡ adds told line.items
Said (Ok line) (Err e) told told' = Halted [] line.items told told' × IsOutput e
Said (Err none) (Ok x) told told' = ⊥
Said (Err none) (Err e) told told' = (told' ≡ told) × IsOutput e

-- The line was written, or a front part of it, and only the output counts faults.
pub record Wrote {A : Type 0} (line : List ℕ) (told told' : Option (List ℕ)) (faults faults' : ℕ) (result : Result A Halt) : Type 0 where
  pub written : OnOk result (told' ≡ adds told line)
  pub halted : Halted [] line told told'
  pub output : IfErr result IsOutput
  pub none_lost : NoneLost told told'
  pub causes : Causes WhyHalt result (counts 0 0 faults) (counts 0 0 faults')

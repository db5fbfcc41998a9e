-- The counts of faults of the three devices, and what an early end says of them. This project's own.
use Rattle.std.specs.Prelude.{ℕ, ◌≤◌, ⊤, Result, IfErr}
use Rattle.base_files.specs.declared.faults.Stop.{Stop}
use Rattle.base_files.specs.declared.faults.Stop.TheVariants as stop
use Rattle.base_files.specs.Counters.{Rose}

-- How many faults the files, the input and the output have counted.
pub record Counts : Type 0 where
  pub files : ℕ
  pub input : ℕ
  pub output : ℕ

abbrev pub counts : ℕ → ℕ → ℕ → Counts
counts files input output = record { files = files; input = input; output = output }

-- If a device stops a run, it counted a fault; want of memory is free.
abbrev pub Why : Stop → Counts → Counts → Type 0
Why stop.Read old new = Rose old.input new.input
Why stop.Write old new = Rose old.output new.output
Why stop.Files old new = Rose old.files new.files
Why stop.Memory old new = ⊤

-- No count fell.
pub record NoneFell (old new : Counts) : Type 0 where
  pub files : old.files ≤ new.files
  pub input : old.input ≤ new.input
  pub output : old.output ≤ new.output

-- No count fell, and an error has its cause, which `Why` gives for the errors of the call.
pub record Causes {A E : Type 0} (Why : E → Counts → Counts → Type 0) (result : Result A E) (old new : Counts) : Type 0 where
  pub none_fell : NoneFell old new
  pub why : IfErr result (λ e. Why e old new)

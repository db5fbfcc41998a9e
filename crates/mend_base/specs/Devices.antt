-- Why a call of a device failed: its count of faults rose, or memory ran out (this project's own).
use Rattle.std.specs.Prelude.{⊤, ℕ}
use Rattle.base_files.specs.Counters.{Rose}
use Rattle.mend_base.specs.declared.fault.MendError.{MendError}
use Rattle.mend_base.specs.declared.fault.MendError.TheVariants as error

abbrev pub IsOld : ℕ → ℕ → MendError → Type 0
IsOld before after error.OldFailed = Rose before after
IsOld before after error.Memory = ⊤
IsOld before after _ = ⊥

abbrev pub IsNew : ℕ → ℕ → MendError → Type 0
IsNew before after error.NewFailed = Rose before after
IsNew before after error.Memory = ⊤
IsNew before after _ = ⊥

abbrev pub IsReport : ℕ → ℕ → MendError → Type 0
IsReport before after error.ReportFailed = Rose before after
IsReport before after error.Memory = ⊤
IsReport before after _ = ⊥

-- Objects in memory whose faults are planned by the numbers of their calls (this project's own).
use Rattle.std.specs.Prelude.{◌≡◌, ℕ, Bool, false, ◌==◌, List, IsTrue}
use Rattle.std.specs.List.{list_any}
use Rattle.base_files.specs.Counters.{raised}
use Rattle.base_files.specs.declared.faults.DeviceError.{DeviceError}
use Rattle.base_files.specs.declared.faults.DeviceError.TheVariants as device

-- The numbers of the calls that are to fail, how many calls were made, and how many faults were counted.
pub record Calls : Type 0 where
  pub planned : List ℕ
  pub made : ℕ
  pub faults : ℕ

-- The next call is to fail: calls are numbered from 0.
abbrev pub is_planned : Calls → Bool
is_planned calls = list_any (λ number. number == calls.made) calls.planned

-- After a call that counted no fault.
abbrev pub passed : Calls → Calls
passed calls = record calls { made = raised calls.made 1 }

-- After a call that counted a fault.
abbrev pub failed : Calls → Calls
failed calls = record calls { made = raised calls.made 1; faults = raised calls.faults 1 }

-- A call that was answered Ok: it was not to fail, and counted no fault.
pub record Served (old new : Calls) : Type 0 where
  pub unplanned : is_planned old ≡ false
  pub after : new ≡ passed old

-- A call that was answered by a fault: it was to fail, and counted the fault.
pub record FailedAsPlanned (old new : Calls) : Type 0 where
  pub planned : IsTrue (is_planned old)
  pub after : new ≡ failed old

-- A call that was answered by this error: a fault was planned and counted, want of memory counts none.
abbrev pub Refused : DeviceError → Calls → Calls → Type 0
Refused device.Failed old new = FailedAsPlanned old new
Refused device.Memory old new = new ≡ passed old

-- How an item is read while the lines of those before it wait on a page. Only private functions cite this.
use Rattle.std.specs.Prelude.{◌≡◌, ◌≤◌, ◌<◌, ℕ, Bool, true, false, List, length, Option, Some, None}
use Rattle.base_files.specs.Counters.{raised}
use Rattle.base_files.specs.Told.{adds}
use Rattle.base_files.specs.declared.faults.Stop.TheVariants as stop
use Rattle.shell_state.specs.declared.halt.Halt.{Halt}
use Rattle.shell_state.specs.declared.halt.Halt.TheVariants as halt

-- Where the reading of an item begins: what the output has taken and what waits behind it, what the body is read from, and how many faults
-- the body and the output have counted.
pub record Start : Type 0 where
  pub taken : Option (List ℕ)
  pub page : List ℕ
  pub origin : List ℕ
  pub input : ℕ
  pub output : ℕ

abbrev pub start_at : Option (List ℕ) → List ℕ → List ℕ → ℕ → ℕ → Start
start_at taken page origin input output = record { taken = taken; page = page; origin = origin; input = input; output = output }

-- Whether a write may end so.
abbrev pub is_output : Halt → Bool
is_output (halt.Device stop.Write) = true
is_output (halt.Device stop.Memory) = true
is_output _ = false

-- What is known behind it: nothing that waits is lost, no count fell, and if a read was refused the body counted a fault, unless a write
-- ended it first, which has its cause.
pub record Paging (s : Start) (taken : Option (List ℕ)) (page origin : List ℕ) (input output refused : ℕ) (end : Option Halt) : Type 0 where
  pub kept : adds taken page ≡ adds s.taken s.page
  pub shorter : length page ≤ length s.page
  pub same : origin ≡ s.origin
  pub body : s.input ≤ input
  pub sink : s.output ≤ output
  pub failed : end ≡ None → 0 < refused → raised s.input 1 ≤ input
  pub stopped : (e : Halt) → end ≡ Some e → is_output e ≡ true
  pub unwritten : end ≡ Some (halt.Device stop.Write) → raised s.output 1 ≤ output

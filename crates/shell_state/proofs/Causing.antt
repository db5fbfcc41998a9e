-- Laws of causes: a part that has one device alone has the causes of a command that has all.
use Rattle.std.proofs.Common.{inl, inr, arith, ℕ, ◌≡◌, refl, true, false, ◌≤◌, List, Option, Result, Ok, Err}
use Rattle.std.specs.Prelude.{IfErr}
use Rattle.base_files.specs.Counters.{Rose}
use Rattle.base_files.specs.declared.faults.Stop.{Stop}
use Rattle.base_files.specs.declared.faults.Stop.TheVariants as stop
use Rattle.command_runs.specs.Counts.{counts, Why, Causes}
use Rattle.shell_state.specs.Ends.{IsOutput, IsDevice, IsFault, Unsaid}
use Rattle.shell_state.proofs.Unfinishing.{unfinished_late}
use Rattle.shell_state.specs.Stands.{Broken, Unfinished, WhyHalt}
use Rattle.shell_state.specs.State.{State}
use Rattle.shell_state.specs.Work.{Work}
use Rattle.shell_state.specs.declared.halt.Halt.{Halt}
use Rattle.shell_state.specs.declared.halt.Halt.TheVariants as halt

-- No device that is not there has a fault.
none_rose : Rose 0 0 → ⊥
none_rose (inl less) = absurd (omega arith)
none_rose (inr last) = absurd (omega arith)

-- A write is stopped by the output or by memory.
pub output_of : (s : Stop) (a b : ℕ) → Why s (counts 0 0 a) (counts 0 0 b) → IsOutput (halt.Device s)
output_of stop.Read a b why = none_rose why
output_of stop.Write a b why = tt
output_of stop.Files a b why = none_rose why
output_of stop.Memory a b why = tt

-- What breaks off a write may break off any line.
pub broken_by_output : (s : State) (work : Work) (e : Halt) → IsOutput e → (text : List ℕ) (told told' : Option (List ℕ)) → Broken s work e text told told'
broken_by_output s work (halt.Device stop.Write) output text told told' = tt
broken_by_output s work (halt.Device stop.Memory) output text told told' = tt
broken_by_output s work (halt.Device stop.Read) output text told told' = absurd output
broken_by_output s work (halt.Device stop.Files) output text told told' = absurd output
broken_by_output s work (halt.Changed game kept found) output text told told' = absurd output

-- What breaks off a search may break off a line that asks the files, before its text goes out.
pub broken_by_device : (s : State) (work : Work) (e : Halt) → work.files ≡ true → work.early ≡ false → IsDevice e → (text : List ℕ) (told : Option (List ℕ)) → Broken s work e text told told
broken_by_device s work (halt.Device stop.Files) asks late device text told = (asks, unfinished_late work.early text told late)
broken_by_device s work (halt.Device stop.Memory) asks late device text told = tt
broken_by_device s work (halt.Device stop.Write) asks late device text told = absurd device
broken_by_device s work (halt.Device stop.Read) asks late device text told = absurd device
broken_by_device s work (halt.Changed game kept found) asks late device text told = absurd device

-- Where the files are not used, they break nothing off.
pub unsaid_without : {A : Type 0} (r : Result A Halt) (i i' o o' : ℕ) (told told' : Option (List ℕ)) → Causes WhyHalt r (counts 0 i o) (counts 0 i' o') → IfErr r (λ (e : Halt). Unsaid e told told')
unsaid_without (Ok x) i i' o o' told told' c = tt
unsaid_without (Err (halt.Device stop.Files)) i i' o o' told told' c = absurd (none_rose c.why)
unsaid_without (Err (halt.Device stop.Read)) i i' o o' told told' c = λ is. cc
unsaid_without (Err (halt.Device stop.Write)) i i' o o' told told' c = λ is. cc
unsaid_without (Err (halt.Device stop.Memory)) i i' o o' told told' c = λ is. cc
unsaid_without (Err (halt.Changed game kept found)) i i' o o' told told' c = λ is. cc

-- Nor where memory alone runs out.
pub unsaid_memory : {A : Type 0} (r : Result A Halt) (told told' : Option (List ℕ)) → IfErr r (λ (e : Halt). e ≡ halt.Device stop.Memory) → IfErr r (λ (e : Halt). Unsaid e told told')
unsaid_memory (Ok x) told told' memory = tt
unsaid_memory (Err e) told told' memory = λ is. cc

-- The causes of a write, beside files that were not used or that counted no less.
why_write : (e : Halt) (f f' a b : ℕ) → WhyHalt e (counts 0 0 a) (counts 0 0 b) → WhyHalt e (counts f 0 a) (counts f' 0 b)
why_write (halt.Device stop.Read) f f' a b why = why
why_write (halt.Device stop.Write) f f' a b why = why
why_write (halt.Device stop.Files) f f' a b why = absurd (none_rose why)
why_write (halt.Device stop.Memory) f f' a b why = tt
why_write (halt.Changed game kept found) f f' a b why = why

pub causes_write : {A : Type 0} (r : Result A Halt) (f f' a b : ℕ) → f ≤ f' → Causes WhyHalt r (counts 0 0 a) (counts 0 0 b) → Causes WhyHalt r (counts f 0 a) (counts f' 0 b)
causes_write (Ok x) f f' a b kept c =
    record { none_fell = record { files = kept; input = c.none_fell.input; output = c.none_fell.output }; why = tt }
causes_write (Err e) f f' a b kept c =
    record { none_fell = record { files = kept; input = c.none_fell.input; output = c.none_fell.output }; why = why_write e f f' a b c.why }

-- The causes of a search, beside an output that was not used.
why_search : (e : Halt) (f f' a : ℕ) → WhyHalt e (counts f 0 0) (counts f' 0 0) → WhyHalt e (counts f 0 a) (counts f' 0 a)
why_search (halt.Device stop.Read) f f' a why = why
why_search (halt.Device stop.Write) f f' a why = absurd (none_rose why)
why_search (halt.Device stop.Files) f f' a why = why
why_search (halt.Device stop.Memory) f f' a why = tt
why_search (halt.Changed game kept found) f f' a why = why

pub causes_search : {A : Type 0} (r : Result A Halt) (f f' a : ℕ) → Causes WhyHalt r (counts f 0 0) (counts f' 0 0) → Causes WhyHalt r (counts f 0 a) (counts f' 0 a)
causes_search (Ok x) f f' a c =
    record { none_fell = record { files = c.none_fell.files; input = c.none_fell.input; output = omega arith }; why = tt }
causes_search (Err e) f f' a c =
    record { none_fell = record { files = c.none_fell.files; input = c.none_fell.input; output = omega arith }; why = why_search e f f' a c.why }

-- What breaks off a command that writes games may break off a line that asks the files.
pub broken_by_fault : (s : State) (work : Work) (e : Halt) (text : List ℕ) (told told' : Option (List ℕ)) → work.files ≡ true → (e ≡ halt.Device stop.Files → Unfinished work.early text told told') → IsFault e
    → Broken s work e text told told'
broken_by_fault s work (halt.Device stop.Files) text told told' asks part fault = (asks, part refl)
broken_by_fault s work (halt.Device stop.Write) text told told' asks part fault = tt
broken_by_fault s work (halt.Device stop.Memory) text told told' asks part fault = tt
broken_by_fault s work (halt.Device stop.Read) text told told' asks part fault = absurd fault
broken_by_fault s work (halt.Changed game kept found) text told told' asks part fault = absurd fault

-- What breaks off a part of a game's text.
pub fault_of_output : (e : Halt) → IsOutput e → IsFault e
fault_of_output (halt.Device stop.Write) output = tt
fault_of_output (halt.Device stop.Memory) output = tt
fault_of_output (halt.Device stop.Read) output = absurd output
fault_of_output (halt.Device stop.Files) output = absurd output
fault_of_output (halt.Changed game kept found) output = absurd output

pub fault_of_device : (e : Halt) → IsDevice e → IsFault e
fault_of_device (halt.Device stop.Files) device = tt
fault_of_device (halt.Device stop.Memory) device = tt
fault_of_device (halt.Device stop.Write) device = absurd device
fault_of_device (halt.Device stop.Read) device = absurd device
fault_of_device (halt.Changed game kept found) device = absurd device

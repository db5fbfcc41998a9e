-- Laws of what a line owes a state.
use Rattle.std.proofs.Common.{◌≡◌, refl, true, false, ℕ, List, [], Option, Result, Ok, Err, OnOk, ap, ◌∙◌, subst}
use Rattle.std.specs.Prelude.{IfErr}
use Rattle.base_files.specs.Seen.{Seen}
use Rattle.base_files.specs.Told.{adds}
use Rattle.base_files.specs.declared.faults.Stop.TheVariants as stop
use Rattle.command_runs.proofs.Joining.{halted_none}
use Rattle.command_runs.specs.Endings.{Halted, Serves, Cut}
use Rattle.shell_state.proofs.Causing.{broken_by_device, broken_by_output}
use Rattle.shell_state.specs.Ends.{IsBodyFault, IsOutput, IsDevice}
use Rattle.shell_state.proofs.Unfinishing.{unfinished_late}
use Rattle.shell_state.specs.Stands.{Holding, Stands, Broken, Quiet, Unfinished}
use Rattle.shell_state.specs.State.{State}
use Rattle.shell_state.specs.Work.{works, Work}
use Rattle.shell_state.specs.declared.halt.Halt.{Halt}
use Rattle.shell_state.specs.declared.halt.Halt.TheVariants as halt

-- What breaks off a command that has a body.
pub broken_by_body : (s : State) (t : Work) (e : Halt) (text : List ℕ) (told told' : Option (List ℕ)) → t.body ≡ true → t.files ≡ true → (e ≡ halt.Device stop.Files → Unfinished t.early text told told') → IsBodyFault e
    → Broken s t e text told told'
broken_by_body s t (halt.Device stop.Read) text told told' body asks part fault = body
broken_by_body s t (halt.Device stop.Files) text told told' body asks part fault = (asks, part refl)
broken_by_body s t (halt.Device stop.Write) text told told' body asks part fault = tt
broken_by_body s t (halt.Device stop.Memory) text told told' body asks part fault = tt
broken_by_body s t (halt.Changed game kept found) text told told' body asks part fault = absurd fault

-- Nothing was written.
pub task_unwritten : (s : State) (t : Work) (e : Halt) (told : Option (List ℕ)) → t.body ≡ true → t.files ≡ true → t.early ≡ false → IsBodyFault e → Cut (Broken s t e (t.text s) told told) (t.text s) told told
task_unwritten s t e told body asks late fault = record { wrote = halted_none (t.text s) told; broken = broken_by_body s t e (t.text s) told told body asks (λ is. unfinished_late t.early (t.text s) told late) fault }

-- The search was broken off, and nothing was written.
pub search_cuts : (e : Halt) (s : State) (work : Work) (text : List ℕ) (told : Option (List ℕ)) → work.files ≡ true → work.early ≡ false → IsDevice e → Cut (Broken s work e text told told) text told told
search_cuts e s work text told asks late device = record { wrote = halted_none text told; broken = broken_by_device s work e asks late device text told }

-- A fact on success, where it holds anyhow.
pub on_ok : {A E : Type 0} (P : Type 0) (r : Result A E) → P → OnOk r P
on_ok P (Ok x) p = p
on_ok P (Err e) p = tt

-- The state after a line stands, and its text was written or broken off.
pub line_serves : {A : Type 0} (r : Result A Halt) (new : Holding) (work : Work) (line : List ℕ) (seen : Seen) (s : State) (before after : Option (List ℕ))
    → Stands new seen (work.after s) → line ≡ work.text s → OnOk r (after ≡ adds before line) → Halted [] line before after → IfErr r IsOutput
    → Serves works (Stands new seen) Broken s work before after r
line_serves (Ok x) new work line seen s before after st text written halted output =
    record { stands = st; written = written ∙ ap (adds before) text }
line_serves (Err e) new work line seen s before after st text written halted output =
    let P : List ℕ → Type 0 = λ l. Halted [] l before after in
    record { wrote = subst P text halted; broken = broken_by_output s work e output (work.text s) before after }

-- A line that asked no file, and whose text was written or broken off.
pub quiet_serves : {A : Type 0} (r : Result A Halt) (old new : Holding) (work : Work) (line : List ℕ) (seen : Seen) (s : State) (before after : Option (List ℕ))
    → Quiet old work new line → Stands old seen s → OnOk r (after ≡ adds before line) → Halted [] line before after → IfErr r IsOutput
    → Serves works (Stands new seen) Broken s work before after r
quiet_serves r old new work line seen s before after q st written halted output =
    line_serves r new work line seen s before after (q.stands seen s st) (q.text seen s st) written halted output

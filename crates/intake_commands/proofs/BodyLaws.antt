-- Laws of commands that have a body: what they owe a state, and what breaks them off.
use Rattle.std.proofs.Common.{◌≡◌, ℕ, true, append_assoc, sym, ap, ◌∙◌, List, [], ◌++◌, Option, Result, Err, subst, refl}
use Rattle.std.specs.Global.{Vec}
use Rattle.base_files.specs.Seen.{Seen}
use Rattle.base_files.specs.declared.faults.Stop.TheVariants as stop
use Rattle.command_runs.proofs.Joining.{halted_all, halted_more, halted_unsure}
use Rattle.command_runs.specs.Endings.{Done, Halted, Cut}
use Rattle.command_runs.specs.Plain.{after_all, run}
use Rattle.command_runs.proofs.Running.{run-append}
use Rattle.pgn_read.specs.Items.{items_of}
use Rattle.pgn_read.specs.declared.item.Item.{Item}
use Rattle.intake_commands.specs.Breaking.{TakesFirst, TookFirst}
use Rattle.intake_commands.specs.Importing.{Intake, imported_line, intake, none_taken, taken_in, import_text, import_work}
use Rattle.intake_commands.proofs.ByCase.{import_after}
use Rattle.intake_commands.specs.Intakes.{IsIntake}
use Rattle.intake_commands.specs.LastLine.{DoneBut, ServesBut}
use Rattle.shell_state.proofs.Served.{broken_by_body}
use Rattle.shell_state.proofs.Unfinishing.{some_behind, unfinished_at}
use Rattle.shell_state.specs.Ends.{IsBodyFault}
use Rattle.shell_state.specs.Stands.{Holding, Stands, Broken, Unfinished}
use Rattle.shell_state.specs.State.{State}
use Rattle.shell_state.specs.Work.{works}
use Rattle.shell_state.specs.declared.halt.Halt.{Halt}
use Rattle.shell_state.specs.declared.halt.Halt.TheVariants as halt

-- Its last line is that of the items.
last_line : (holding : Holding) (seen : Seen) (i : Intake) (added refused : ℕ) → IsIntake holding seen added refused i → imported_line added refused ≡ imported_line i.added i.refused
last_line holding seen i added refused is =
    ap (λ (n : ℕ). imported_line n refused) (sym is.added) ∙ ap (λ (n : ℕ). imported_line i.added n) (sym is.refused)

last_has_byte : (s : State) (text : List ℕ) → imported_line (taken_in s text).added (taken_in s text).refused ≡ [] → ⊥
last_has_byte s text none = absurd cc

-- All items were taken in, and the line is made.
pub import_done : (holding : Holding) (seen : Seen) (s : State) (text line : List ℕ) (added refused : ℕ) (told told' : Option (List ℕ))
    → Done (IsIntake holding seen added refused) (after_all intake (none_taken s) (items_of text)) (run intake (none_taken s) (items_of text)) told told'
    → line ≡ imported_line added refused → DoneBut (Stands holding seen) (import_after s text) (import_text s text) line told told'
import_done holding seen s text line added refused told told' done is =
    let front : List ℕ = run intake (none_taken s) (items_of text) in
    record {
      stands = done.stands.stands;
      front = front;
      written = done.written;
      all = ap (λ (l : List ℕ). front ++ l) (is ∙ last_line holding seen (taken_in s text) added refused done.stands);
    }

-- Memory ran out behind the items.
pub import_short : (holding : Holding) (seen : Seen) (s : State) (text : List ℕ) (added refused : ℕ) (told told' : Option (List ℕ)) (e : Halt)
    → Done (IsIntake holding seen added refused) (after_all intake (none_taken s) (items_of text)) (run intake (none_taken s) (items_of text)) told told' → IsBodyFault e
    → Cut (Broken s (import_work text) e (import_text s text) told told') (import_text s text) told told'
import_short holding seen s text added refused told told' e done fault =
    let front : List ℕ = run intake (none_taken s) (items_of text) in
    let last : List ℕ = imported_line (taken_in s text).added (taken_in s text).refused in
    record {
      wrote = halted_more [] front last told told' (halted_unsure front front told told' (halted_all front told told' done.written));
      broken = broken_by_body s (import_work text) e (import_text s text) told told' refl refl (λ files. unfinished_at front last told told' done.written (last_has_byte s text)) fault;
    }

pub import_memory : (r : Result (Vec ℕ) Halt) (holding : Holding) (seen : Seen) (s : State) (text : List ℕ) (added refused : ℕ) (told told' : Option (List ℕ)) → r ≡ Err (halt.Device stop.Memory)
    → Done (IsIntake holding seen added refused) (after_all intake (none_taken s) (items_of text)) (run intake (none_taken s) (items_of text)) told told'
    → ServesBut works (Stands holding seen) Broken s (import_work text) told told' r
import_memory r holding seen s text added refused told told' is done =
    let P : Result (Vec ℕ) Halt → Type 0 = λ x. ServesBut works (Stands holding seen) Broken s (import_work text) told told' x in
    subst P (sym is) (import_short holding seen s text added refused told told' (halt.Device stop.Memory) done tt)

-- It was broken off among them.
first_unfinished : (holding : Holding) (s : State) (text : List ℕ) (told told' : Option (List ℕ)) → TookFirst holding s (items_of text) told told' → Unfinished true (import_text s text) told told'
first_unfinished holding s text told told' first =
    let front : List ℕ = run intake (none_taken s) first.done in
    let more : List ℕ = run intake (after_all intake (none_taken s) first.done) first.left in
    let last : List ℕ = imported_line (taken_in s text).added (taken_in s text).refused in
    let all : import_text s text ≡ front ++ (more ++ last) =
    ap (λ (items : List Item). run intake (none_taken s) items ++ last) first.all ∙ ap (λ (l : List ℕ). l ++ last) (run-append intake (none_taken s) first.done first.left)
    ∙ append_assoc front more last in
    let P : List ℕ → Type 0 = λ l. Unfinished true l told told' in
    subst P (sym all) (unfinished_at front (more ++ last) told told' first.written (some_behind more last (last_has_byte s text)))

pub import_cut : (holding : Holding) (s : State) (text : List ℕ) (told told' : Option (List ℕ)) (e : Halt) → Halted [] (run intake (none_taken s) (items_of text)) told told' → IsBodyFault e
    → TakesFirst holding s (items_of text) told told' e
    → Cut (Broken s (import_work text) e (import_text s text) told told') (import_text s text) told told'
import_cut holding s text told told' e halted fault first = record {
  wrote = halted_more [] (run intake (none_taken s) (items_of text)) (imported_line (taken_in s text).added (taken_in s text).refused) told told' halted;
  broken = broken_by_body s (import_work text) e (import_text s text) told told' refl refl
      (λ files. let P : Halt → Type 0 = λ h. TakesFirst holding s (items_of text) told told' h in first_unfinished holding s text told told' (subst P files first)) fault;
}

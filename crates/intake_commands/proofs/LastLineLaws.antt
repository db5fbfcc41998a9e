-- Laws of a last line that the caller of a command writes: what the caller owes the state then.
use Rattle.std.proofs.Common.{◌≡◌, ℕ, List, [], ◌++◌, Option, Result, Ok, Err, OnOk, sym, subst, ap, ◌∙◌}
use Rattle.std.specs.Prelude.{IfErr}
use Rattle.base_files.specs.Told.{adds}
use Rattle.base_files.specs.declared.faults.Stop.TheVariants as stop
use Rattle.command_runs.proofs.Joining.{halted_after, halted_all, halted_more, halted_unsure, written_after}
use Rattle.command_runs.specs.Endings.{Cut, Done, Halted, Serves}
use Rattle.intake_commands.specs.LastLine.{DoneBut}
use Rattle.shell_state.proofs.Causing.{broken_by_output}
use Rattle.shell_state.specs.Ends.{IsOutput}
use Rattle.shell_state.specs.Stands.{Broken}
use Rattle.shell_state.specs.State.{State}
use Rattle.shell_state.specs.Work.{Work, works}
use Rattle.shell_state.specs.declared.halt.Halt.{Halt}
use Rattle.shell_state.specs.declared.halt.Halt.TheVariants as halt

-- The line was written, and the state stands still, perhaps in another way.
last_written : (Stands Later : State → Type 0) (state : State) (text line : List ℕ) (told told' told'' : Option (List ℕ)) → DoneBut Stands state text line told told' → Later state → told'' ≡ adds told' line
    → Done Later state text told told''
last_written Stands Later state text line told told' told'' but stands written = record {
  stands = stands;
  written = written_after but.front line told told' told'' but.written written ∙ ap (adds told) but.all;
}

-- A front part of it was.
last_halted : (Stands : State → Type 0) (state : State) (text line : List ℕ) (told told' told'' : Option (List ℕ)) → DoneBut Stands state text line told told' → Halted [] line told' told'' → Halted [] text told told''
last_halted Stands state text line told told' told'' but halted =
    let P : List ℕ → Type 0 = λ l. Halted [] l told told'' in
    subst P but.all (halted_unsure (but.front ++ []) (but.front ++ line) told told'' (halted_after but.front [] line told told' told'' but.written halted))

-- Nothing of it was.
none_halted : (Stands : State → Type 0) (state : State) (text line : List ℕ) (told told' told'' : Option (List ℕ)) → DoneBut Stands state text line told told' → told'' ≡ told' → Halted [] text told told''
none_halted Stands state text line told told' told'' but same =
    let P : List ℕ → Type 0 = λ l. Halted [] l told told'' in
    subst P but.all (halted_more [] but.front line told told'' (halted_unsure but.front but.front told told'' (halted_all but.front told told'' (same ∙ but.written))))

-- The caller broke off in the line, by the output or by memory.
pub line_cut : (Stands : State → Type 0) (s : State) (work : Work) (line given : List ℕ) (told told' told'' : Option (List ℕ)) (e : Halt)
    → DoneBut Stands (work.after s) (work.text s) line told told' → given ≡ line → Halted [] given told' told'' → IsOutput e → Cut (Broken s work e (work.text s) told told'') (work.text s) told told''
line_cut Stands s work line given told told' told'' e but same halted output =
    let P : List ℕ → Type 0 = λ l. Halted [] l told' told'' in
    record { wrote = last_halted Stands (work.after s) (work.text s) line told told' told'' but (subst P same halted); broken = broken_by_output s work e output (work.text s) told told'' }

-- It wrote the line, or broke off in it.
pub line_served : {A : Type 0} (r : Result A Halt) (Stands Later : State → Type 0) (s : State) (work : Work) (line given : List ℕ) (told told' told'' : Option (List ℕ))
    → DoneBut Stands (work.after s) (work.text s) line told told' → given ≡ line → Later (work.after s) → OnOk r (told'' ≡ adds told' given) → Halted [] given told' told'' → IfErr r IsOutput
    → Serves works Later Broken s work told told'' r
line_served (Ok x) Stands Later s work line given told told' told'' but same stands written halted output =
    last_written Stands Later (work.after s) (work.text s) line told told' told'' but stands (written ∙ ap (adds told') same)
line_served (Err e) Stands Later s work line given told told' told'' but same stands written halted output =
    line_cut Stands s work line given told told' told'' e but same halted output

-- It ended early before the line, of which nothing was written.
pub line_unwritten : (Stands : State → Type 0) (s : State) (work : Work) (line : List ℕ) (told told' told'' : Option (List ℕ)) (e : Halt)
    → DoneBut Stands (work.after s) (work.text s) line told told' → told'' ≡ told' → IsOutput e → Cut (Broken s work e (work.text s) told told'') (work.text s) told told''
line_unwritten Stands s work line told told' told'' e but same output =
    record { wrote = none_halted Stands (work.after s) (work.text s) line told told' told'' but same; broken = broken_by_output s work e output (work.text s) told told'' }

pub line_short : {A : Type 0} (r : Result A Halt) (Stands Later : State → Type 0) (s : State) (work : Work) (line : List ℕ) (told told' told'' : Option (List ℕ)) → r ≡ Err (halt.Device stop.Memory)
    → DoneBut Stands (work.after s) (work.text s) line told told' → told'' ≡ told' → Serves works Later Broken s work told told'' r
line_short {A} r Stands Later s work line told told' told'' is but same =
    let P : Result A Halt → Type 0 = λ x. Serves works Later Broken s work told told'' x in
    subst P (sym is) (line_unwritten Stands s work line told told' told'' (halt.Device stop.Memory) but same tt)

-- Laws of what a command owes a state whose text is written at once, or whose views are shown before its text or behind it.
use Rattle.std.proofs.Common.{◌≡◌, ℕ, true, false, List, [], Option, Result, Ok, Err, IfOk, OnOk, sym, true≢false, ap, ◌∙◌, subst}
use Rattle.std.specs.Global.{Vec}
use Rattle.std.specs.Prelude.{IfErr}
use Rattle.base_files.proofs.Telling.{adds-nil}
use Rattle.base_files.specs.Seen.{Seen}
use Rattle.base_files.specs.Told.{adds}
use Rattle.base_files.specs.declared.faults.Stop.TheVariants as stop
use Rattle.cell_core.specs.Board.{Men}
use Rattle.cell_core.specs.declared.man.Colour.{Colour}
use Rattle.command_runs.proofs.Joining.{halted_all, halted_none, halted_unsure}
use Rattle.command_runs.specs.Endings.{Done, Halted, Serves}
use Rattle.intake_commands.proofs.LastLineLaws.{line_served}
use Rattle.intake_commands.specs.LastLine.{DoneBut, ServesBut}
use Rattle.search_commands.specs.Searching.{find_work, hits_work}
use Rattle.shell_commands.specs.Saying.{Said}
use Rattle.shell_state.proofs.Causing.{broken_by_device, broken_by_output}
use Rattle.shell_state.proofs.Served.{broken_by_body, line_serves}
use Rattle.shell_state.proofs.Unfinishing.{unfinished_late}
use Rattle.shell_state.specs.Ends.{IsBodyFault, IsDevice, IsOutput}
use Rattle.shell_state.specs.Stands.{Broken, Holding, Quiet, Sound, Stands}
use Rattle.shell_state.specs.State.{State}
use Rattle.shell_state.specs.Work.{Work, works}
use Rattle.shell_state.specs.declared.halt.Halt.TheVariants as halt
use Rattle.shell_state.specs.declared.halt.Halt.{Halt}

-- ---- texts behind what is shown

pub shown_serves : {A : Type 0} (r : Result A Halt) (new new' : Holding) (work : Work) (line : List ℕ) (seen : Seen) (s : State) (before after : Option (List ℕ)) → OnOk r (new' ≡ new)
    → Stands new seen (work.after s) → line ≡ work.text s → OnOk r (after ≡ adds before line) → Halted [] line before after → IfErr r IsOutput → Serves works (Stands new' seen) Broken s work before after r
shown_serves {A} (Ok x) new new' work line seen s before after same st text written halted output =
    let P : Holding → Type 0 = λ h. Stands h seen (work.after s) in
    line_serves {A = A} (Ok x) new' work line seen s before after (subst P (sym same) st) text written halted output
shown_serves {A} (Err e) new new' work line seen s before after same st text written halted output =
    line_serves {A = A} (Err e) new work line seen s before after st text written halted output

pub shown_import : {A : Type 0} (r : Result A Halt) (new new' : Holding) (work : Work) (line given : List ℕ) (seen : Seen) (s : State) (told told' told'' : Option (List ℕ)) → OnOk r (new' ≡ new)
    → DoneBut (Stands new seen) (work.after s) (work.text s) line told told' → given ≡ line → OnOk r (told'' ≡ adds told' given) → Halted [] given told' told'' → IfErr r IsOutput
    → Serves works (Stands new' seen) Broken s work told told'' r
shown_import {A} (Ok x) new new' work line given seen s told told' told'' same but is written halted output =
    let P : Holding → Type 0 = λ h. Stands h seen (work.after s) in
    line_served {A = A} (Ok x) (Stands new seen) (Stands new' seen) s work line given told told' told'' but is (subst P (sym same) but.stands) written halted output
shown_import {A} (Err e) new new' work line given seen s told told' told'' same but is written halted output =
    line_served {A = A} (Err e) (Stands new seen) (Stands new seen) s work line given told told' told'' but is but.stands written halted output

pub quiet_sound : (old new : Holding) (work : Work) (line : List ℕ) (seen : Seen) → Quiet old work new line → Sound old seen → Sound new seen
quiet_sound old new work line seen quiet sound =
    record { fits = quiet.fits; tables = quiet.tables sound.tables; base = quiet.base sound.base; at_end = rw quiet.end sound.at_end }

pub shown_sound : {A : Type 0} (r : Result A Halt) (old new new' : Holding) (work : Work) (line : List ℕ) (seen : Seen) → OnOk r (new' ≡ new) → Quiet old work new line → Sound old seen → OnOk r (Sound new' seen)
shown_sound (Ok x) old new new' work line seen same quiet sound = subst (λ (h : Holding). Sound h seen) (sym same) (quiet_sound old new work line seen quiet sound)
shown_sound (Err e) old new new' work line seen same quiet sound = tt

-- What is shown behind a text.
pub shown_behind : {A : Type 0} (r : Result A Halt) (new new' : Holding) (work : Work) (seen : Seen) (s : State) (told told' : Option (List ℕ)) → OnOk r (new' ≡ new) → IfErr r (λ e. e ≡ halt.Device stop.Memory)
    → Done (Stands new seen) (work.after s) (work.text s) told told' → Serves works (Stands new' seen) Broken s work told told' r
shown_behind (Ok x) new new' work seen s told told' same memory done =
    let P : Holding → Type 0 = λ h. Stands h seen (work.after s) in
    record { stands = subst P (sym same) done.stands; written = done.written }
shown_behind (Err e) new new' work seen s told told' same memory done =
    let P : Halt → Type 0 = λ h. Broken s work h (work.text s) told told' in
    record { wrote = halted_unsure (work.text s) (work.text s) told told' (halted_all (work.text s) told told' done.written); broken = subst P (sym memory) tt }

-- The games that `find` left in.
pub found_serves : {A : Type 0} (r : Result A Halt) (holding : Holding) (seen : Seen) (s : State) (board : Men) (side : Colour) (told told' : Option (List ℕ))
    → Serves works (Stands holding seen) Broken ((find_work board side).after s) hits_work told told' r → Serves works (Stands holding seen) Broken s (find_work board side) told told' r
found_serves (Ok x) holding seen s board side told told' done = record { stands = done.stands; written = done.written }
found_serves (Err (halt.Device stop.Write)) holding seen s board side told told' cut = record { wrote = cut.wrote; broken = tt }
found_serves (Err (halt.Device stop.Memory)) holding seen s board side told told' cut = record { wrote = cut.wrote; broken = tt }
found_serves (Err (halt.Device stop.Read)) holding seen s board side told told' cut = absurd (true≢false (sym cut.broken))
found_serves (Err (halt.Device stop.Files)) holding seen s board side told told' cut = absurd (true≢false (sym cut.broken.0))
found_serves (Err (halt.Changed game kept found)) holding seen s board side told told' cut = absurd cut.broken

-- ---- lines that were written, or are not there for want of memory

pub said_serves : {A E : Type 0} (answer : Result (Vec ℕ) E) (r : Result A Halt) (new : Holding) (work : Work) (seen : Seen) (s : State) (told told' : Option (List ℕ)) → IfOk answer (λ line. line.items ≡ work.text s)
    → OnOk answer (Stands new seen (work.after s)) → Said answer r told told' → Serves works (Stands new seen) Broken s work told told' r
said_serves (Ok line) (Ok x) new work seen s told told' text stands said = record { stands = stands; written = said ∙ ap (adds told) text }
said_serves (Ok line) (Err e) new work seen s told told' text stands said =
    let P : List ℕ → Type 0 = λ l. Halted [] l told told' in
    record { wrote = subst P text said.0; broken = broken_by_output s work e said.1 (work.text s) told told' }
said_serves (Err none) (Ok x) new work seen s told told' text stands said = absurd said
said_serves (Err none) (Err e) new work seen s told told' text stands said =
    let P : Option (List ℕ) → Type 0 = λ t. Halted [] (work.text s) told t in
    record { wrote = subst P (sym said.0) (halted_none (work.text s) told); broken = broken_by_output s work e said.1 (work.text s) told told' }

pub said_ok : {A E : Type 0} (P : Type 0) (answer : Result (Vec ℕ) E) (r : Result A Halt) (told told' : Option (List ℕ)) → Said answer r told told' → OnOk answer P → OnOk r P
said_ok P (Ok line) (Ok x) told told' said p = p
said_ok P (Err none) (Ok x) told told' said p = absurd said
said_ok P (Ok line) (Err e) told told' said p = tt
said_ok P (Err none) (Err e) told told' said p = tt

-- ---- what breaks off an edit

pub edit_broken : {A : Type 0} (r : Result A Halt) (s : State) (work : Work) → work.files ≡ true → work.early ≡ false → IfErr r IsDevice → IfErr r (λ e. (line : List ℕ) (told : Option (List ℕ)) → Broken s work e line told told)
edit_broken (Ok x) s work files late device = tt
edit_broken (Err e) s work files late device = broken_by_device s work e files late device

pub body_broken : {A : Type 0} (r : Result A Halt) (s : State) (work : Work) → work.body ≡ true → work.files ≡ true → work.early ≡ false → IfErr r IsBodyFault
    → IfErr r (λ e. (line : List ℕ) (told : Option (List ℕ)) → Broken s work e line told told)
body_broken (Ok x) s work body files late fault = tt
body_broken (Err e) s work body files late fault = λ line told. broken_by_body s work e line told told body files (λ is. unfinished_late work.early line told late) fault

-- An edit that gave its line.
pub line_but : (r : Result (Vec ℕ) Halt) (new : Holding) (work : Work) (seen : Seen) (s : State) (told : Option (List ℕ)) → IfOk r (λ line. line.items ≡ work.text s) → OnOk r (Stands new seen (work.after s))
    → IfErr r (λ e. (line : List ℕ) (told : Option (List ℕ)) → Broken s work e line told told) → ServesBut works (Stands new seen) Broken s work told told r
line_but (Ok line) new work seen s told text stands broken = record { stands = stands; front = []; written = sym (adds-nil told); all = text }
line_but (Err e) new work seen s told text stands broken = record { wrote = halted_none (work.text s) told; broken = broken (work.text s) told }

-- ---- lines of commands that use no file

pub said_by : {A E : Type 0} (answer : Result (Vec ℕ) E) (r : Result A Halt) (line : Vec ℕ) (told told' : Option (List ℕ)) → answer ≡ Ok line → OnOk r (told' ≡ adds told line.items) → Halted [] line.items told told' → IfErr r IsOutput
    → Said answer r told told'
said_by {A} {E} answer (Ok x) line told told' is written halted output = subst (λ (a : Result (Vec ℕ) E). Said {A = A} {E = E} a (Ok x) told told') (sym is) written
said_by {A} {E} answer (Err e) line told told' is written halted output = subst (λ (a : Result (Vec ℕ) E). Said {A = A} {E = E} a (Err e) told told') (sym is) (halted, output)

pub quiet_said : {A E : Type 0} (answer : Result (Vec ℕ) E) (r : Result A Halt) (old new : Holding) (work : Work) (seen : Seen) (s : State) (told told' : Option (List ℕ))
    → IfOk answer (λ line. Quiet old work new line.items) → Said answer r told told' → Stands old seen s → Serves works (Stands new seen) Broken s work told told' r
quiet_said (Ok line) (Ok x) old new work seen s told told' quiet said st =
    record { stands = quiet.stands seen s st; written = said ∙ ap (adds told) (quiet.text seen s st) }
quiet_said (Ok line) (Err e) old new work seen s told told' quiet said st =
    let P : List ℕ → Type 0 = λ l. Halted [] l told told' in
    record { wrote = subst P (quiet.text seen s st) said.0; broken = broken_by_output s work e said.1 (work.text s) told told' }
quiet_said (Err none) (Ok x) old new work seen s told told' quiet said st = absurd said
quiet_said (Err none) (Err e) old new work seen s told told' quiet said st =
    let P : Option (List ℕ) → Type 0 = λ t. Halted [] (work.text s) told t in
    record { wrote = subst P (sym said.0) (halted_none (work.text s) told); broken = broken_by_output s work e said.1 (work.text s) told told' }

pub quiet_said_sound : {A E : Type 0} (answer : Result (Vec ℕ) E) (r : Result A Halt) (old new : Holding) (work : Work) (seen : Seen) (told told' : Option (List ℕ)) → IfOk answer (λ line. Quiet old work new line.items) → Said answer r told told' → Sound old seen
    → OnOk r (Sound new seen)
quiet_said_sound (Ok line) (Ok x) old new work seen told told' quiet said sound = quiet_sound old new work line.items seen quiet sound
quiet_said_sound (Err none) (Ok x) old new work seen told told' quiet said sound = absurd said
quiet_said_sound answer (Err e) old new work seen told told' quiet said sound = tt

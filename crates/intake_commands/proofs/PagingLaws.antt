-- Laws of items that are read while lines wait on a page.
use Rattle.std.proofs.Common.{◌≡◌, ◌≤◌, ◌<◌, ◌⊎◌, inl, inr, ℕ, ◌+◌, true, List, [], ◌++◌, length, take, drop, Option, None, Some, Result, Ok, Err, refl, sym, ap, ◌∙◌, subst, arith, length-append}
use Rattle.std.proofs.Math.Seq.{take-append_seam}
use Rattle.std.proofs.lemmas.Bool.{cases_lt}
use Rattle.std.proofs.lemmas.List.{take-append-drop, take-append-le}
use Rattle.base_files.proofs.Telling.{adds-append, adds-nil, Grew-adds, Grew-refl, Grew-trans}
use Rattle.base_files.specs.Counters.{LAST, Rose, raised}
use Rattle.base_files.specs.Seen.{Seen}
use Rattle.base_files.specs.Told.{adds, Grew}
use Rattle.base_files.specs.declared.faults.Stop.TheVariants as stop
use Rattle.command_runs.proofs.Joining.{halted_all, halted_by, halted_unsure, none_lost_by}
use Rattle.command_runs.specs.Counts.{Causes, counts}
use Rattle.command_runs.specs.Endings.{Halted, NoneLost}
use Rattle.command_runs.specs.Plain.{run}
use Rattle.pgn_read.specs.declared.item.Item.{Item}
use Rattle.intake_commands.specs.Breaking.{TakesFirst}
use Rattle.intake_commands.specs.Importing.{intake, none_taken}
use Rattle.intake_commands.specs.Intakes.{TakesIn}
use Rattle.intake_commands.specs.Paging.{Paging, Start, is_output, start_at}
use Rattle.shell_state.specs.Ends.{IsBodyFault, IsOutput}
use Rattle.shell_state.specs.Stands.{Holding, WhyHalt}
use Rattle.shell_state.specs.State.{State}
use Rattle.shell_state.specs.declared.halt.Halt.{Halt}
use Rattle.shell_state.specs.declared.halt.Halt.TheVariants as halt

-- ---- what the output has taken

-- Where less waits than before, more was taken.
taken_on : (old new page page' : List ℕ) → new ++ page' ≡ old ++ page → length page' ≤ length page → new ≡ old ++ drop (length old) new
taken_on old new page page' kept shorter =
    let long : length old ≤ length new = omega (arith, ap (λ (l : List ℕ). length l) kept, length-append new page', length-append old page, shorter) in
    let front : take (length old) new ≡ old = sym (take-append-le (length old) new page' long) ∙ ap (take (length old)) kept ∙ take-append_seam old page in
    sym (take-append-drop (length old) new) ∙ ap (λ (l : List ℕ). l ++ drop (length old) new) front

grew_on : (told told' : Option (List ℕ)) (page page' : List ℕ) → adds told' page' ≡ adds told page → length page' ≤ length page → Grew told told'
grew_on None None page page' kept shorter = tt
grew_on None (Some new) page page' kept shorter = absurd (cc)
grew_on (Some old) None page page' kept shorter = absurd (cc)
grew_on (Some old) (Some new) page page' kept shorter =
    let same : new ++ page' ≡ old ++ page = cc in
    (drop (length old) new, taken_on old new page page' same shorter)

pub paging_none_lost : (s : Start) (told0 told : Option (List ℕ)) (page0 origin0 page origin : List ℕ) (input0 output0 input output refused : ℕ) (end : Option Halt)
    → s ≡ start_at told0 page0 origin0 input0 output0 → Paging s told page origin input output refused end → NoneLost told0 told
paging_none_lost s told0 told page0 origin0 page origin input0 output0 input output refused end begins p =
    let P : Option (List ℕ) → Type 0 = λ t. NoneLost t told in
    subst P (ap (λ (x : Start). x.taken) begins) (none_lost_by s.taken told (grew_on s.taken told s.page page p.kept p.shorter))

-- ---- how a write ended it

pub output_is : (e : Halt) → IsOutput e → is_output e ≡ true
output_is (halt.Device stop.Write) output = refl
output_is (halt.Device stop.Memory) output = refl
output_is (halt.Device stop.Read) output = absurd output
output_is (halt.Device stop.Files) output = absurd output
output_is (halt.Changed game kept found) output = absurd output

body_stopped : (e : Halt) → is_output e ≡ true → IsBodyFault e
body_stopped (halt.Device s) is = tt
body_stopped (halt.Changed game kept found) is = absurd (cc)

pub paging_fault : (s : Start) (told : Option (List ℕ)) (page origin : List ℕ) (input output refused : ℕ) (end : Option Halt) (e : Halt)
    → Paging s told page origin input output refused end → end ≡ Some e → IsBodyFault e
paging_fault s told page origin input output refused end e p is = body_stopped e (p.stopped e is)

rose_by : (a b : ℕ) → raised a 1 ≤ b → (a < LAST) ⊎ (LAST ≤ a) → Rose a b
rose_by a b raised (inl less) = inl (omega (arith, raised, less))
rose_by a b raised (inr last) = inr (omega (arith, raised, last))

why_stopped : (e : Halt) (input0 output0 input output : ℕ) → is_output e ≡ true → (e ≡ halt.Device stop.Write → raised output0 1 ≤ output) → WhyHalt e (counts 0 input0 output0) (counts 0 input output)
why_stopped (halt.Device stop.Write) input0 output0 input output is rose = rose_by output0 output (rose refl) (cases_lt output0 LAST)
why_stopped (halt.Device stop.Memory) input0 output0 input output is rose = tt
why_stopped (halt.Device stop.Read) input0 output0 input output is rose = absurd (cc)
why_stopped (halt.Device stop.Files) input0 output0 input output is rose = absurd (cc)
why_stopped (halt.Changed game kept found) input0 output0 input output is rose = absurd (cc)

pub paging_causes : {A : Type 0} (s : Start) (told0 told : Option (List ℕ)) (page0 origin0 page origin : List ℕ) (input0 output0 input output refused : ℕ) (end : Option Halt) (e : Halt)
    → s ≡ start_at told0 page0 origin0 input0 output0 → Paging s told page origin input output refused end → end ≡ Some e
    → Causes {A = A} WhyHalt (Err e) (counts 0 input0 output0) (counts 0 input output)
paging_causes s told0 told page0 origin0 page origin input0 output0 input output refused end e begins p is =
    let input_is : s.input ≡ input0 = ap (λ (x : Start). x.input) begins in
    let output_is : s.output ≡ output0 = ap (λ (x : Start). x.output) begins in
    record {
      none_fell = record { files = omega arith; input = omega (arith, input_is, p.body); output = omega (arith, output_is, p.sink) };
      why = why_stopped e input0 output0 input output (p.stopped e is) (λ write. subst (λ (n : ℕ). raised n 1 ≤ output) output_is (p.unwritten (is ∙ ap (λ (h : Halt). Some h) write)));
    }

-- ---- a line on the page

-- It was put behind what waits, and then what filled the page was written, or a part of it.
pub line_put : (told told' : Option (List ℕ)) (page line whole page' : List ℕ) → whole ≡ page ++ line → adds told' page' ≡ adds told whole → adds told' page' ≡ adds (adds told page) line
line_put told told' page line whole page' put kept = kept ∙ ap (adds told) put ∙ adds-append told page line

pub line_halted : (told told' : Option (List ℕ)) (page line whole page' : List ℕ) → whole ≡ page ++ line → adds told' page' ≡ adds told whole → Halted [] line (adds told page) (adds told' page')
line_halted told told' page line whole page' put kept =
    halted_unsure line line (adds told page) (adds told' page') (halted_all line (adds told page) (adds told' page') (line_put told told' page line whole page' put kept))

-- ---- the page at the end

-- No more than the lines was written.
lines_within : (r : Result (ℕ × ℕ) Halt) (holding : Holding) (seen : Seen) (s : State) (items : List Item) (told waits : Option (List ℕ)) → TakesIn holding seen s items told waits r
    → Grew waits (adds told (run intake (none_taken s) items))
lines_within (Ok given) holding seen s items told waits takes = let P : Option (List ℕ) → Type 0 = λ t. Grew waits t in subst P takes.written (Grew-refl waits)
lines_within (Err e) holding seen s items told waits takes = takes.0.no_more

-- The page was written behind what was taken.
pub page_written : (r : Result (ℕ × ℕ) Halt) (holding : Holding) (seen : Seen) (s : State) (items : List Item) (told told' waits : Option (List ℕ)) (page page' : List ℕ) → page ≡ [] → TakesIn holding seen s items (adds told page) waits r
    → adds told' page' ≡ waits → page' ≡ [] → TakesIn holding seen s items told told' r
page_written r holding seen s items told told' waits page page' none takes kept empty =
    let first : adds told page ≡ told = ap (adds told) none ∙ adds-nil told in
    let last : waits ≡ told' = sym kept ∙ ap (adds told') empty ∙ adds-nil told' in
    let P : Option (List ℕ) → Type 0 = λ t. TakesIn holding seen s items t waits r in
    let Q : Option (List ℕ) → Type 0 = λ t. TakesIn holding seen s items told t r in
    subst Q last (subst P first takes)

body_output : (e : Halt) → IsOutput e → IsBodyFault e
body_output (halt.Device s) output = tt
body_output (halt.Changed game kept found) output = absurd output

first_output : (e : Halt) (holding : Holding) (s : State) (items : List Item) (told told' : Option (List ℕ)) → IsOutput e → TakesFirst holding s items told told' e
first_output (halt.Device stop.Write) holding s items told told' output = tt
first_output (halt.Device stop.Memory) holding s items told told' output = tt
first_output (halt.Device stop.Read) holding s items told told' output = absurd output
first_output (halt.Device stop.Files) holding s items told told' output = absurd output
first_output (halt.Changed game kept found) holding s items told told' output = absurd output

-- The page was not, or in part.
pub page_unwritten : (r : Result (ℕ × ℕ) Halt) (e : Halt) (holding : Holding) (seen : Seen) (s : State) (items : List Item) (told told' waits : Option (List ℕ)) (page page' : List ℕ) → page ≡ [] → TakesIn holding seen s items (adds told page) waits r
    → adds told' page' ≡ waits → NoneLost told told' → IsOutput e → TakesIn holding seen s items told told' (Err e)
page_unwritten r e holding seen s items told told' waits page page' none takes kept lost output =
    let lines : List ℕ = run intake (none_taken s) items in
    let first : adds told page ≡ told = ap (adds told) none ∙ adds-nil told in
    let P : Option (List ℕ) → Type 0 = λ t. TakesIn holding seen s items t waits r in
    let Q : Option (List ℕ) → Type 0 = λ t. Grew told' t in
    let within : Grew told' (adds told lines) =
    Grew-trans told' waits (adds told lines) (subst Q kept (Grew-adds told' page')) (lines_within r holding seen s items told waits (subst P first takes)) in
    (halted_by lines told told' (lost told (Grew-refl told)) within, body_output e output, first_output e holding s items told told' output)

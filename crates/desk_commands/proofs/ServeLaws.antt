-- What a task owes, whether it was done or broken off.
use Rattle.std.proofs.Common.{◌≡◌, ◌≤◌, ℕ, List, [], Option, Some, None, Result, Ok, Err, OnOk, sym, subst, arith, inl, inr}
use Rattle.std.specs.Prelude.{IfErr, IfSome}
use Rattle.base_core.specs.Base.{Base}
use Rattle.base_files.proofs.Rising.{Rose-after}
use Rattle.base_files.specs.Counters.{Rose}
use Rattle.base_files.specs.Seen.{Seen}
use Rattle.base_files.specs.Told.{adds}
use Rattle.base_files.specs.declared.faults.Stop.{Stop}
use Rattle.base_files.specs.declared.faults.Stop.TheVariants as stop
use Rattle.command_runs.proofs.Joining.{halted_all, halted_unsure}
use Rattle.command_runs.specs.Counts.{Causes, Why, counts}
use Rattle.command_runs.specs.Endings.{Halted, Serves}
use Rattle.script_text.specs.Tasks.{Order, Task, task}
use Rattle.shell_commands.specs.Tasks.{BrokenTask, SettledTask, order_left, task_work, tasks}
use Rattle.shell_state.proofs.CarryLaws.{settled_of}
use Rattle.shell_state.proofs.Causing.{broken_by_output, output_of}
use Rattle.shell_state.specs.Carrying.{Settled, StillCarry}
use Rattle.shell_state.specs.Ends.{Unsaid}
use Rattle.shell_state.specs.Stands.{Holding, Stands, WhyHalt}
use Rattle.shell_state.specs.State.{State}
use Rattle.shell_state.specs.declared.halt.Halt.{Halt}
use Rattle.shell_state.specs.declared.halt.Halt.TheVariants as halt
use Rattle.command_runs.specs.Rendered.{Opening, Rendered, no_text, said}
use Rattle.command_runs.specs.Waiting.{Waiting}
use Rattle.view_commands.specs.declared.window.Window.{Window}
use Rattle.desk_commands.proofs.KindLaws.{carry_behind}
use Rattle.desk_commands.proofs.TagLaws.{tag_broken, tag_causes, tag_unsaid}
use Rattle.desk_commands.specs.Doing.{ended}
use Rattle.command_runs.specs.Tagged.{tagged}

abbrev Serving : {A : Type 0} → Window → Holding → Seen → State → Task → Option (List ℕ) → Option (List ℕ) → Result A Halt → Type 0
Serving w m seen s t told told' r = Serves (tasks w) (Stands m seen) (BrokenTask w) s t told told' r

pub serving_stands : {A : Type 0} (r : Result A Halt) (w : Window) (m : Holding) (seen : Seen) (s : State) (t : Task) (told told' : Option (List ℕ)) → Serving w m seen s t told told' r → OnOk r (Stands m seen ((tasks w).after s t))
serving_stands (Ok x) w m seen s t told told' did = did.stands
serving_stands (Err e) w m seen s t told told' cut = tt

pub serving_written : {A : Type 0} (r : Result A Halt) (w : Window) (m : Holding) (seen : Seen) (s : State) (t : Task) (told told' : Option (List ℕ)) → Serving w m seen s t told told' r → OnOk r (told' ≡ adds told ((tasks w).text s t))
serving_written (Ok x) w m seen s t told told' did = did.written
serving_written (Err e) w m seen s t told told' cut = tt

pub serving_halted : {A : Type 0} (r : Result A Halt) (w : Window) (m : Holding) (seen : Seen) (s : State) (t : Task) (told told' : Option (List ℕ)) → Serving w m seen s t told told' r → Halted [] ((tasks w).text s t) told told'
serving_halted (Ok x) w m seen s t told told' did = halted_unsure ((tasks w).text s t) ((tasks w).text s t) told told' (halted_all ((tasks w).text s t) told told' did.written)
serving_halted (Err e) w m seen s t told told' cut = cut.wrote

pub serving_broken : {A : Type 0} (r : Result A Halt) (w : Window) (m : Holding) (seen : Seen) (s : State) (t : Task) (told told' : Option (List ℕ)) → Serving w m seen s t told told' r → IfErr r (λ e. BrokenTask w s t e ((tasks w).text s t) told told')
serving_broken (Ok x) w m seen s t told told' did = tt
serving_broken (Err e) w m seen s t told told' cut = cut.broken

pub serving_carries : {A : Type 0} (r : Result A Halt) (w : Window) (m : Holding) (seen : Seen) (s : State) (order : Order) (text : List ℕ) (told told' : Option (List ℕ)) → Serving w m seen s (task order text) told told' r
    → IfErr r (λ _. StillCarry seen s (order_left order)) → StillCarry seen s (order_left order)
serving_carries (Ok x) w m seen s order text told told' did carries = carry_behind w order text m seen s did.stands
serving_carries (Err e) w m seen s order text told told' cut carries = carries

if_some : (o : Option (Base → Base)) (P : Type 0) → P → IfSome o (λ _. P)
if_some None P p = tt
if_some (Some x) P p = p

settled_done : (w : Window) (m : Holding) (seen : Seen) (s : State) (t : Task) (told told' : Option (List ℕ)) → Stands m seen ((tasks w).after s t) → SettledTask seen w s t told told'
settled_done w m seen s t told told' st = if_some (order_left t.order) (Settled seen ((tasks w).after s t) told told') (settled_of m seen ((tasks w).after s t) told told' st)

pub serving_settled : {A : Type 0} (r : Result A Halt) (w : Window) (m : Holding) (seen : Seen) (s : State) (t : Task) (told told' : Option (List ℕ)) → Serving w m seen s t told told' r
    → IfErr r (λ _. SettledTask seen w s t told told') → SettledTask seen w s t told told'
serving_settled (Ok x) w m seen s t told told' did settled = settled_done w m seen s t told told' did.stands
serving_settled (Err e) w m seen s t told told' cut settled = settled

-- Of a text that went out behind tags.
unsaid_by : (o : Option (Base → Base)) (seen : Seen) (later : State) (a a' b b' : Option (List ℕ)) → (a' ≡ a → b' ≡ b) → IfSome o (λ _. Settled seen later a a') → IfSome o (λ _. Settled seen later b b')
unsaid_by None seen later a a' b b' same settled = tt
unsaid_by (Some left) seen later a a' b b' same (inl none) = inl (same none)
unsaid_by (Some left) seen later a a' b b' same (inr carries) = inr carries

pub tagged_settled : (w : Window) (seen : Seen) (s : State) (t : Task) (o : Opening) (told told' : Option (List ℕ)) (faults : ℕ) (page : Waiting) → Rendered o told faults page → Halted [] page.bytes told told'
    → SettledTask seen w s t (no_text o.told) (said o told page) → SettledTask seen w s t o.told told'
tagged_settled w seen s t o told told' faults page r flushed settled =
    unsaid_by (order_left t.order) seen ((tasks w).after s t) (no_text o.told) (said o told page) o.told told' (λ none. tag_unsaid o told told' faults page r none flushed) settled

-- ---- causes

none_rose : Rose 0 0 → ⊥
none_rose (inl p) = omega (arith, p)
none_rose (inr p) = omega (arith, p)

-- A call that writes, behind one that was done.
pub causes_then : {A B : Type 0} (x : A) (stop : Stop) (f f' b b' k k' m n : ℕ) → Causes {A = A} {E = Halt} WhyHalt (Ok x) (counts f b 0) (counts f' b' m) → k ≤ k' → Causes {A = B} {E = Stop} Why (Err stop) (counts 0 0 k') (counts 0 0 n)
    → Causes {A = B} {E = Halt} WhyHalt (Err (halt.Device stop)) (counts f b k) (counts f' b' n)
causes_then x stop.Read f f' b b' k k' m n first less last = absurd (none_rose last.why)
causes_then x stop.Files f f' b b' k k' m n first less last = absurd (none_rose last.why)
causes_then x stop.Write f f' b b' k k' m n first less last =
    record { none_fell = record { files = first.none_fell.files; input = first.none_fell.input; output = omega (arith, less, last.none_fell.output) }; why = Rose-after k k' n less last.why }
causes_then x stop.Memory f f' b b' k k' m n first less last = record { none_fell = record { files = first.none_fell.files; input = first.none_fell.input; output = omega (arith, less, last.none_fell.output) }; why = tt }

-- ---- a command, and the write of the end of its text

pub ended_done : {A : Type 0} (served : Result A Halt) (flushed : Result A Stop) (P : Type 0) → OnOk served P → OnOk (ended served flushed) P
ended_done (Err e) flushed P p = tt
ended_done (Ok x) (Err stop) P p = tt
ended_done (Ok x) (Ok y) P p = p

pub ended_both : {A : Type 0} (served : Result A Halt) (flushed : Result A Stop) (P Q R : Type 0) → (P → Q → R) → OnOk served P → OnOk flushed Q → OnOk (ended served flushed) R
ended_both (Err e) flushed P Q R f p q = tt
ended_both (Ok x) (Err stop) P Q R f p q = tt
ended_both (Ok x) (Ok y) P Q R f p q = f p q

pub ended_broken : {A : Type 0} (served : Result A Halt) (flushed : Result A Stop) (w : Window) (s : State) (t : Task) (o : Opening) (told told' : Option (List ℕ)) (faults a b : ℕ) (page : Waiting) (text : List ℕ) → Rendered o told faults page
    → Halted [] page.bytes told told' → IfErr served (λ e. BrokenTask w s t e text (no_text o.told) (said o told page)) → Causes Why flushed (counts 0 0 a) (counts 0 0 b)
    → IfErr (ended served flushed) (λ e. BrokenTask w s t e (tagged o.tag text) o.told told')
ended_broken (Err e) flushed w s t o told told' faults a b page text r halted broken causes = tag_broken s (task_work w t) e o told told' faults page text r halted broken
ended_broken (Ok x) (Err stop) w s t o told told' faults a b page text r halted broken causes = broken_by_output s (task_work w t) (halt.Device stop) (output_of stop a b causes.why) (tagged o.tag text) o.told told'
ended_broken (Ok x) (Ok y) w s t o told told' faults a b page text r halted broken causes = tt

pub ended_unsaid : {A : Type 0} (served : Result A Halt) (flushed : Result A Stop) (a b : ℕ) (first first' told told' : Option (List ℕ)) → Causes Why flushed (counts 0 0 a) (counts 0 0 b) → (first' ≡ first → told' ≡ told)
    → IfErr served (λ (e : Halt). Unsaid e first first') → IfErr (ended served flushed) (λ (e : Halt). Unsaid e told told')
ended_unsaid (Err e) flushed a b first first' told told' causes same unsaid = λ is. same (unsaid is)
ended_unsaid (Ok x) (Ok y) a b first first' told told' causes same unsaid = tt
ended_unsaid (Ok x) (Err stop.Files) a b first first' told told' causes same unsaid = absurd (none_rose causes.why)
ended_unsaid (Ok x) (Err stop.Read) a b first first' told told' causes same unsaid = λ is. cc
ended_unsaid (Ok x) (Err stop.Write) a b first first' told told' causes same unsaid = λ is. cc
ended_unsaid (Ok x) (Err stop.Memory) a b first first' told told' causes same unsaid = λ is. cc

pub ended_causes : {A : Type 0} (served : Result A Halt) (flushed : Result A Stop) (o : Opening) (told : Option (List ℕ)) (faults later : ℕ) (page : Waiting) (f f' b b' : ℕ) → Rendered o told faults page
    → Causes WhyHalt served (counts f b 0) (counts f' b' page.faults) → Causes Why flushed (counts 0 0 faults) (counts 0 0 later) → Causes WhyHalt (ended served flushed) (counts f b o.faults) (counts f' b' later)
ended_causes (Err e) flushed o told faults later page f f' b b' r first last = tag_causes o told faults later page e f f' b b' r last.none_fell.output first
ended_causes (Ok x) (Err stop) o told faults later page f f' b b' r first last = causes_then x stop f f' b b' o.faults faults page.faults later first r.counts last
ended_causes (Ok x) (Ok y) o told faults later page f f' b b' r first last =
    record { none_fell = record { files = first.none_fell.files; input = first.none_fell.input; output = omega (arith, r.counts, last.none_fell.output) }; why = tt }

-- ---- memory that runs out behind a command

pub memory_broken : {A : Type 0} (r : Result A Halt) (w : Window) (s : State) (t : Task) (text : List ℕ) (told told' : Option (List ℕ)) → IfErr r (λ e. e ≡ halt.Device stop.Memory) → IfErr r (λ e. BrokenTask w s t e text told told')
memory_broken (Ok x) w s t text told told' is = tt
memory_broken (Err e) w s t text told told' is = subst (λ (e : Halt). BrokenTask w s t e text told told') (sym is) tt

pub memory_causes : {A B : Type 0} (r : Result A Halt) (x : B) (f f' b b' m n : ℕ) → Causes {A = B} {E = Halt} WhyHalt (Ok x) (counts f b m) (counts f' b' n) → IfErr r (λ e. e ≡ halt.Device stop.Memory) → Causes WhyHalt r (counts f b m) (counts f' b' n)
memory_causes (Ok y) x f f' b b' m n causes is = record { none_fell = causes.none_fell; why = tt }
memory_causes (Err e) x f f' b b' m n causes is = record { none_fell = causes.none_fell; why = subst (λ (e : Halt). WhyHalt e (counts f b m) (counts f' b' n)) (sym is) tt }

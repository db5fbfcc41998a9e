-- Laws of the two records of a line that was served: what a part of it gives, they have.
use Rattle.std.proofs.Common.{◌≡◌, ◌≤◌, ◌+◌, ℕ, Bool, true, false, List, [], Option, Some, None, Result, Ok, Err, OnOk, length, refl, sym, ap, subst, true≢false, ◌∙◌, arith, inl, inr}
use Rattle.std.specs.Prelude.{◌⊎◌, IfErr, IfSome}
use Rattle.base_core.specs.Base.{Base}
use Rattle.base_files.proofs.Rising.{Rose-after}
use Rattle.base_files.specs.Counters.{Rose}
use Rattle.base_files.specs.Seen.{Seen}
use Rattle.base_files.specs.declared.faults.Stop.TheVariants as stop
use Rattle.command_runs.specs.Counts.{Causes, Counts, NoneFell, counts}
use Rattle.command_runs.specs.Endings.{NoneLost, Serves}
use Rattle.script_text.specs.Tasks.{Order, Task, task}
use Rattle.script_text.specs.declared.command.Command.{Command}
use Rattle.script_text.specs.declared.command.Command.TheVariants.{Compact, Demo, Export, Import, Replace, Save, Tag}
use Rattle.edit_commands.specs.Saving.{save_work}
use Rattle.shell_commands.proofs.MarkLaws.{marks_done}
use Rattle.shell_commands.proofs.TaskLaws.{asked_by, is_demo, task_serves}
use Rattle.shell_commands.proofs.ViewLaws.{moves_none, shown_left, views_shown}
use Rattle.shell_commands.specs.Parts.{is_unshown, part_of}
use Rattle.shell_commands.specs.Showing.{Updated}
use Rattle.shell_commands.specs.Tasks.{SettledTask, command_work, order_left, order_price, order_work, order_writes, task_work, writes_early}
use Rattle.shell_commands.specs.Turn.{Kept, Outside, Turn, no_views, outside}
use Rattle.shell_commands.specs.Watching.{ViewsDone, touches}
use Rattle.shell_commands.specs.declared.parts.Part.{Part}
use Rattle.shell_commands.specs.declared.parts.Part.TheVariants.{Answers, Lines, Marks, Searches, Slots, Texts}
use Rattle.shell_state.proofs.CarryLaws.{carry_same, if_err}
use Rattle.shell_state.proofs.Causing.{unsaid_without}
use Rattle.shell_state.proofs.Served.{on_ok}
use Rattle.shell_state.specs.Carrying.{CarryIt, StillCarry}
use Rattle.shell_state.specs.Ends.{Unsaid}
use Rattle.shell_state.specs.Stands.{Asks, AsksBy, Broken, Holding, Sound, Stands, WhyHalt}
use Rattle.shell_state.specs.State.{Carried, State}
use Rattle.shell_state.specs.Work.{Price, works}
use Rattle.shell_state.specs.Work.Price.{by_looks, by_state}
use Rattle.shell_state.specs.declared.halt.Halt.{Halt}
use Rattle.shell_state.specs.declared.halt.Halt.TheVariants as halt
use Rattle.text_commands.specs.GameTexts.{ExportCut}
use Rattle.tree_live.specs.Views.{Told}
use Rattle.tree_rows.specs.declared.row.Row.{Row}
use Rattle.view_commands.specs.Views.{AreLeft, AreRight, all_slots, is_own}
use Rattle.view_commands.specs.declared.window.Window.{Window}

-- ---- what is told

pub turn_by : {A B : Type 0} {rows : B → List Row} {told : B → Told} {w : Window} {s : State} {t : Task} {machine : Holding} {seen : Seen} {taken taken' : Option (List ℕ)} {shown shown' : List (Option B)} {r : Result A Halt}
    → Serves works (Stands machine seen) Broken s (task_work w t) taken taken' r → OnOk r (ViewsDone rows told w s t shown shown') → AreLeft (touches w s t.order) shown shown'
    → Turn rows told w s t machine seen taken taken' shown shown' r
turn_by {A} {B} {rows} {told} {w} {s} {t} {machine} {seen} {taken} {taken'} {shown} {shown'} {r} serves views left =
    record { serves = task_serves r w machine seen s t taken taken' serves; views = views; left = left }

-- The views of one that changes nothing that they show.
pub turn_unshown : {A B : Type 0} {rows : B → List Row} {told : B → Told} {w : Window} {s : State} {machine : Holding} {seen : Seen} {taken taken' : Option (List ℕ)} {shown : List (Option B)} {r : Result A Halt} (command : Command) (text : List ℕ)
    → is_unshown (part_of command) ≡ true → AreRight rows w s shown → Serves works (Stands machine seen) Broken s (command_work w command text) taken taken' r
    → Turn rows told w s (task (Ok command) text) machine seen taken taken' shown shown r
turn_unshown {A} {B} {rows} {told} {w} {s} {machine} {seen} {taken} {taken'} {shown} {r} command text none right serves =
    turn_by serves (on_ok _ r (marks_done rows told w s command text shown none right)) (λ i untouched. refl)

-- Those of one that shows what it changed.
pub turn_shown : {A B : Type 0} {rows : B → List Row} {told : B → Told} {w : Window} {s : State} {machine machine' : Holding} {seen : Seen} {taken taken' : Option (List ℕ)} {shown shown' : List (Option B)} {r : Result A Halt} (command : Command) (text : List ℕ)
    → (part_of command ≡ Slots → ⊥) → Stands machine seen ((command_work w command text).after s) → AreRight rows w s shown → Updated rows told w machine machine' shown shown' r
    → Serves works (Stands machine' seen) Broken s (command_work w command text) taken taken' r → Turn rows told w s (task (Ok command) text) machine' seen taken taken' shown shown' r
turn_shown {A} {B} {rows} {told} {w} {s} {machine} {machine'} {seen} {taken} {taken'} {shown} {shown'} {r} command text other later right u serves =
    let slots = moves_none w s command text other in
    turn_by serves (views_shown r rows told w s command text shown shown' other (u.right seen s _ later slots right) (u.counted seen s _ later slots right))
    (shown_left w s command text shown shown' other (u.left seen _ later))

-- What follows behind them is written.
pub updated_by : {A A' B : Type 0} {rows : B → List Row} {told : B → Told} {w : Window} {old machine machine' : Holding} {shown shown' : List (Option B)} {x : A} {r : Result A' Halt} → Updated rows told w old machine shown shown' (Ok x) → OnOk r (machine' ≡ machine)
    → Updated rows told w old machine' shown shown' r
updated_by {A} {A'} {B} {rows} {told} {w} {old} {machine} {machine'} {shown} {shown'} {x} {r} u same = record {
  same = by r same;
  right = λ seen earlier s st slots right. on_ok _ r (u.right seen earlier s st slots right);
  counted = λ seen earlier s st slots right. on_ok _ r (u.counted seen earlier s st slots right);
  left = u.left;
  others = u.others;
  number = u.number;
}
  where
    by : (q : Result A' Halt) → OnOk q (machine' ≡ machine) → OnOk q (machine' ≡ old)
    by (Ok y) is = is ∙ u.same
    by (Err e) is = tt

-- ---- causes

none_rose : Rose 0 0 → ⊥
none_rose (inl less) = absurd (omega arith)
none_rose (inr last) = absurd (omega arith)

-- What has a cause by some counts has one by others that rose where they did.
why_by : (e : Halt) (old new old' new' : Counts) → (Rose old.files new.files → Rose old'.files new'.files) → (Rose old.input new.input → Rose old'.input new'.input) → (Rose old.output new.output → Rose old'.output new'.output) → WhyHalt e old new
    → WhyHalt e old' new'
why_by (halt.Device stop.Read) old new old' new' files input output why = input why
why_by (halt.Device stop.Write) old new old' new' files input output why = output why
why_by (halt.Device stop.Files) old new old' new' files input output why = files why
why_by (halt.Device stop.Memory) old new old' new' files input output why = tt
why_by (halt.Changed game kept found) old new old' new' files input output why = why

causes_by : {A : Type 0} (r : Result A Halt) (old new old' new' : Counts) → NoneFell old' new' → (Rose old.files new.files → Rose old'.files new'.files) → (Rose old.input new.input → Rose old'.input new'.input)
    → (Rose old.output new.output → Rose old'.output new'.output) → Causes WhyHalt r old new → Causes WhyHalt r old' new'
causes_by (Ok x) old new old' new' fell files input output c = record { none_fell = fell; why = tt }
causes_by (Err e) old new old' new' fell files input output c = record { none_fell = fell; why = why_by e old new old' new' files input output c.why }

-- Where something was written behind a part that ended well, beside a body that was not read, and beside an output that was not used.
pub causes_then : {A B : Type 0} (x : A) (r : Result B Halt) (f f' i i' a b c : ℕ) → Causes {A = A} WhyHalt (Ok x) (counts f i a) (counts f' i' b) → Causes WhyHalt r (counts 0 0 b) (counts 0 0 c) → Causes WhyHalt r (counts f i a) (counts f' i' c)
causes_then x r f f' i i' a b c first then =
    causes_by r (counts 0 0 b) (counts 0 0 c) (counts f i a) (counts f' i' c)
    (record { files = first.none_fell.files; input = first.none_fell.input; output = omega (arith, first.none_fell.output, then.none_fell.output) }) (λ rose. absurd (none_rose rose)) (λ rose. absurd (none_rose rose))
    (λ rose. Rose-after a b c first.none_fell.output rose) then

pub causes_beside : {A : Type 0} (r : Result A Halt) (f f' a b i : ℕ) → Causes WhyHalt r (counts f 0 a) (counts f' 0 b) → Causes WhyHalt r (counts f i a) (counts f' i b)
causes_beside r f f' a b i c =
    causes_by r (counts f 0 a) (counts f' 0 b) (counts f i a) (counts f' i b) (record { files = c.none_fell.files; input = omega arith; output = c.none_fell.output }) (λ rose. rose) (λ rose. absurd (none_rose rose)) (λ rose. rose) c

pub causes_silent : {A : Type 0} (r : Result A Halt) (f f' i i' a : ℕ) → Causes WhyHalt r (counts f i 0) (counts f' i' 0) → Causes WhyHalt r (counts f i a) (counts f' i' a)
causes_silent r f f' i i' a c =
    causes_by r (counts f i 0) (counts f' i' 0) (counts f i a) (counts f' i' a) (record { files = c.none_fell.files; input = c.none_fell.input; output = omega arith }) (λ rose. rose) (λ rose. rose) (λ rose. absurd (none_rose rose)) c

none_fell : (n : Counts) → NoneFell n n
none_fell n = record { files = omega arith; input = omega arith; output = omega arith }

pub causes_written : {A : Type 0} (r : Result A Halt) (f i a b : ℕ) → Causes WhyHalt r (counts 0 0 a) (counts 0 0 b) → Causes WhyHalt r (counts f i a) (counts f i b)
causes_written r f i a b c = causes_then {A = ℕ} 0 r f f i i a a b (record { none_fell = none_fell (counts f i a); why = tt }) c

-- Memory ran out.
pub causes_memory : {A : Type 0} (r : Result A Halt) (f i a : ℕ) → IfErr r (λ e. e ≡ halt.Device stop.Memory) → Causes WhyHalt r (counts f i a) (counts f i a)
causes_memory (Ok x) f i a memory = record { none_fell = none_fell (counts f i a); why = tt }
causes_memory (Err e) f i a memory = record { none_fell = none_fell (counts f i a); why = subst (λ (h : Halt). WhyHalt h (counts f i a) (counts f i a)) (sym memory) tt }

-- ---- simple lines

-- A line that leaves no base in the place of the files, and whose price is by what the machine holds.
pub record Simple (order : Order) : Type 0 where
  pub left : order_left order ≡ None
  pub demo : is_demo order ≡ false
  pub export : order ≡ Ok Export → ⊥

-- The parts of which all commands are.
abbrev are_simple : Part → Bool
are_simple Slots = true
are_simple Lines = true
are_simple Searches = true
are_simple Marks = true
are_simple Answers = true
are_simple _ = false

simple_in : (command : Command) → are_simple (part_of command) ≡ true → Simple (Ok command)
simple_in (Import word) is = absurd cc
simple_in (Replace game word) is = absurd cc
simple_in (Tag game edit) is = absurd cc
simple_in Compact is = absurd cc
simple_in Save is = absurd cc
simple_in Export is = absurd cc
simple_in (Demo seed games) is = absurd cc
simple_in _ is = record { left = refl; demo = refl; export = λ is. cc }

pub simple_of : (command : Command) (part : Part) → part_of command ≡ part → are_simple part ≡ true → Simple (Ok command)
simple_of command part is all = simple_in command (ap are_simple is ∙ all)

pub no_export : (command : Command) (part : Part) → part_of command ≡ part → (part ≡ Texts → ⊥) → ◌≡◌ {A = Order} (Ok command) (Ok Export) → ⊥
no_export command part is other export =
    let same : command ≡ Export = cc in
    other (sym is ∙ ap part_of same)

-- ---- what holds always

asks_none : (price : Price) (holding : Holding) (n : ℕ) → AsksBy price holding n n
asks_none (by_looks price) holding n = omega arith
asks_none (by_state price) holding n = tt

pub asks_same : (price : Price) (holding : Holding) (old new : ℕ) → new ≡ old → AsksBy price holding old new
asks_same price holding old new same = subst (λ (n : ℕ). AsksBy price holding old n) (sym same) (asks_none price holding old)

pub settled_none : (P : Type 0) {left : Option (Base → Base)} → left ≡ None → IfSome left (λ _. P)
settled_none P {left} none = subst (λ (o : Option (Base → Base)). IfSome o (λ _. P)) (sym none) tt

-- A line that leaves the files as they are.
pub kept_files : {A B : Type 0} {w : Window} {order : Order} {machine machine' : Holding} {before after : Outside} {shown shown' : List (Option B)} {r : Result A Halt} → order_left order ≡ None → is_demo order ≡ false
    → ((s : State) → Stands machine before.seen s → order ≡ Ok Export → IfErr r (λ e. ExportCut s.seat.filter s.shared.base.games e before.taken after.taken))
    → AreLeft (is_own w) shown shown' → length shown' ≡ length shown → OnOk r (Sound machine' after.seen) → after.seen ≡ before.seen → (writes_early order ≡ false → IfErr r (λ e. Unsaid e before.taken after.taken))
    → Asks machine (order_work all_slots order []) before.asked after.asked → NoneLost before.taken after.taken → Causes WhyHalt r before.counts after.counts → Kept w order machine machine' before after shown shown' r
kept_files {A} {B} {w} {order} {machine} {machine'} {before} {after} {shown} {shown'} {r} none other whole others number sound same unsaid asks none_lost causes = record {
  others = others;
  number = number;
  sound = sound;
  whole = whole;
  carries = λ s st. carry_same machine before.seen after.seen s (order_left order) same st;
  settled = λ s text st. if_err r _ (settled_none _ none);
  unsaid = unsaid;
  unchanged = λ reads. same;
  choices = ap (λ (seen : Seen). seen.choices) same;
  asks = asks;
  asks_told = λ s st. asked_by machine before.seen s order before.asked after.asked other st asks;
  none_lost = none_lost;
  causes = causes;
}

pub kept_reads : {A B : Type 0} {w : Window} {order : Order} {machine machine' : Holding} {before after : Outside} {shown shown' : List (Option B)} {r : Result A Halt} → order_left order ≡ None → is_demo order ≡ false → (order ≡ Ok Export → ⊥)
    → AreLeft (is_own w) shown shown' → length shown' ≡ length shown → OnOk r (Sound machine' after.seen) → after.seen ≡ before.seen → (writes_early order ≡ false → IfErr r (λ e. Unsaid e before.taken after.taken))
    → Asks machine (order_work all_slots order []) before.asked after.asked → NoneLost before.taken after.taken → Causes WhyHalt r before.counts after.counts → Kept w order machine machine' before after shown shown' r
kept_reads none other unexported others number sound same unsaid asks none_lost causes = kept_files none other (λ s st is. absurd (unexported is)) others number sound same unsaid asks none_lost causes

-- A room that reads, beside a body.
pub kept_room : {A : Type 0} {w : Window} {order : Order} {machine machine' : Holding} {seen seen' : Seen} {asked asked' files files' input output output' : ℕ} {taken taken' : Option (List ℕ)} {r : Result A Halt} → order_left order ≡ None → is_demo order ≡ false
    → (order ≡ Ok Export → ⊥) → OnOk r (Sound machine' seen') → seen' ≡ seen → IfErr r (λ e. Unsaid e taken taken') → Asks machine (order_work all_slots order []) asked asked' → NoneLost taken taken'
    → Causes WhyHalt r (counts files 0 output) (counts files' 0 output')
    → Kept w order machine machine' (outside seen asked taken (counts files input output)) (outside seen' asked' taken' (counts files' input output')) no_views no_views r
kept_room {input = input} none other unexported sound same unsaid asks none_lost causes =
    kept_reads none other unexported (λ i own. refl) refl sound same (λ late. unsaid) asks none_lost (causes_beside _ _ _ _ _ input causes)

-- One that uses the output alone.
pub kept_writes : {A B : Type 0} {w : Window} {order : Order} {machine machine' : Holding} {shown shown' : List (Option B)} {r : Result A Halt} (seen : Seen) (asked files input output output' : ℕ) (taken taken' : Option (List ℕ)) → order_left order ≡ None → is_demo order ≡ false
    → (order ≡ Ok Export → ⊥) → AreLeft (is_own w) shown shown' → length shown' ≡ length shown → OnOk r (Sound machine' seen) → NoneLost taken taken' → Causes WhyHalt r (counts 0 0 output) (counts 0 0 output')
    → Kept w order machine machine' (outside seen asked taken (counts files input output)) (outside seen asked taken' (counts files input output')) shown shown' r
kept_writes {A} {B} {w} {order} {machine} {machine'} {shown} {shown'} {r} seen asked files input output output' taken taken' none other unexported others number sound none_lost causes =
    kept_reads none other unexported others number sound refl (λ late. unsaid_without r 0 0 output output' taken taken' causes) (asks_none (order_work all_slots order []).price machine asked) none_lost (causes_written r files input output output' causes)

-- One that may change them.
pub kept_changes : {A : Type 0} {w : Window} {order : Order} {machine machine' : Holding} {before after : Outside} {r : Result A Halt} → order_writes order ≡ true → OnOk r (Sound machine' after.seen)
    → ((s : State) → Stands machine before.seen s → StillCarry after.seen s (order_left order)) → ((s : State) (text : List ℕ) → Stands machine before.seen s → IfErr r (λ _. SettledTask after.seen w s (task order text) before.taken after.taken))
    → (writes_early order ≡ false → IfErr r (λ e. Unsaid e before.taken after.taken)) → after.seen.choices ≡ before.seen.choices → Asks machine (order_work all_slots order []) before.asked after.asked
    → ((s : State) → Stands machine before.seen s → after.asked ≤ before.asked + order_price s order) → NoneLost before.taken after.taken → Causes WhyHalt r before.counts after.counts
    → Kept w order machine machine' before after no_views no_views r
kept_changes writes sound carries settled unsaid choices asks asks_told none_lost causes = record {
  others = λ i own. refl;
  number = refl;
  sound = sound;
  whole = λ s st is. absurd (true≢false (sym writes ∙ ap order_writes is));
  carries = carries;
  settled = settled;
  unsaid = unsaid;
  unchanged = λ none. absurd (true≢false (sym writes ∙ none));
  choices = choices;
  asks = asks;
  asks_told = asks_told;
  none_lost = none_lost;
  causes = causes;
}

pub kept_edits : {A : Type 0} {w : Window} {order : Order} {machine machine' : Holding} {before after : Outside} {r : Result A Halt} → order_writes order ≡ true → is_demo order ≡ false → OnOk r (Sound machine' after.seen)
    → ((s : State) → Stands machine before.seen s → StillCarry after.seen s (order_left order)) → ((s : State) (text : List ℕ) → Stands machine before.seen s → IfErr r (λ _. SettledTask after.seen w s (task order text) before.taken after.taken))
    → (writes_early order ≡ false → IfErr r (λ e. Unsaid e before.taken after.taken)) → after.seen.choices ≡ before.seen.choices → Asks machine (order_work all_slots order []) before.asked after.asked
    → NoneLost before.taken after.taken → Causes WhyHalt r before.counts after.counts → Kept w order machine machine' before after no_views no_views r
kept_edits {A} {w} {order} {machine} {machine'} {before} {after} {r} writes other sound carries settled unsaid choices asks none_lost causes =
    kept_changes writes sound carries settled unsaid choices asks (λ s st. asked_by machine before.seen s order before.asked after.asked other st asks) none_lost causes

-- What the files carry behind a `save`.
pub save_carries : {A : Type 0} (r : Result A Halt) (machine : Holding) (seen : Seen) (s : State) (told told' : Option (List ℕ)) → Serves works (Stands machine seen) Broken s save_work told told' r
    → IfErr r (λ _. StillCarry seen s (Some (λ base. base))) → StillCarry seen s (Some (λ base. base))
save_carries (Err e) machine seen s told told' cut carries = carries
save_carries (Ok x) machine seen s told told' done carries = by s.shared.carried
  where
    by : (carried : Option Carried) → IfSome carried (λ (own : Carried). CarryIt seen own.base ⊎ CarryIt seen s.shared.base)
    by (Some own) = inr (done.stands.carried.contents, done.stands.carried.carries)
    by None = tt

-- What is written and shown behind a part that ended well.
pub kept_then : {A A' B : Type 0} {x : A} {w : Window} {order : Order} {machine mid machine' : Holding} {before : Outside} {shown shown' : List (Option B)} {r : Result A' Halt} (seen : Seen) (asked files input output output' : ℕ) (taken taken' : Option (List ℕ))
    → (order ≡ Ok Export → ⊥) → ((s : State) (text : List ℕ) → Stands machine before.seen s → IfErr r (λ _. SettledTask seen w s (task order text) before.taken taken'))
    → Kept {A = A} w order machine mid before (outside seen asked taken (counts files input output)) no_views no_views (Ok x) → OnOk r (machine' ≡ mid) → AreLeft (is_own w) shown shown' → length shown' ≡ length shown
    → NoneLost taken taken' → Causes WhyHalt r (counts 0 0 output) (counts 0 0 output') → Kept w order machine machine' before (outside seen asked taken' (counts files input output')) shown shown' r
kept_then {A} {A'} {B} {x} {w} {order} {machine} {mid} {machine'} {before} {shown} {shown'} {r} seen asked files input output output' taken taken' other settled k same others number more causes = record {
  others = others;
  number = number;
  sound = by r same;
  whole = λ s st is. absurd (other is);
  carries = k.carries;
  settled = settled;
  unsaid = λ late. unsaid_without r 0 0 output output' before.taken taken' causes;
  unchanged = k.unchanged;
  choices = k.choices;
  asks = k.asks;
  asks_told = k.asks_told;
  none_lost = λ told grew. more told (k.none_lost told grew);
  causes = causes_then x r before.counts.files files before.counts.input input before.counts.output output output' k.causes causes;
}
  where
    by : (q : Result A' Halt) → OnOk q (machine' ≡ mid) → OnOk q (Sound machine' seen)
    by (Ok y) is = subst (λ (h : Holding). Sound h seen) (sym is) k.sound
    by (Err e) is = tt

-- The same beside other views and counts, where it ended so for another caller.
kept_by : {A A' B B' : Type 0} {w : Window} {order : Order} {machine machine' : Holding} {seen seen' : Seen} {asked asked' : ℕ} {taken taken' : Option (List ℕ)} {old new old' new' : Counts} {r : Result A Halt} {r' : Result A' Halt} {shown shown' : List (Option B)}
    {now now' : List (Option B')} → ((Q : Halt → Type 0) → IfErr r Q → IfErr r' Q) → AreLeft (is_own w) now now' → length now' ≡ length now → OnOk r' (Sound machine' seen') → Causes WhyHalt r' old' new'
    → Kept w order machine machine' (outside seen asked taken old) (outside seen' asked' taken' new) shown shown' r → Kept w order machine machine' (outside seen asked taken old') (outside seen' asked' taken' new') now now' r'
kept_by same others number sound causes k = record {
  others = others;
  number = number;
  sound = sound;
  whole = λ s st is. same _ (k.whole s st is);
  carries = k.carries;
  settled = λ s text st. same _ (k.settled s text st);
  unsaid = λ late. same _ (k.unsaid late);
  unchanged = k.unchanged;
  choices = k.choices;
  asks = k.asks;
  asks_told = k.asks_told;
  none_lost = k.none_lost;
  causes = causes;
}

-- A part that was broken off before any view was shown, one that shows nothing, and one that reads no body.
pub kept_err : {A A' B : Type 0} {w : Window} {order : Order} {machine machine' : Holding} {seen seen' : Seen} {asked asked' : ℕ} {taken taken' : Option (List ℕ)} {old new : Counts} {shown : List (Option B)} {e : Halt}
    → Kept {A = A} w order machine machine' (outside seen asked taken old) (outside seen' asked' taken' new) no_views no_views (Err e)
    → Kept {A = A'} w order machine machine' (outside seen asked taken old) (outside seen' asked' taken' new) shown shown (Err e)
kept_err k = kept_by (λ Q is. is) (λ i own. refl) refl tt (record { none_fell = k.causes.none_fell; why = k.causes.why }) k

pub kept_unshown : {A B : Type 0} {w : Window} {order : Order} {machine machine' : Holding} {seen seen' : Seen} {asked asked' : ℕ} {taken taken' : Option (List ℕ)} {old new : Counts} {shown : List (Option B)} {r : Result A Halt}
    → Kept w order machine machine' (outside seen asked taken old) (outside seen' asked' taken' new) no_views no_views r → Kept w order machine machine' (outside seen asked taken old) (outside seen' asked' taken' new) shown shown r
kept_unshown k = kept_by (λ Q is. is) (λ i own. refl) refl k.sound k.causes k

pub kept_bodyless : {A B : Type 0} {w : Window} {order : Order} {machine machine' : Holding} {seen seen' : Seen} {asked asked' files files' output output' : ℕ} {taken taken' : Option (List ℕ)} {shown shown' : List (Option B)} {r : Result A Halt} (input : ℕ)
    → Kept w order machine machine' (outside seen asked taken (counts files 0 output)) (outside seen' asked' taken' (counts files' 0 output')) shown shown' r
    → Kept w order machine machine' (outside seen asked taken (counts files input output)) (outside seen' asked' taken' (counts files' input output')) shown shown' r
kept_bodyless input k = kept_by (λ Q is. is) k.others k.number k.sound (causes_beside _ _ _ _ _ input k.causes) k

-- Nothing was written.
pub unsaid_none : {A : Type 0} (r : Result A Halt) (told : Option (List ℕ)) → IfErr r (λ e. Unsaid e told told)
unsaid_none (Ok x) told = tt
unsaid_none (Err e) told = λ is. refl

pub sound_still : (machine machine' : Holding) (seen seen' : Seen) → machine' ≡ machine → seen' ≡ seen → Sound machine seen → Sound machine' seen'
sound_still machine machine' seen seen' is same sound = subst (λ (h : Holding). Sound h seen') (sym is) (subst (λ (x : Seen). Sound machine x) (sym same) sound)

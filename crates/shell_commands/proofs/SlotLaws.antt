-- The law that no task but one that watches a slot, or watches it no more, changes what slots show.
use Rattle.std.proofs.Common.{◌≡◌, ◌+◌, ◌<◌, ℕ, Bool, true, false, nat_lt, length, List, [], ◌∷◌, Option, Some, None, Result, Ok, Err, refl, ap, ◌∙◌, arith}
use Rattle.std.proofs.lemmas.Bool.{le-leb, lt-ltb, ltb-true}
use Rattle.std.proofs.lemmas.List.{get_or-set_other, length-set}
use Rattle.std.specs.Prelude.{if◌then◌else◌, slice_get, slice_set}
use Rattle.base_core.specs.Base.{Base, Held}
use Rattle.base_core.specs.Edits.{deleted, marked, tagged, undeleted}
use Rattle.cell_core.specs.Board.{Men}
use Rattle.cell_core.specs.declared.man.Colour.{Colour}
use Rattle.eco_class.specs.Reading.{table_of}
use Rattle.eco_class.specs.Table.{Opening}
use Rattle.eco_class.specs.declared.fault.EcoFault.{EcoFault}
use Rattle.edit_commands.specs.Compacting.{compacted_state, is_within}
use Rattle.edit_commands.proofs.TagLaws.{tagged_there, unless_refused}
use Rattle.edit_commands.proofs.EditLaws.{edited_there}
use Rattle.game_tree.specs.Game.{GameTree}
use Rattle.game_tree.specs.TagEdit.{edited}
use Rattle.game_tree.specs.declared.head.Head.{Head}
use Rattle.game_tree.specs.declared.tag_edit.TagEdit.{TagEdit}
use Rattle.index_commands.specs.Indexing.{is_too_big}
use Rattle.search_commands.proofs.DemoLaws.{unless_shown}
use Rattle.search_commands.specs.Demo.{adding}
use Rattle.intake_commands.specs.Importing.{none_taken, state_with, the_new}
use Rattle.pgn_read.specs.Items.{items_of}
use Rattle.report_commands.specs.Classifying.{state_by}
use Rattle.report_commands.specs.Twins.{found_twins, with_deleted}
use Rattle.script_text.specs.Tasks.{Order, Task}
use Rattle.script_text.specs.declared.command.Command.{Command}
use Rattle.script_text.specs.declared.command.Command.TheVariants.{Import, Replace, Eco, Tag, Delete, Undelete, Mark, Watch, Unwatch, Twins, Index, Demo, Compact}
use Rattle.shell_commands.proofs.GrowLaws.{adding_keeps, items_keep}
use Rattle.shell_commands.specs.Tasks.{command_work, order_work, tasks}
use Rattle.shell_state.specs.Refusing.{refusal_of}
use Rattle.shell_state.specs.Slots.{Slot, slot_at}
use Rattle.shell_state.specs.Slots.Slot.{empty}
use Rattle.shell_state.specs.State.{State, with_index}
use Rattle.view_commands.specs.Views.{is_own, with_slot}
use Rattle.view_commands.specs.declared.window.Window.{Window}
use Rattle.shell_state.specs.declared.refusing.Refusal.{Refusal}

edited_stays : (edit : Base → Base) (s : State) (held : Option Held) → (edited_there edit s held).slots ≡ s.slots
edited_stays edit s (Some held) = refl
edited_stays edit s None = refl

unless_stays : (line : Option (List ℕ)) (s : State) (base : Base) → (unless_refused line s base).slots ≡ s.slots
unless_stays (Some line) s base = refl
unless_stays None s base = refl

tag_stays : (game : ℕ) (edit : TagEdit) (s : State) (held : Option Held) → (tagged_there game edit s held).slots ≡ s.slots
tag_stays game edit s (Some held) = unless_stays (refusal_of s.shared.base (edited held.head edit) held.game) s (tagged game edit s.shared.base)
tag_stays game edit s None = refl

twins_stay : (s : State) (games : List ℕ) → (with_deleted s games).slots ≡ s.slots
twins_stay s [] = refl
twins_stay s (game ∷ games) = refl

eco_stays : (s : State) (table : Result (List Opening) EcoFault) → (state_by s table).slots ≡ s.slots
eco_stays s (Ok table) = refl
eco_stays s (Err fault) = refl

-- ---- games that come in

shown_stays : (why : Option Refusal) (s : State) → (unless_shown why s).slots ≡ s.slots
shown_stays (Some why) s = refl
shown_stays None s = refl

replaced_stays : (s : State) (game : ℕ) (new : Result (Head × GameTree) (List ℕ)) → (state_with s game new).slots ≡ s.slots
replaced_stays s game (Ok new) = refl
replaced_stays s game (Err line) = refl

-- ---- games that go, and an index

compacted_stays : (within : Bool) (s : State) → (if within then compacted_state s else s).slots ≡ s.slots
compacted_stays true s = refl
compacted_stays false s = refl

indexed_stays : (big : Bool) (s : State) (depth : ℕ) → (if big then s else with_index s (Some depth)).slots ≡ s.slots
indexed_stays true s depth = refl
indexed_stays false s depth = refl

-- ---- each command

pub command_stays : (w : Window) (s : State) (command : Command) (body : List ℕ) → ((k : ℕ) (board : Men) (side : Colour) → command ≡ Watch k board side → ⊥) → ((k : ℕ) → command ≡ Unwatch k → ⊥)
    → ((command_work w command body).after s).slots ≡ s.slots
command_stays w s (Import word) body watch unwatch = items_keep (λ (t : State). t.slots ≡ s.slots) (λ t head game is. is) (none_taken s) (items_of body) refl
command_stays w s (Replace game word) body watch unwatch = replaced_stays s game (the_new s game body)
command_stays w s (Eco word) body watch unwatch = eco_stays s (table_of body)
command_stays w s (Tag game edit) body watch unwatch = tag_stays game edit s (slice_get s.shared.base.games game)
command_stays w s (Delete game) body watch unwatch = edited_stays (deleted game) s (slice_get s.shared.base.games game)
command_stays w s (Undelete game) body watch unwatch = edited_stays (undeleted game) s (slice_get s.shared.base.games game)
command_stays w s (Mark game bit on) body watch unwatch = edited_stays (marked game bit on) s (slice_get s.shared.base.games game)
command_stays w s (Watch slot board side) body watch unwatch = absurd (watch slot board side refl)
command_stays w s (Unwatch slot) body watch unwatch = absurd (unwatch slot refl)
command_stays w s (Twins depth) body watch unwatch = twins_stay s (found_twins s depth)
command_stays w s (Index None) body watch unwatch = refl
command_stays w s (Index (Some depth)) body watch unwatch = indexed_stays (is_too_big s depth) s depth
command_stays w s (Demo seed games) body watch unwatch = shown_stays (adding s seed games).refused (adding s seed games).state ∙ adding_keeps (λ (t : State). t.slots ≡ s.slots) (λ t head game is. is) s seed games refl
command_stays w s Compact body watch unwatch = compacted_stays (is_within s.shared.base) s
command_stays w s _ body watch unwatch = refl

order_stays : (w : Window) (s : State) (order : Order) (body : List ℕ) → ((k : ℕ) (board : Men) (side : Colour) → order ≡ Ok (Watch k board side) → ⊥) → ((k : ℕ) → order ≡ Ok (Unwatch k) → ⊥)
    → ((order_work w order body).after s).slots ≡ s.slots
order_stays w s (Ok command) body watch unwatch =
    command_stays w s command body (λ k board side same. watch k board side (ap (λ (x : Command). Ok x) same)) (λ k same. unwatch k (ap (λ (x : Command). Ok x) same))
order_stays w s (Err fault) body watch unwatch = refl

pub task_stays : (w : Window) (s : State) (t : Task) → ((k : ℕ) (board : Men) (side : Colour) → t.order ≡ Ok (Watch k board side) → ⊥) → ((k : ℕ) → t.order ≡ Ok (Unwatch k) → ⊥) → ((tasks w).after s t).slots ≡ s.slots
task_stays w s t watch unwatch = order_stays w s t.order t.body watch unwatch

-- ---- slots of others

-- The slot that a user's number names is his own.
not_named : (w : Window) (number i : ℕ) → is_own w i ≡ false → number < w.count → i ≡ w.first + number → ⊥
not_named w number i other less is =
    let own : is_own w i ≡ true = rw (le-leb w.first i (omega (arith, is)), lt-ltb i (w.first + w.count) (omega (arith, is, less))) refl in
    absurd (cc (other, own))

with_others : (w : Window) (s : State) (number i : ℕ) (slot : Slot) → is_own w i ≡ false → slot_at (with_slot w s number slot).slots i ≡ slot_at s.slots i
with_others w s number i slot other = by (nat_lt number w.count) refl
  where
    by : (b : Bool) → nat_lt number w.count ≡ b → slot_at (if b then record s { slots = slice_set s.slots (w.first + number) slot } else s).slots i ≡ slot_at s.slots i
    by true e = get_or-set_other s.slots (w.first + number) i slot empty (not_named w number i other (ltb-true number w.count e))
    by false e = refl

with_number : (w : Window) (s : State) (number : ℕ) (slot : Slot) → length (with_slot w s number slot).slots ≡ length s.slots
with_number w s number slot = by (nat_lt number w.count)
  where
    by : (b : Bool) → length (if b then record s { slots = slice_set s.slots (w.first + number) slot } else s).slots ≡ length s.slots
    by true = length-set s.slots (w.first + number) slot
    by false = refl

order_others : (w : Window) (s : State) (order : Order) (body : List ℕ) (i : ℕ) → is_own w i ≡ false → slot_at ((order_work w order body).after s).slots i ≡ slot_at s.slots i
order_others w s (Ok (Watch slot board side)) body i other = with_others w s slot i _ other
order_others w s (Ok (Unwatch slot)) body i other = with_others w s slot i _ other
order_others w s order body i other = ap (λ (l : List Slot). slot_at l i) (order_stays w s order body (λ k board side same. cc) (λ k same. cc))

order_number : (w : Window) (s : State) (order : Order) (body : List ℕ) → length ((order_work w order body).after s).slots ≡ length s.slots
order_number w s (Ok (Watch slot board side)) body = with_number w s slot _
order_number w s (Ok (Unwatch slot)) body = with_number w s slot _
order_number w s order body = ap (λ (l : List Slot). length l) (order_stays w s order body (λ k board side same. cc) (λ k same. cc))

pub task_others : (w : Window) (s : State) (t : Task) (i : ℕ) → is_own w i ≡ false → slot_at ((tasks w).after s t).slots i ≡ slot_at s.slots i
task_others w s t i other = order_others w s t.order t.body i other

pub task_number : (w : Window) (s : State) (t : Task) → length ((tasks w).after s t).slots ≡ length s.slots
task_number w s t = order_number w s t.order t.body

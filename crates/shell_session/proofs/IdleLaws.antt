-- The law that a slot which is idle behind a task was idle before it, and is not watched by it.
use Rattle.std.proofs.Common.{◌≡◌, ◌==◌, ◌+◌, ℕ, Bool, true, false, ◌&&◌, nat_lt, List, Option, Some, None, Ok, Err, length, set, arith, refl, sym, ap, ◌∙◌}
use Rattle.std.specs.Prelude.{if◌then◌else◌}
use Rattle.std.proofs.lemmas.Bool.{eqb-false, eqb-true, ltb-false, ltb-true}
use Rattle.std.proofs.lemmas.List.{get_or-set_other, get_or-set_same, get_or_past, length-set}
use Rattle.cell_core.specs.Board.{Men}
use Rattle.cell_core.specs.Packed.{Packed, packed_of}
use Rattle.cell_core.specs.declared.man.Colour.{Colour}
use Rattle.desk_commands.specs.Desk.{Desk, desk_by, desk_done, desks, seen_by, window_of}
use Rattle.desk_commands.specs.Views.{line_watches}
use Rattle.script_lines.specs.Clients.{Tagged, has_ended, said}
use Rattle.script_text.specs.Tasks.{Order, Task}
use Rattle.script_text.specs.declared.command.Command.{Command}
use Rattle.script_text.specs.declared.command.Command.TheVariants.{Nothing, Find, SearchPosition, SearchMaterial, SearchHeader, Reset, Clear, Negate, Restrict, Keep, Take, And, Or, Drop, Hits, List as Listing, Show, Export, Import, Replace, Eco, Tag, Delete, Undelete, Mark, Tree, Watch, View, Unwatch, Cross, Twins, Index, Save, Info, Demo, Quit, Compact}
use Rattle.shell_commands.proofs.SlotLaws.{command_stays}
use Rattle.shell_commands.specs.Tasks.{command_work, order_work}
use Rattle.shell_commands.specs.Watching.{watches}
use Rattle.shell_state.specs.Slots.{Slot, slot_at}
use Rattle.shell_state.specs.Slots.Slot.{empty, idle, shows}
use Rattle.shell_state.specs.State.{State}
use Rattle.view_commands.specs.Views.{left, own_slot, showing}
use Rattle.view_commands.specs.declared.window.Window.{Window}
use Rattle.shell_session.proofs.DeskLaws.{its_line}

-- ---- a slot that is set

-- What stands in another slot, and in one that is set to what is not idle.
set_other : (slots : List Slot) (i k : ℕ) (slot : Slot) → (i == k) ≡ false → slot_at (set slots i slot) k ≡ slot_at slots k
set_other slots i k slot other = get_or-set_other slots i k slot empty (λ same. eqb-false i k other (sym same))

not_idle : (slots : List Slot) (k : ℕ) (slot : Slot) → (slot ≡ idle → ⊥) → slot_at (set slots k slot) k ≡ idle → ⊥
not_idle slots k slot none is = by (nat_lt k (length slots)) refl
  where
    by : (test : Bool) → nat_lt k (length slots) ≡ test → ⊥
    by true within = none (sym (get_or-set_same slots k slot empty (ltb-true k (length slots) within)) ∙ is)
    by false past =
        let gone : slot_at (set slots k slot) k ≡ empty = get_or_past (set slots k slot) k empty (omega (arith, ltb-false k (length slots) past, length-set slots k slot)) in
        let clash : empty ≡ idle = sym gone ∙ is in
        cc

idle_in : (slots : List Slot) (i k : ℕ) (slot : Slot) → (slot ≡ idle → ⊥) → slot_at (set slots i slot) k ≡ idle → (slot_at slots k ≡ idle) × ((i == k) ≡ false)
idle_in slots i k slot none is = by (i == k) refl
  where
    by : (test : Bool) → (i == k) ≡ test → (slot_at slots k ≡ idle) × ((i == k) ≡ false)
    by true same =
        let at : i ≡ k = eqb-true i k same in
        absurd (not_idle slots i slot none (ap (slot_at (set slots i slot)) at ∙ is))
    by false other = (sym (set_other slots i k slot other) ∙ is, other)

never_idle : (board : Packed) (slot : Slot) → showing board slot ≡ idle → ⊥
never_idle board empty is = cc
never_idle board idle is = cc
never_idle board (shows other) is = cc

-- A slot that a user sets, where it is one of his own: what it was set to is not idle.
own_set : (own : Bool) (s : State) (i k : ℕ) (slot : Slot) → (slot ≡ idle → ⊥) → slot_at (if own then record s { slots = set s.slots i slot } else s).slots k ≡ idle
    → (slot_at s.slots k ≡ idle) × ((own && (i == k)) ≡ false)
own_set true s i k slot none is = idle_in s.slots i k slot none is
own_set false s i k slot none is = (is, refl)

-- One that is idle is left so.
idle_left : (slots : List Slot) (i k : ℕ) (slot : Slot) → slot_at slots i ≡ slot → slot_at (set slots i (left slot)) k ≡ idle → slot_at slots k ≡ idle
idle_left slots i k empty here is = (idle_in slots i k empty (λ same. cc) is).0
idle_left slots i k (shows board) here is = (idle_in slots i k empty (λ same. cc) is).0
idle_left slots i k idle here is = by (i == k) refl
  where
    by : (test : Bool) → (i == k) ≡ test → slot_at slots k ≡ idle
    by true same = sym (ap (slot_at slots) (eqb-true i k same)) ∙ here
    by false other = sym (set_other slots i k idle other) ∙ is

own_left : (own : Bool) (s : State) (i k : ℕ) → slot_at (if own then record s { slots = set s.slots i (left (if own then slot_at s.slots i else empty)) } else s).slots k ≡ idle → slot_at s.slots k ≡ idle
own_left true s i k is = idle_left s.slots i k (slot_at s.slots i) refl is
own_left false s i k is = is

-- ---- each command

rest : (w : Window) (s : State) (command : Command) (body : List ℕ) (k : ℕ) → slot_at ((command_work w command body).after s).slots k ≡ idle
    → ((i : ℕ) (board : Men) (side : Colour) → command ≡ Watch i board side → ⊥) → ((i : ℕ) → command ≡ Unwatch i → ⊥) → slot_at s.slots k ≡ idle
rest w s command body k is watch unwatch = sym (ap (λ (slots : List Slot). slot_at slots k) (command_stays w s command body watch unwatch)) ∙ is

idle_command : (w : Window) (s : State) (command : Command) (body : List ℕ) (k : ℕ) → slot_at ((command_work w command body).after s).slots k ≡ idle
    → (slot_at s.slots k ≡ idle) × (watches w (Ok command) k ≡ false)
idle_command w s Nothing body k is = (rest w s Nothing body k is (λ i board' side' same. cc) (λ i same. cc), refl)
idle_command w s (Find board side) body k is = (rest w s (Find board side) body k is (λ i board' side' same. cc) (λ i same. cc), refl)
idle_command w s (SearchPosition op query) body k is = (rest w s (SearchPosition op query) body k is (λ i board' side' same. cc) (λ i same. cc), refl)
idle_command w s (SearchMaterial op query) body k is = (rest w s (SearchMaterial op query) body k is (λ i board' side' same. cc) (λ i same. cc), refl)
idle_command w s (SearchHeader op query) body k is = (rest w s (SearchHeader op query) body k is (λ i board' side' same. cc) (λ i same. cc), refl)
idle_command w s Reset body k is = (rest w s Reset body k is (λ i board' side' same. cc) (λ i same. cc), refl)
idle_command w s Clear body k is = (rest w s Clear body k is (λ i board' side' same. cc) (λ i same. cc), refl)
idle_command w s Negate body k is = (rest w s Negate body k is (λ i board' side' same. cc) (λ i same. cc), refl)
idle_command w s (Restrict first last) body k is = (rest w s (Restrict first last) body k is (λ i board' side' same. cc) (λ i same. cc), refl)
idle_command w s (Keep name) body k is = (rest w s (Keep name) body k is (λ i board' side' same. cc) (λ i same. cc), refl)
idle_command w s (Take name) body k is = (rest w s (Take name) body k is (λ i board' side' same. cc) (λ i same. cc), refl)
idle_command w s (And name) body k is = (rest w s (And name) body k is (λ i board' side' same. cc) (λ i same. cc), refl)
idle_command w s (Or name) body k is = (rest w s (Or name) body k is (λ i board' side' same. cc) (λ i same. cc), refl)
idle_command w s (Drop name) body k is = (rest w s (Drop name) body k is (λ i board' side' same. cc) (λ i same. cc), refl)
idle_command w s Hits body k is = (rest w s Hits body k is (λ i board' side' same. cc) (λ i same. cc), refl)
idle_command w s Listing body k is = (rest w s Listing body k is (λ i board' side' same. cc) (λ i same. cc), refl)
idle_command w s (Show game) body k is = (rest w s (Show game) body k is (λ i board' side' same. cc) (λ i same. cc), refl)
idle_command w s Export body k is = (rest w s Export body k is (λ i board' side' same. cc) (λ i same. cc), refl)
idle_command w s (Import word) body k is = (rest w s (Import word) body k is (λ i board' side' same. cc) (λ i same. cc), refl)
idle_command w s (Replace game word) body k is = (rest w s (Replace game word) body k is (λ i board' side' same. cc) (λ i same. cc), refl)
idle_command w s (Eco word) body k is = (rest w s (Eco word) body k is (λ i board' side' same. cc) (λ i same. cc), refl)
idle_command w s (Tag game edit) body k is = (rest w s (Tag game edit) body k is (λ i board' side' same. cc) (λ i same. cc), refl)
idle_command w s (Delete game) body k is = (rest w s (Delete game) body k is (λ i board' side' same. cc) (λ i same. cc), refl)
idle_command w s (Undelete game) body k is = (rest w s (Undelete game) body k is (λ i board' side' same. cc) (λ i same. cc), refl)
idle_command w s (Mark game bit on) body k is = (rest w s (Mark game bit on) body k is (λ i board' side' same. cc) (λ i same. cc), refl)
idle_command w s (Tree board side) body k is = (rest w s (Tree board side) body k is (λ i board' side' same. cc) (λ i same. cc), refl)
idle_command w s (Watch i board side) body k is =
    own_set (nat_lt i w.count) s (w.first + i) k (showing (packed_of board side) (own_slot w s i)) (never_idle (packed_of board side) (own_slot w s i)) is
idle_command w s (View slot) body k is = (rest w s (View slot) body k is (λ i board' side' same. cc) (λ i same. cc), refl)
idle_command w s (Unwatch i) body k is = (own_left (nat_lt i w.count) s (w.first + i) k is, refl)
idle_command w s (Cross event) body k is = (rest w s (Cross event) body k is (λ i board' side' same. cc) (λ i same. cc), refl)
idle_command w s (Twins depth) body k is = (rest w s (Twins depth) body k is (λ i board' side' same. cc) (λ i same. cc), refl)
idle_command w s (Index depth) body k is = (rest w s (Index depth) body k is (λ i board' side' same. cc) (λ i same. cc), refl)
idle_command w s Save body k is = (rest w s Save body k is (λ i board' side' same. cc) (λ i same. cc), refl)
idle_command w s Info body k is = (rest w s Info body k is (λ i board' side' same. cc) (λ i same. cc), refl)
idle_command w s (Demo seed games) body k is = (rest w s (Demo seed games) body k is (λ i board' side' same. cc) (λ i same. cc), refl)
idle_command w s Quit body k is = (rest w s Quit body k is (λ i board' side' same. cc) (λ i same. cc), refl)
idle_command w s Compact body k is = (rest w s Compact body k is (λ i board' side' same. cc) (λ i same. cc), refl)

idle_order : (w : Window) (s : State) (order : Order) (body : List ℕ) (k : ℕ) → slot_at ((order_work w order body).after s).slots k ≡ idle → (slot_at s.slots k ≡ idle) × (watches w order k ≡ false)
idle_order w s (Ok command) body k is = idle_command w s command body k is
idle_order w s (Err fault) body k is = (is, refl)

-- ---- a line

idle_said : (own : Bool) (d : Desk) (speaker : ℕ) (task : Task) (k : ℕ) → slot_at (if own then d else desk_by d speaker task).slots k ≡ idle
    → (slot_at d.slots k ≡ idle) × (watches (window_of d.clients speaker) (if own then Ok Nothing else task.order) k ≡ false)
idle_said true d speaker task k is = (is, refl)
idle_said false d speaker task k is = idle_order (window_of d.clients speaker) (seen_by d speaker) task.order task.body k is

idle_by : (client : Option ℕ) (d : Desk) (task : Task) (k : ℕ) → slot_at (desk_done d client task).slots k ≡ idle → (slot_at d.slots k ≡ idle) × (line_watches d (said client task.order) k ≡ false)
idle_by None d task k is = (is, refl)
idle_by (Some speaker) d task k is = idle_said (has_ended d.clients speaker) d speaker task k is

-- An idle slot was idle before, and the line does not watch it.
pub idle_before : (d : Desk) (t : Tagged) (k : ℕ) → slot_at (desks.after d t).slots k ≡ idle → (slot_at d.slots k ≡ idle) × (line_watches d (its_line t) k ≡ false)
idle_before d t k is = idle_by t.client d t.task k is

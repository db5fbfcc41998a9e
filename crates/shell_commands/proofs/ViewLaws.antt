-- Laws of views beside the state after a command.
use Rattle.std.proofs.Common.{◌≡◌, ℕ, ◌+◌, Bool, true, false, nat_lt, List, Option, Some, None, Result, Ok, Err, OnOk, length, refl, sym, subst, ap, ◌∙◌, arith, ⊎_elim}
use Rattle.std.proofs.lemmas.Bool.{and_parts, cases_lt, eqb-true, le-leb, lt-ltb, ltb-true}
use Rattle.std.proofs.lemmas.List.{get_or-set_same, get_or_past}
use Rattle.std.specs.Prelude.{◌||◌, ◌&&◌, ◌==◌, if◌then◌else◌, slice_set}
use Rattle.cell_core.specs.Board.{Men}
use Rattle.cell_core.specs.Packed.{Packed, packed_of}
use Rattle.cell_core.specs.declared.man.Colour.{Colour}
use Rattle.script_text.specs.Tasks.{task}
use Rattle.script_text.specs.declared.command.Command.{Command}
use Rattle.script_text.specs.declared.command.Command.TheVariants.{Find, SearchMaterial, SearchPosition, Unwatch, View, Watch}
use Rattle.script_text.specs.declared.fault.ScriptFault.{ScriptFault}
use Rattle.shell_commands.proofs.SlotLaws.{command_stays}
use Rattle.shell_commands.specs.Parts.{part_of}
use Rattle.shell_commands.specs.Tasks.{command_work}
use Rattle.shell_commands.specs.Watching.{ViewsDone, touches, watches}
use Rattle.shell_commands.specs.declared.parts.Part.TheVariants.{Edits, Games, Lines, Searches, Slots}
use Rattle.shell_state.specs.Slots.{Slot, slot_at}
use Rattle.shell_state.specs.Slots.Slot.{empty, idle, shows}
use Rattle.shell_state.specs.State.{State}
use Rattle.shell_state.specs.declared.halt.Halt.{Halt}
use Rattle.tree_live.specs.Slots.{in_slot}
use Rattle.tree_live.specs.Views.{Told}
use Rattle.tree_rows.specs.declared.row.Row.{Row}
use Rattle.view_commands.specs.Views.{AreLeft, AreRight, AreToldAtMost, IsRight, IsToldAtMost, changes_of, is_own, is_shown, showing, shown_hits, slot_hits, unwatch_work, watch_work}
use Rattle.view_commands.proofs.ToldLaws.{told_few, told_same}
use Rattle.view_commands.specs.declared.window.Window.{Window}

-- ---- results

pub on_ok₂ : {A E : Type 0} (r : Result A E) (P Q R : Type 0) → (P → Q → R) → OnOk r P → OnOk r Q → OnOk r R
on_ok₂ (Ok x) P Q R f p q = f p q
on_ok₂ (Err e) P Q R f p q = tt

-- ---- commands that are on no slot

pub moves_none : (w : Window) (s : State) (command : Command) (text : List ℕ) → (part_of command ≡ Slots → ⊥) → ((command_work w command text).after s).slots ≡ s.slots
moves_none w s command text other =
    command_stays w s command text (λ k board side is. other (ap part_of is)) (λ k is. other (ap part_of is))

watches_none : (w : Window) (command : Command) (i : ℕ) → (part_of command ≡ Slots → ⊥) → watches w (Ok command) i ≡ false
watches_none w (Watch slot board side) i other = absurd (other refl)
watches_none w _ i other = refl

or_false : (a b : Bool) → (a || b) ≡ false → a ≡ false
or_false false b is = refl
or_false true b is = is

or_false_last : (a b : Bool) → (a || b) ≡ false → b ≡ false
or_false_last false b is = is
or_false_last true b is = absurd cc

-- ---- views that are told

-- Views that were shown the rows of the state after the command.
pub shown_done : {B : Type 0} (rows : B → List Row) (told : B → Told) (w : Window) (s : State) (command : Command) (text : List ℕ) (before after : List (Option B)) → (part_of command ≡ Slots → ⊥)
    → AreRight rows w ((command_work w command text).after s) after
    → AreToldAtMost told (λ i. if is_own w i then changes_of s ((command_work w command text).after s) (slot_at ((command_work w command text).after s).slots i) else 0) before after
    → ViewsDone rows told w s (task (Ok command) text) before after
shown_done rows told w s command text before after other right counted =
    let s' : State = (command_work w command text).after s in
    record {
      right = right;
      counted = λ i.
          let P : Bool → Type 0 = λ b. IsToldAtMost told (if is_own w i then (if b then 1 + length (slot_hits s' (slot_at s'.slots i)) else changes_of s s' (slot_at s.slots i)) else 0) (in_slot before i) (in_slot after i) in
          let Q : List Slot → Type 0 = λ l. IsToldAtMost told (if is_own w i then changes_of s s' (slot_at l i) else 0) (in_slot before i) (in_slot after i) in
          subst P (sym (watches_none w command i other)) (subst Q (moves_none w s command text other) (counted i));
    }

pub shown_left : {B : Type 0} (w : Window) (s : State) (command : Command) (text : List ℕ) (before after : List (Option B)) → (part_of command ≡ Slots → ⊥)
    → AreLeft (λ i. is_own w i && is_shown (slot_at ((command_work w command text).after s).slots i)) before after → AreLeft (touches w s (Ok command)) before after
shown_left w s command text before after other left = λ i none.
    let P : List Slot → Type 0 = λ l. (is_own w i && is_shown (slot_at l i)) ≡ false in
    left i (subst P (sym (moves_none w s command text other)) (or_false (is_own w i && is_shown (slot_at s.slots i)) (watches w (Ok command) i) none))

-- ---- commands on slots

-- The state with another slot of a number among all.
abbrev slotted : State → ℕ → Slot → State
slotted s i slot = record s { slots = slice_set s.slots i slot }

-- The slot of a watch is the one that it showed before, or shows its board.
shown_slot : (s : State) (slot : Slot) (i : ℕ) (packed : Packed) → slot_at s.slots i ≡ slot → (slot ≡ empty → ⊥) → slot_at (slice_set s.slots i (showing packed slot)) i ≡ showing packed slot
shown_slot s slot i packed is some =
    ⊎_elim (λ less. get_or-set_same s.slots i (showing packed slot) empty less)
    (λ past. absurd (some (sym is ∙ get_or_past s.slots i empty past)))
    (cases_lt i (length s.slots))

told_slot : {B : Type 0} (rows : B → List Row) (told : B → Told) (s : State) (i : ℕ) (packed : Packed) (slot : Slot) (before after : Option B) → slot_at s.slots i ≡ slot → IsRight rows s slot before
    → IsToldAtMost told (1 + length (shown_hits s packed)) before after
    → IsToldAtMost told (1 + length (slot_hits (slotted s i (showing packed slot)) (slot_at (slice_set s.slots i (showing packed slot)) i))) before after
told_slot rows told s i packed empty None after is right most = most
told_slot rows told s i packed empty (Some view) after is right most = absurd cc
told_slot rows told s i packed idle before after is right most =
    let P : Slot → Type 0 = λ x. IsToldAtMost told (1 + length (slot_hits (slotted s i (shows packed)) x)) before after in
    subst P (sym (shown_slot s idle i packed is (λ none. cc))) most
told_slot rows told s i packed (shows other) before after is right most =
    let P : Slot → Type 0 = λ x. IsToldAtMost told (1 + length (slot_hits (slotted s i (shows packed)) x)) before after in
    subst P (sym (shown_slot s (shows other) i packed is (λ none. cc))) most

-- The slot that a user's number names is his own.
named_own : (w : Window) (number i : ℕ) → (nat_lt number w.count && (w.first + number == i)) ≡ true → is_own w i ≡ true
named_own w number i is =
    let both = and_parts (nat_lt number w.count) (w.first + number == i) is in
    let less = ltb-true number w.count both.0 in
    let here = eqb-true (w.first + number) i both.1 in
    rw (le-leb w.first i (omega (arith, here)), lt-ltb i (w.first + w.count) (omega (arith, here, less))) refl

pub not_named : (w : Window) (number i : ℕ) → is_own w i ≡ false → (nat_lt number w.count && (w.first + number == i)) ≡ false
not_named w number i other = by (nat_lt number w.count && (w.first + number == i)) refl
  where
    by : (b : Bool) → (nat_lt number w.count && (w.first + number == i)) ≡ b → b ≡ false
    by true is = let own : is_own w i ≡ true = named_own w number i is in absurd (cc (own, other))
    by false is = refl

-- The state behind a watch of it.
watched_state : (w : Window) (s : State) (number i : ℕ) (board : Men) (side : Colour) → (nat_lt number w.count && (w.first + number == i)) ≡ true
    → (watch_work w number board side).after s ≡ slotted s i (showing (packed_of board side) (slot_at s.slots i))
watched_state w s number i board side is =
    let both = and_parts (nat_lt number w.count) (w.first + number == i) is in
    let here : w.first + number ≡ i = eqb-true (w.first + number) i both.1 in
    by (nat_lt number w.count) both.0 ∙ ap (λ (n : ℕ). slotted s n (showing (packed_of board side) (slot_at s.slots n))) here
  where
    slot : Bool → Slot
    slot b = if b then slot_at s.slots (w.first + number) else empty

    by : (b : Bool) → b ≡ true → (if b then record s { slots = slice_set s.slots (w.first + number) (showing (packed_of board side) (slot b)) } else s)
        ≡ slotted s (w.first + number) (showing (packed_of board side) (slot_at s.slots (w.first + number)))
    by true is = refl
    by false is = absurd (cc)

told_own : {B : Type 0} (rows : B → List Row) (told : B → Told) (w : Window) (s : State) (number : ℕ) (board : Men) (side : Colour) (i : ℕ) (here : Bool) (before after : Option B)
    → (nat_lt number w.count && (w.first + number == i)) ≡ here → IsRight rows s (slot_at s.slots i) before
    → IsToldAtMost told (if here then 1 + length (shown_hits s (packed_of board side)) else 0) before after
    → IsToldAtMost told (if here then 1 + length (slot_hits ((watch_work w number board side).after s) (slot_at ((watch_work w number board side).after s).slots i)) else changes_of s ((watch_work w number board side).after s) (slot_at s.slots i)) before after
told_own rows told w s number board side i true before after is right most =
    let P : State → Type 0 = λ t. IsToldAtMost told (1 + length (slot_hits t (slot_at t.slots i))) before after in
    subst P (sym (watched_state w s number i board side is)) (told_slot rows told s i (packed_of board side) (slot_at s.slots i) before after refl right most)
told_own rows told w s number board side i false before after is right most = told_few told 0 _ before after (omega arith) most

pub watch_done : {B : Type 0} (rows : B → List Row) (told : B → Told) (w : Window) (s : State) (number : ℕ) (board : Men) (side : Colour) (text : List ℕ) (before after : List (Option B)) → AreRight rows w s before
    → AreRight rows w ((watch_work w number board side).after s) after
    → AreToldAtMost told (λ i. if nat_lt number w.count && (w.first + number == i) then 1 + length (shown_hits s (packed_of board side)) else 0) before after
    → ViewsDone rows told w s (task (Ok (Watch number board side)) text) before after
watch_done rows told w s number board side text before after right right' counted = record { right = right'; counted = λ i. by i (is_own w i) refl }
  where
    s' : State
    s' = (watch_work w number board side).after s

    named : ℕ → Bool
    named i = nat_lt number w.count && (w.first + number == i)

    by : (i : ℕ) (own : Bool) → is_own w i ≡ own
        → IsToldAtMost told (if own then (if named i then 1 + length (slot_hits s' (slot_at s'.slots i)) else changes_of s s' (slot_at s.slots i)) else 0) (in_slot before i) (in_slot after i)
    by i true own = told_own rows told w s number board side i (named i) (in_slot before i) (in_slot after i) refl (right i own) (counted i)
    by i false other =
        let P : Bool → Type 0 = λ b. IsToldAtMost told (if b then 1 + length (shown_hits s (packed_of board side)) else 0) (in_slot before i) (in_slot after i) in
        subst P (not_named w number i other) (counted i)

unwatch_done : {B : Type 0} (rows : B → List Row) (told : B → Told) (w : Window) (s : State) (number : ℕ) (text : List ℕ) (before after : List (Option B))
    → AreRight rows w ((unwatch_work w number).after s) after → AreToldAtMost told (λ i. 0) before after → ViewsDone rows told w s (task (Ok (Unwatch number)) text) before after
unwatch_done rows told w s number text before after right counted =
    record { right = right; counted = λ i. told_few told 0 _ (in_slot before i) (in_slot after i) (omega arith) (counted i) }

-- What shows a slot changes nothing.
pub view_done : {B : Type 0} (rows : B → List Row) (told : B → Told) (w : Window) (s : State) (number : ℕ) (text : List ℕ) (views : List (Option B)) → AreRight rows w s views → ViewsDone rows told w s (task (Ok (View number)) text) views views
view_done rows told w s number text views right = record { right = right; counted = λ i. told_same told _ (in_slot views i) (in_slot views i) refl }

pub unwatched : {A E B : Type 0} (r : Result A E) (rows : B → List Row) (told : B → Told) (w : Window) (s : State) (number : ℕ) (text : List ℕ) (before after : List (Option B)) → OnOk r (AreRight rows w ((unwatch_work w number).after s) after)
    → OnOk r (AreToldAtMost told (λ i. 0) before after) → OnOk r (ViewsDone rows told w s (task (Ok (Unwatch number)) text) before after)
unwatched r rows told w s number text before after right counted = on_ok₂ r _ _ _ (λ is most. unwatch_done rows told w s number text before after is most) right counted

-- The slot that a watch shows.
pub watch_left : {B : Type 0} (w : Window) (s : State) (number : ℕ) (board : Men) (side : Colour) (before after : List (Option B)) → AreLeft (λ i. nat_lt number w.count && (w.first + number == i)) before after
    → AreLeft (touches w s (Ok (Watch number board side))) before after
watch_left w s number board side before after left = λ i none. left i (or_false_last (is_own w i && is_shown (slot_at s.slots i)) _ none)

pub unwatch_left : {B : Type 0} (w : Window) (s : State) (number : ℕ) (before after : List (Option B)) → AreLeft (λ i. is_own w i && is_shown (slot_at s.slots i)) before after → AreLeft (touches w s (Ok (Unwatch number))) before after
unwatch_left w s number before after left = λ i none. left i (or_false (is_own w i && is_shown (slot_at s.slots i)) false none)

-- ---- parts

pub not_lines : (command : Command) → part_of command ≡ Lines → part_of command ≡ Slots → ⊥
not_lines command is slots = cc

pub not_searches : (command : Command) → part_of command ≡ Searches → part_of command ≡ Slots → ⊥
not_searches command is slots = cc

pub not_games : (command : Command) → part_of command ≡ Games → part_of command ≡ Slots → ⊥
not_games command is slots = cc

pub not_edits : (command : Command) → part_of command ≡ Edits → part_of command ≡ Slots → ⊥
not_edits command is slots = cc

pub searches_late : (w : Window) (command : Command) (text : List ℕ) → part_of command ≡ Searches → (command_work w command text).early ≡ false
searches_late w (Find board side) text is = refl
searches_late w (SearchPosition op query) text is = refl
searches_late w (SearchMaterial op query) text is = refl
searches_late w _ text is = absurd cc

pub searches_read : (w : Window) (command : Command) (text : List ℕ) → part_of command ≡ Searches → (command_work w command text).files ≡ true
searches_read w (Find board side) text is = refl
searches_read w (SearchPosition op query) text is = refl
searches_read w (SearchMaterial op query) text is = refl
searches_read w _ text is = absurd cc

-- Where the command ended well.
pub views_shown : {A B : Type 0} (r : Result A Halt) (rows : B → List Row) (told : B → Told) (w : Window) (s : State) (command : Command) (text : List ℕ) (before after : List (Option B)) → (part_of command ≡ Slots → ⊥)
    → OnOk r (AreRight rows w ((command_work w command text).after s) after)
    → OnOk r (AreToldAtMost told (λ i. if is_own w i then changes_of s ((command_work w command text).after s) (slot_at ((command_work w command text).after s).slots i) else 0) before after)
    → OnOk r (ViewsDone rows told w s (task (Ok command) text) before after)
views_shown r rows told w s command text before after other right counted =
    on_ok₂ r _ _ _ (λ is most. shown_done rows told w s command text before after other is most) right counted

-- A faulty line changes nothing.
pub fault_done : {B : Type 0} (rows : B → List Row) (told : B → Told) (w : Window) (s : State) (fault : ScriptFault) (text : List ℕ) (views : List (Option B)) → AreRight rows w s views → ViewsDone rows told w s (task (Err fault) text) views views
fault_done rows told w s fault text views right = record { right = right; counted = λ i. told_same told _ (in_slot views i) (in_slot views i) refl }

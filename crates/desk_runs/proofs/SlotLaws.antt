-- What the commands see of the slots, and change of them.
use Rattle.std.proofs.Common.{◌≡◌, ℕ, ◌+◌, ◌==◌, ◌&&◌, nat_le, nat_lt, Bool, true, false, cond, List, [], ◌∷◌, ◌++◌, Option, Some, None, unwrap_or, option_map, Result, Ok, Err, slice_get, slice_set, zero, suc, refl, sym, ap, subst, ◌∙◌, arith}
use Rattle.std.proofs.lemmas.Bool.{eqb-true, eqb-false, le-leb, lt-ltb, ltb-true}
use Rattle.std.proofs.lemmas.Option.{unwrap_or-slice_get}
use Rattle.base_core.specs.Base.{Base, Held}
use Rattle.base_core.specs.Edits.{deleted, undeleted, marked, tagged}
use Rattle.cell_core.specs.Packed.{packed_of}
use Rattle.command_runs.specs.Plain.{after_all, run}
use Rattle.demo_games.specs.Demo.{Made, demo_game}
use Rattle.eco_class.specs.Reading.{table_of}
use Rattle.eco_class.specs.Table.{Opening}
use Rattle.eco_class.specs.declared.fault.EcoFault.{EcoFault}
use Rattle.edit_commands.specs.Compacting.{is_within, compacted_state}
use Rattle.edit_commands.proofs.TagLaws.{tag_line_there, tagged_there, unless_refused}
use Rattle.edit_commands.proofs.EditLaws.{edited_there}
use Rattle.filter_seat.specs.Seats.{Seat}
use Rattle.game_tree.specs.Game.{GameTree}
use Rattle.game_tree.specs.TagEdit.{edited}
use Rattle.game_tree.specs.declared.head.Head.{Head}
use Rattle.game_tree.specs.declared.tag_edit.TagEdit.{TagEdit}
use Rattle.index_commands.specs.Indexing.{is_too_big}
use Rattle.search_commands.proofs.DemoLaws.{unless_said, unless_shown, unless_ended, unless_refusal}
use Rattle.search_commands.specs.Demo.{Adding, adding, one_more}
use Rattle.intake_commands.specs.Importing.{Intake, imported_line, intake, item_after, item_text, line_with, none_taken, state_with, taken_in, the_new}
use Rattle.intake_commands.proofs.ByCase.{added_line, new_game, unless_not_added}
use Rattle.pgn_read.specs.Items.{items_of}
use Rattle.pgn_read.specs.declared.item.Item.{Item}
use Rattle.pgn_read.specs.declared.item.Item.TheVariants.{Good, Bad}
use Rattle.report_commands.specs.Classifying.{state_by, text_by}
use Rattle.report_commands.specs.Twins.{with_deleted, found_twins}
use Rattle.script_text.specs.declared.command.Command.{Command}
use Rattle.script_text.specs.declared.command.Command.TheVariants.{Nothing, Find, SearchPosition, SearchMaterial, SearchHeader, Reset, Clear, Negate, Restrict, Keep, Take, And, Or, Drop, Hits, List as Listing, Show, Export, Import, Replace, Eco, Tag, Delete, Undelete, Mark, Tree, Watch, View, Unwatch, Cross, Twins, Index, Save, Info, Demo, Quit, Compact}
use Rattle.script_text.specs.declared.fault.ScriptFault.{ScriptFault}
use Rattle.shell_commands.specs.Tasks.{order_work}
use Rattle.shell_state.specs.Refusing.{not_added, refusal_of}
use Rattle.shell_state.specs.Slots.{Slot, slot_at}
use Rattle.shell_state.specs.Slots.Slot.{empty, idle, shows}
use Rattle.shell_state.specs.State.{Shared, State, with_index}
use Rattle.shell_state.specs.Work.{Work}
use Rattle.shell_state.specs.declared.refusing.Refusal.{Refusal}
use Rattle.view_commands.specs.Views.{is_own, left, own_slot, showing, unwatch_line, view_text, watch_line, with_slot}
use Rattle.view_commands.specs.declared.window.Window.{Window}

-- The state with other slots.
abbrev with_slots : State → List Slot → State
with_slots s slots = record s { slots = slots }

-- ---- commands on other things

-- A command sees no slot, and changes none.
record Unseen (work : Work) : Type 0 where
  text : (s : State) (x : List Slot) → work.text (with_slots s x) ≡ work.text s
  after : (s : State) (x : List Slot) → work.after (with_slots s x) ≡ with_slots (work.after s) x

-- `import`
abbrev taken_with : Intake → List Slot → Intake
taken_with i x = record i { state = with_slots i.state x }

unless-unseen : (o : Option Refusal) (i : Intake) (x : List Slot) (head : Head) (game : GameTree)
    → unless_not_added o (taken_with i x) head game ≡ taken_with (unless_not_added o i head game) x
unless-unseen (Some why) i x head game = refl
unless-unseen None i x head game = refl

line-unseen : (o : Option Refusal) (i : Intake) (x : List Slot) → added_line o (taken_with i x) ≡ added_line o i
line-unseen (Some why) i x = refl
line-unseen None i x = refl

item-unseen : (item : Item) (i : Intake) (x : List Slot) → item_after (taken_with i x) item ≡ taken_with (item_after i item) x
item-unseen (Good head game) i x = unless-unseen (not_added i.state.shared head game) i x head game
item-unseen (Bad fault) i x = refl

said-unseen : (item : Item) (i : Intake) (x : List Slot) → item_text (taken_with i x) item ≡ item_text i item
said-unseen (Good head game) i x = line-unseen (not_added i.state.shared head game) i x
said-unseen (Bad fault) i x = refl

items-unseen : (items : List Item) (i : Intake) (x : List Slot) → after_all intake (taken_with i x) items ≡ taken_with (after_all intake i items) x
items-unseen [] i x = refl
items-unseen (item ∷ items) i x = ap (λ (j : Intake). after_all intake j items) (item-unseen item i x) ∙ items-unseen items (item_after i item) x

run-unseen : (items : List Item) (i : Intake) (x : List Slot) → run intake (taken_with i x) items ≡ run intake i items
run-unseen [] i x = refl
run-unseen (item ∷ items) i x =
    ap (λ (text : List ℕ). text ++ run intake (item_after (taken_with i x) item) items) (said-unseen item i x)
    ∙ ap (λ (j : Intake). item_text i item ++ run intake j items) (item-unseen item i x)
    ∙ ap (λ (text : List ℕ). item_text i item ++ text) (run-unseen items (item_after i item) x)

import-text : (s : State) (x : List Slot) (body : List ℕ)
    → run intake (none_taken (with_slots s x)) (items_of body) ++ imported_line (taken_in (with_slots s x) body).added (taken_in (with_slots s x) body).refused
    ≡ run intake (none_taken s) (items_of body) ++ imported_line (taken_in s body).added (taken_in s body).refused
import-text s x body =
    ap (λ (text : List ℕ). text ++ imported_line (taken_in (with_slots s x) body).added (taken_in (with_slots s x) body).refused) (run-unseen (items_of body) (none_taken s) x)
    ∙ ap (λ (i : Intake). run intake (none_taken s) (items_of body) ++ imported_line i.added i.refused) (items-unseen (items_of body) (none_taken s) x)

-- `replace`
new-unseen : (s : State) (x : List Slot) (game : ℕ) (held : Option Held) (items : List Item) → new_game (with_slots s x) game held items ≡ new_game s game held items
new-unseen s x game None items = refl
new-unseen s x game (Some held) items = refl

with-unseen : (s : State) (x : List Slot) (game : ℕ) (new : Result (Head × GameTree) (List ℕ))
    → state_with (with_slots s x) game new ≡ with_slots (state_with s game new) x
with-unseen s x game (Ok new) = refl
with-unseen s x game (Err line) = refl

-- `demo`
abbrev adding_with : Adding → List Slot → Adding
adding_with a x = record a { state = with_slots a.state x }

refusal-unseen : (o : Option Refusal) (a : Adding) (x : List Slot) (made : Made) → unless_refusal o (adding_with a x) made ≡ adding_with (unless_refusal o a made) x
refusal-unseen (Some why) a x made = refl
refusal-unseen None a x made = refl

ended-unseen : (o : Option Refusal) (a : Adding) (x : List Slot) (made : Made) → unless_ended o (adding_with a x) made ≡ adding_with (unless_ended o a made) x
ended-unseen (Some why) a x made = refl
ended-unseen None a x made = refusal-unseen (not_added a.state.shared made.head made.game) a x made

adding-unseen : (games seed : ℕ) (s : State) (x : List Slot) → adding (with_slots s x) seed games ≡ adding_with (adding s seed games) x
adding-unseen zero seed s x = refl
adding-unseen (suc games) seed s x =
    ap (λ (a : Adding). one_more a games) (adding-unseen games seed s x)
    ∙ ended-unseen (adding s seed games).refused (adding s seed games) x (demo_game (adding s seed games).number games)

shown-unseen : (o : Option Refusal) (s : State) (x : List Slot) → unless_shown o (with_slots s x) ≡ with_slots (unless_shown o s) x
shown-unseen (Some why) s x = refl
shown-unseen None s x = refl

demo-said : (o : Option Refusal) (games plies : ℕ) (s : State) (x : List Slot) → unless_said o games plies (with_slots s x) ≡ unless_said o games plies s
demo-said (Some why) games plies s x = refl
demo-said None games plies s x = refl

-- edits
there-unseen : (edit : Base → Base) (s : State) (x : List Slot) (held : Option Held) → edited_there edit (with_slots s x) held ≡ with_slots (edited_there edit s held) x
there-unseen edit s x (Some held) = refl
there-unseen edit s x None = refl

refused-unseen : (line : Option (List ℕ)) (s : State) (x : List Slot) (base : Base) → unless_refused line (with_slots s x) base ≡ with_slots (unless_refused line s base) x
refused-unseen (Some line) s x base = refl
refused-unseen None s x base = refl

tagged-unseen : (game : ℕ) (edit : TagEdit) (s : State) (x : List Slot) (held : Option Held)
    → tagged_there game edit (with_slots s x) held ≡ with_slots (tagged_there game edit s held) x
tagged-unseen game edit s x (Some held) = refused-unseen (refusal_of s.shared.base (edited held.head edit) held.game) s x (tagged game edit s.shared.base)
tagged-unseen game edit s x None = refl

tag-said : (game : ℕ) (edit : TagEdit) (s : State) (x : List Slot) (held : Option Held) → tag_line_there game edit (with_slots s x) held ≡ tag_line_there game edit s held
tag-said game edit s x (Some held) = refl
tag-said game edit s x None = refl

-- `eco`, `twins`
classified-unseen : (s : State) (x : List Slot) (table : Result (List Opening) EcoFault) → state_by (with_slots s x) table ≡ with_slots (state_by s table) x
classified-unseen s x (Ok table) = refl
classified-unseen s x (Err fault) = refl

eco-said : (s : State) (x : List Slot) (table : Result (List Opening) EcoFault) → text_by (with_slots s x) table ≡ text_by s table
eco-said s x (Ok table) = refl
eco-said s x (Err fault) = refl

deleted-unseen : (s : State) (x : List Slot) (games : List ℕ) → with_deleted (with_slots s x) games ≡ with_slots (with_deleted s games) x
deleted-unseen s x [] = refl
deleted-unseen s x (game ∷ games) = refl

-- `compact`, `index`
compacted-unseen : (s : State) (x : List Slot) (within : Bool)
    → cond within (compacted_state (with_slots s x)) (with_slots s x) ≡ with_slots (cond within (compacted_state s) s) x
compacted-unseen s x true = refl
compacted-unseen s x false = refl

indexed-unseen : (s : State) (x : List Slot) (big : Bool) (depth : ℕ)
    → cond big (with_slots s x) (with_index (with_slots s x) (Some depth)) ≡ with_slots (cond big s (with_index s (Some depth))) x
indexed-unseen s x true depth = refl
indexed-unseen s x false depth = refl

-- ---- slots of one's own

-- Two states that differ at most in the slots of others.
pub record SameOwn (w : Window) (s t : State) : Type 0 where
  pub shared : s.shared ≡ t.shared
  pub seat : s.seat ≡ t.seat
  pub slots : (i : ℕ) → is_own w i ≡ true → slice_get s.slots i ≡ slice_get t.slots i

-- A command sees no slot of others, and changes none.
pub record OwnAlone (w : Window) (work : Work) : Type 0 where
  pub text : (s t : State) → SameOwn w s t → work.text s ≡ work.text t
  pub after : (s t : State) → SameOwn w s t → SameOwn w (work.after s) (work.after t)
  pub others : (s : State) (i : ℕ) → is_own w i ≡ false → slice_get (work.after s).slots i ≡ slice_get s.slots i

unseen-alone : (w : Window) (work : Work) → Unseen work → OwnAlone w work
unseen-alone w work unseen = record { text = text; after = after; others = λ s i other. ap (λ (slots : List Slot). slice_get slots i) (kept s) }
  where
    but-slots : (s t : State) → SameOwn w s t → t ≡ with_slots s t.slots
    but-slots s t same =
        ap (λ (h : Shared). record { shared = h; seat = t.seat; slots = t.slots }) (sym same.shared)
        ∙ ap (λ (seat : Seat). record { shared = s.shared; seat = seat; slots = t.slots }) (sym same.seat)

    kept : (s : State) → (work.after s).slots ≡ s.slots
    kept s = ap (λ (t : State). t.slots) (unseen.after s s.slots)

    text : (s t : State) → SameOwn w s t → work.text s ≡ work.text t
    text s t same = sym (unseen.text s t.slots) ∙ ap (λ (u : State). work.text u) (sym (but-slots s t same))

    moved : (s t : State) → SameOwn w s t → with_slots (work.after s) t.slots ≡ work.after t
    moved s t same = sym (unseen.after s t.slots) ∙ ap (λ (u : State). work.after u) (sym (but-slots s t same))

    after : (s t : State) → SameOwn w s t → SameOwn w (work.after s) (work.after t)
    after s t same = record {
      shared = ap (λ (u : State). u.shared) (moved s t same);
      seat = ap (λ (u : State). u.seat) (moved s t same);
      slots = λ i own.
          ap (λ (slots : List Slot). slice_get slots i) (kept s) ∙ same.slots i own
          ∙ ap (λ (u : State). slice_get u.slots i) (moved s t same);
    }

-- ---- commands on slots

both-true : (a b : Bool) → a ≡ true → b ≡ true → (a && b) ≡ true
both-true a b x y = rw x (rw y refl)

pub both-given : (a b : Bool) → (a && b) ≡ true → (a ≡ true) × (b ≡ true)
both-given true true e = (refl, refl)
both-given true false e = absurd cc
both-given false b e = absurd cc

own-there : (w : Window) (k : ℕ) → nat_lt k w.count ≡ true → is_own w (w.first + k) ≡ true
own-there w k within =
    both-true (nat_le w.first (w.first + k)) (nat_lt (w.first + k) (w.first + w.count)) (le-leb w.first (w.first + k) (omega arith))
    (lt-ltb (w.first + k) (w.first + w.count) (omega (arith, ltb-true k w.count within)))

got-set : (slots : List Slot) (i : ℕ) (own : Slot) → slice_get (slice_set slots i own) i ≡ option_map (λ old. own) (slice_get slots i)
got-set [] zero own = refl
got-set [] (suc i) own = refl
got-set (slot ∷ slots) zero own = refl
got-set (slot ∷ slots) (suc i) own = got-set slots i own

got-other : (slots : List Slot) (i c : ℕ) (own : Slot) → (i ≡ c → ⊥) → slice_get (slice_set slots i own) c ≡ slice_get slots c
got-other [] i c own differ = refl
got-other (slot ∷ slots) zero zero own differ = absurd (differ refl)
got-other (slot ∷ slots) zero (suc c) own differ = refl
got-other (slot ∷ slots) (suc i) zero own differ = refl
got-other (slot ∷ slots) (suc i) (suc c) own differ = got-other slots i c own (λ e. differ (ap (λ (n : ℕ). suc n) e))

set-same : (xs ys : List Slot) (j i : ℕ) (slot : Slot) (here : Bool) → (j == i) ≡ here → slice_get xs i ≡ slice_get ys i
    → slice_get (slice_set xs j slot) i ≡ slice_get (slice_set ys j slot) i
set-same xs ys j i slot true is same =
    subst (λ (n : ℕ). slice_get (slice_set xs n slot) i ≡ slice_get (slice_set ys n slot) i) (sym (eqb-true j i is))
    (got-set xs i slot ∙ ap (λ (o : Option Slot). option_map (λ old. slot) o) same ∙ sym (got-set ys i slot))
set-same xs ys j i slot false is same = got-other xs j i slot (eqb-false j i is) ∙ same ∙ sym (got-other ys j i slot (eqb-false j i is))

-- What one's own slot shows.
slot-same : (s t : State) (i : ℕ) → slice_get s.slots i ≡ slice_get t.slots i → slot_at s.slots i ≡ slot_at t.slots i
slot-same s t i same =
    sym (unwrap_or-slice_get s.slots i empty) ∙ ap (λ (o : Option Slot). unwrap_or o empty) same ∙ unwrap_or-slice_get t.slots i empty

own-if : (w : Window) (s t : State) (k : ℕ) (within : Bool) → nat_lt k w.count ≡ within → SameOwn w s t
    → cond within (slot_at s.slots (w.first + k)) empty ≡ cond within (slot_at t.slots (w.first + k)) empty
own-if w s t k true is same = slot-same s t (w.first + k) (same.slots (w.first + k) (own-there w k is))
own-if w s t k false is same = refl

own-same : (w : Window) (s t : State) (k : ℕ) → SameOwn w s t → own_slot w s k ≡ own_slot w t k
own-same w s t k same = own-if w s t k (nat_lt k w.count) refl same

-- Another slot of one's own.
set-if : (w : Window) (s t : State) (j : ℕ) (slot : Slot) (within : Bool) → SameOwn w s t
    → SameOwn w (cond within (record s { slots = slice_set s.slots j slot }) s) (cond within (record t { slots = slice_set t.slots j slot }) t)
set-if w s t j slot true same = record {
  shared = same.shared;
  seat = same.seat;
  slots = λ i own. set-same s.slots t.slots j i slot (j == i) refl (same.slots i own);
}
set-if w s t j slot false same = same

set-own : (w : Window) (s t : State) (k : ℕ) (a b : Slot) → a ≡ b → SameOwn w s t → SameOwn w (with_slot w s k a) (with_slot w t k b)
set-own w s t k a b is same = subst (λ (slot : Slot). SameOwn w (with_slot w s k a) (with_slot w t k slot)) is (set-if w s t (w.first + k) a (nat_lt k w.count) same)

true-not-false : (b : Bool) → b ≡ true → b ≡ false → ⊥
true-not-false true x y = absurd cc
true-not-false false x y = absurd cc

stays-if : (w : Window) (s : State) (k i : ℕ) (slot : Slot) (within : Bool) → nat_lt k w.count ≡ within → is_own w i ≡ false
    → slice_get (cond within (record s { slots = slice_set s.slots (w.first + k) slot }) s).slots i ≡ slice_get s.slots i
stays-if w s k i slot true is other =
    got-other s.slots (w.first + k) i slot (λ e. true-not-false (is_own w i) (subst (λ (n : ℕ). is_own w n ≡ true) e (own-there w k is)) other)
stays-if w s k i slot false is other = refl

stays : (w : Window) (s : State) (k i : ℕ) (slot : Slot) → is_own w i ≡ false → slice_get (with_slot w s k slot).slots i ≡ slice_get s.slots i
stays w s k i slot other = stays-if w s k i slot (nat_lt k w.count) refl other

view-same : (w : Window) (s t : State) (k : ℕ) (slot : Slot) → SameOwn w s t → view_text s k slot ≡ view_text t k slot
view-same w s t k empty same = refl
view-same w s t k idle same = refl
view-same w s t k (shows board) same =
    ap (λ (seat : Seat). view_text (record s { seat = seat }) k (shows board)) same.seat
    ∙ ap (λ (h : Shared). view_text (record { shared = h; seat = t.seat; slots = s.slots }) k (shows board)) same.shared

-- ---- all commands

pub own-alone : (w : Window) (order : Result Command ScriptFault) (body : List ℕ) → OwnAlone w (order_work w order body)
own-alone w (Err fault) body = unseen-alone w (order_work w (Err fault) body) (record { text = λ s x. refl; after = λ s x. refl })
own-alone w (Ok Nothing) body = unseen-alone w (order_work w (Ok Nothing) body) (record { text = λ s x. refl; after = λ s x. refl })
own-alone w (Ok (Find board side)) body = unseen-alone w (order_work w (Ok (Find board side)) body) (record { text = λ s x. refl; after = λ s x. refl })
own-alone w (Ok (SearchPosition op query)) body = unseen-alone w (order_work w (Ok (SearchPosition op query)) body) (record { text = λ s x. refl; after = λ s x. refl })
own-alone w (Ok (SearchMaterial op query)) body = unseen-alone w (order_work w (Ok (SearchMaterial op query)) body) (record { text = λ s x. refl; after = λ s x. refl })
own-alone w (Ok (SearchHeader op query)) body = unseen-alone w (order_work w (Ok (SearchHeader op query)) body) (record { text = λ s x. refl; after = λ s x. refl })
own-alone w (Ok Reset) body = unseen-alone w (order_work w (Ok Reset) body) (record { text = λ s x. refl; after = λ s x. refl })
own-alone w (Ok Clear) body = unseen-alone w (order_work w (Ok Clear) body) (record { text = λ s x. refl; after = λ s x. refl })
own-alone w (Ok Negate) body = unseen-alone w (order_work w (Ok Negate) body) (record { text = λ s x. refl; after = λ s x. refl })
own-alone w (Ok (Restrict first last)) body = unseen-alone w (order_work w (Ok (Restrict first last)) body) (record { text = λ s x. refl; after = λ s x. refl })
own-alone w (Ok (Keep name)) body = unseen-alone w (order_work w (Ok (Keep name)) body) (record { text = λ s x. refl; after = λ s x. refl })
own-alone w (Ok (Take name)) body = unseen-alone w (order_work w (Ok (Take name)) body) (record { text = λ s x. refl; after = λ s x. refl })
own-alone w (Ok (And name)) body = unseen-alone w (order_work w (Ok (And name)) body) (record { text = λ s x. refl; after = λ s x. refl })
own-alone w (Ok (Or name)) body = unseen-alone w (order_work w (Ok (Or name)) body) (record { text = λ s x. refl; after = λ s x. refl })
own-alone w (Ok (Drop name)) body = unseen-alone w (order_work w (Ok (Drop name)) body) (record { text = λ s x. refl; after = λ s x. refl })
own-alone w (Ok Hits) body = unseen-alone w (order_work w (Ok Hits) body) (record { text = λ s x. refl; after = λ s x. refl })
own-alone w (Ok Listing) body = unseen-alone w (order_work w (Ok Listing) body) (record { text = λ s x. refl; after = λ s x. refl })
own-alone w (Ok (Show game)) body = unseen-alone w (order_work w (Ok (Show game)) body) (record { text = λ s x. refl; after = λ s x. refl })
own-alone w (Ok Export) body = unseen-alone w (order_work w (Ok Export) body) (record { text = λ s x. refl; after = λ s x. refl })
own-alone w (Ok (Import word)) body = unseen-alone w (order_work w (Ok (Import word)) body) (record {
  text = λ s x. import-text s x body;
  after = λ s x. ap (λ (i : Intake). i.state) (items-unseen (items_of body) (none_taken s) x);
})
own-alone w (Ok (Replace game word)) body = unseen-alone w (order_work w (Ok (Replace game word)) body) (record {
  text = λ s x. ap (λ (new : Result (Head × GameTree) (List ℕ)). line_with game new) (new-unseen s x game (slice_get s.shared.base.games game) (items_of body));
  after = λ s x.
      ap (λ (new : Result (Head × GameTree) (List ℕ)). state_with (with_slots s x) game new) (new-unseen s x game (slice_get s.shared.base.games game) (items_of body))
      ∙ with-unseen s x game (the_new s game body);
})
own-alone w (Ok (Eco word)) body = unseen-alone w (order_work w (Ok (Eco word)) body) (record { text = λ s x. eco-said s x (table_of body); after = λ s x. classified-unseen s x (table_of body) })
own-alone w (Ok (Tag game edit)) body = unseen-alone w (order_work w (Ok (Tag game edit)) body) (record {
  text = λ s x. tag-said game edit s x (slice_get s.shared.base.games game);
  after = λ s x. tagged-unseen game edit s x (slice_get s.shared.base.games game);
})
own-alone w (Ok (Delete game)) body = unseen-alone w (order_work w (Ok (Delete game)) body) (record { text = λ s x. refl; after = λ s x. there-unseen (deleted game) s x (slice_get s.shared.base.games game) })
own-alone w (Ok (Undelete game)) body = unseen-alone w (order_work w (Ok (Undelete game)) body) (record { text = λ s x. refl; after = λ s x. there-unseen (undeleted game) s x (slice_get s.shared.base.games game) })
own-alone w (Ok (Mark game bit on)) body = unseen-alone w (order_work w (Ok (Mark game bit on)) body) (record { text = λ s x. refl; after = λ s x. there-unseen (marked game bit on) s x (slice_get s.shared.base.games game) })
own-alone w (Ok (Tree board side)) body = unseen-alone w (order_work w (Ok (Tree board side)) body) (record { text = λ s x. refl; after = λ s x. refl })
own-alone w (Ok (Watch slot board side)) body = record {
  text = λ s t same. ap (λ (shown : Slot). watch_line slot shown) (own-same w s t slot same);
  after = λ s t same.
      set-own w s t slot (showing (packed_of board side) (own_slot w s slot)) (showing (packed_of board side) (own_slot w t slot))
      (ap (λ (shown : Slot). showing (packed_of board side) shown) (own-same w s t slot same)) same;
  others = λ s i other. stays w s slot i (showing (packed_of board side) (own_slot w s slot)) other;
}
own-alone w (Ok (View slot)) body = record {
  text = λ s t same. ap (λ (shown : Slot). view_text s slot shown) (own-same w s t slot same) ∙ view-same w s t slot (own_slot w t slot) same;
  after = λ s t same. same;
  others = λ s i other. refl;
}
own-alone w (Ok (Unwatch slot)) body = record {
  text = λ s t same. ap (λ (shown : Slot). unwatch_line slot shown) (own-same w s t slot same);
  after = λ s t same.
      set-own w s t slot (left (own_slot w s slot)) (left (own_slot w t slot)) (ap (λ (shown : Slot). left shown) (own-same w s t slot same)) same;
  others = λ s i other. stays w s slot i (left (own_slot w s slot)) other;
}
own-alone w (Ok (Cross event)) body = unseen-alone w (order_work w (Ok (Cross event)) body) (record { text = λ s x. refl; after = λ s x. refl })
own-alone w (Ok (Twins depth)) body = unseen-alone w (order_work w (Ok (Twins depth)) body) (record { text = λ s x. refl; after = λ s x. deleted-unseen s x (found_twins s depth) })
own-alone w (Ok (Index (Some depth))) body = unseen-alone w (order_work w (Ok (Index (Some depth))) body) (record { text = λ s x. refl; after = λ s x. indexed-unseen s x (is_too_big s depth) depth })
own-alone w (Ok (Index None)) body = unseen-alone w (order_work w (Ok (Index None)) body) (record { text = λ s x. refl; after = λ s x. refl })
own-alone w (Ok Save) body = unseen-alone w (order_work w (Ok Save) body) (record { text = λ s x. refl; after = λ s x. refl })
own-alone w (Ok Info) body = unseen-alone w (order_work w (Ok Info) body) (record { text = λ s x. refl; after = λ s x. refl })
own-alone w (Ok (Demo seed games)) body = unseen-alone w (order_work w (Ok (Demo seed games)) body) (record {
  text = λ s x.
      ap (λ (a : Adding). unless_said a.refused games a.plies a.state) (adding-unseen games seed s x)
      ∙ demo-said (adding s seed games).refused games (adding s seed games).plies (adding s seed games).state x;
  after = λ s x.
      ap (λ (a : Adding). unless_shown a.refused a.state) (adding-unseen games seed s x)
      ∙ shown-unseen (adding s seed games).refused (adding s seed games).state x;
})
own-alone w (Ok Quit) body = unseen-alone w (order_work w (Ok Quit) body) (record { text = λ s x. refl; after = λ s x. refl })
own-alone w (Ok Compact) body = unseen-alone w (order_work w (Ok Compact) body) (record { text = λ s x. refl; after = λ s x. compacted-unseen s x (is_within s.shared.base) })

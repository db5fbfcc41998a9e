-- States with another slot, and the views beside them.
use Rattle.std.proofs.Common.{◌≡◌, ℕ, zero, suc, ◌+◌, ◌<◌, ◌≤◌, ◌==◌, Bool, true, false, nat_lt, List, [], ◌∷◌, length, map, codes, Option, Some, None, option_map, refl, sym, subst, ap, ap₂, ◌∙◌, arith, Result, Ok, Err, inl, inr}
use Rattle.std.proofs.lemmas.Bool.{and_parts, cases_lt, eqb-true, eqb-false, le-leb, lt-ltb, ltb-false, ltb-true}
use Rattle.std.proofs.lemmas.List.{get_or_past, get_or-set_same, get_or-set_other}
use Rattle.std.specs.Prelude.{IfSome, IsSome, OnOk, is_some, if◌then◌else◌, slice_set, ◌&&◌, IsSomeAnd}
use Rattle.base_core.specs.Represents.{Kept}
use Rattle.base_files.specs.Seen.{Seen}
use Rattle.cell_core.specs.Board.{Men}
use Rattle.cell_core.specs.Packed.{Packed, men_of, packed_of}
use Rattle.cell_core.specs.declared.man.Colour.{Colour}
use Rattle.filter_seat.specs.declared.saved.SavedFilter.{SavedFilter}
use Rattle.pos_index.specs.Hits.{Index}
use Rattle.shell_state.proofs.Quietly.{held_by, tables_with}
use Rattle.shell_state.specs.Lines.{game_line}
use Rattle.shell_state.specs.Slots.{HitTable, Slot, exactly, exactly_on, hit_of_game, slot_at, table_in, tables_in, tables_of}
use Rattle.shell_state.specs.Slots.Slot.{empty, idle, shows}
use Rattle.shell_state.specs.Stands.{Holding, Stands, Tables}
use Rattle.shell_state.specs.State.{State}
use Rattle.sig_index.specs.declared.pos_query.PosQuery.{PosQuery}
use Rattle.tree_live.specs.RowChanges.{rows_changed}
use Rattle.tree_live.specs.Slots.{AreChanged, AreShownIf, AreToldRows, IsTold, Slotted, in_slot, rows_in}
use Rattle.tree_live.specs.Views.{Shows, Told, ToldMore, ToldRows}
use Rattle.tree_live.specs.Watching.{Watched, all_out, hits_in, under}
use Rattle.tree_rows.specs.Rows.{rows_of}
use Rattle.tree_rows.specs.declared.hit.GameHit.{GameHit}
use Rattle.tree_rows.specs.declared.row.Row.{Row}
use Rattle.view_commands.specs.Views.{AreLeft, AreRight, AreToldAtMost, IsRight, IsToldAtMost, changes_of, is_own, is_shown, left, no_view_line, own_slot, shown_hits, showing, unwatch_line, unwatch_work, view_text, watch_line, watch_work, with_slot}
use Rattle.view_commands.specs.declared.window.Window.{Window}
use Rattle.view_commands.proofs.ToldLaws.{told_same}
use Rattle.view_commands.proofs.HitLaws.{IsWatchOf, Plies, filtered, new_watch, tables_with_slot, under_count, watch_hits}

-- ---- what calls answer

pub ok_so : {A E : Type 0} (P Q : Type 0) (r : Result A E) → (P → Q) → OnOk r P → OnOk r Q
ok_so P Q (Ok x) f p = f p
ok_so P Q (Err e) f p = tt

pub ok_both : {A E : Type 0} (P Q R : Type 0) (r : Result A E) → (P → Q → R) → OnOk r P → OnOk r Q → OnOk r R
ok_both P Q R (Ok x) f p q = f p q
ok_both P Q R (Err e) f p q = tt

-- ---- slots that are a user's own

pub within_own : (w : Window) (i : ℕ) → w.first ≤ i → i < w.first + w.count → is_own w i ≡ true
within_own w i from below = rw (le-leb w.first i from, lt-ltb i (w.first + w.count) below) refl

-- ---- the slot of a number

-- The slot that a user's number names is the one of that number among his own, or the ninth.
pub record IsSlotOf (w : Window) (number k : ℕ) : Type 0 where
  pub room : w.first + w.count ≤ 8
  pub slot : number < w.count → k ≡ w.first + number
  pub past : w.count ≤ number → k ≡ 8

pub slot_counts : (w : Window) (number k : ℕ) → IsSlotOf w number k → k < 8 → number < w.count
slot_counts w number k of below = elim (cases_lt number w.count) [
  | inl less ↦ less
  | inr past ↦ absurd (omega (arith, below, of.past past))
]

-- Where it is one of the eight it is his own.
pub slot_own : (w : Window) (number k : ℕ) → IsSlotOf w number k → k < 8 → is_own w k ≡ true
slot_own w number k of below =
    let less = slot_counts w number k of below in
    let is = of.slot less in
    within_own w k (omega (arith, is)) (omega (arith, is, less))

-- ---- lists of slots of which one is another

set_same : (slots : List Slot) (k : ℕ) → slice_set slots k (slot_at slots k) ≡ slots
set_same [] k = refl
set_same (slot ∷ slots) zero = refl
set_same (slot ∷ slots) (suc k) = ap (λ (l : List Slot). slot ∷ l) (set_same slots k)

set_empty : (slots : List Slot) (k : ℕ) → slot_at (slice_set slots k empty) k ≡ empty
set_empty [] k = refl
set_empty (slot ∷ slots) zero = refl
set_empty (slot ∷ slots) (suc k) = set_empty slots k

set_past : (slots : List Slot) (k : ℕ) (slot : Slot) → length slots ≤ k → slice_set slots k slot ≡ slots
set_past [] k slot past = refl
set_past (other ∷ slots) zero slot past = absurd (omega (arith, past))
set_past (other ∷ slots) (suc k) slot past = ap (λ (l : List Slot). other ∷ l) (set_past slots k slot (omega (arith, past)))

-- The state with another slot of a number among all.
abbrev pub slotted : State → ℕ → Slot → State
slotted s k slot = record s { slots = slice_set s.slots k slot }

-- What a user's number names.
pub own_is : (w : Window) (s : State) (number k : ℕ) → IsSlotOf w number k → length s.slots ≡ 8 → own_slot w s number ≡ slot_at s.slots k
own_is w s number k of eight = by (nat_lt number w.count) refl
  where
    by : (b : Bool) → nat_lt number w.count ≡ b → (if b then slot_at s.slots (w.first + number) else empty) ≡ slot_at s.slots k
    by true e = ap (slot_at s.slots) (sym (of.slot (ltb-true number w.count e)))
    by false e = sym (get_or_past s.slots k empty (omega (arith, eight, of.past (ltb-false number w.count e))))

pub with_is : (w : Window) (s : State) (number k : ℕ) (slot : Slot) → IsSlotOf w number k → length s.slots ≡ 8 → with_slot w s number slot ≡ slotted s k slot
with_is w s number k slot of eight = by (nat_lt number w.count) refl
  where
    by : (b : Bool) → nat_lt number w.count ≡ b → (if b then record s { slots = slice_set s.slots (w.first + number) slot } else s) ≡ slotted s k slot
    by true e = ap (λ (n : ℕ). slotted s n slot) (sym (of.slot (ltb-true number w.count e)))
    by false e = ap (λ (slots : List Slot). record s { slots = slots }) (sym (set_past s.slots k slot (omega (arith, eight, of.past (ltb-false number w.count e)))))

-- A state whose slot stays is the same.
pub same_state : (s : State) (k : ℕ) (slot : Slot) → slot ≡ slot_at s.slots k → slotted s k slot ≡ s
same_state s k slot same =
    ap (λ (slots : List Slot). record s { slots = slots }) (ap (slice_set s.slots k) same ∙ set_same s.slots k)

pub stays_right : {B : Type 0} (rows : B → List Row) (w : Window) (s : State) (k : ℕ) (slot : Slot) (views views' : List (Option B)) → slot ≡ slot_at s.slots k → views' ≡ views → AreRight rows w s views
    → AreRight rows w (slotted s k slot) views'
stays_right rows w s k slot views views' same stay right =
    subst (λ (t : State). AreRight rows w t views') (sym (same_state s k slot same)) (subst (AreRight rows w s) (sym stay) right)

pub stays_standing : (holding : Holding) (seen : Seen) (s : State) (k : ℕ) (slot : Slot) → slot ≡ slot_at s.slots k → Stands holding seen s → Stands holding seen (slotted s k slot)
stays_standing holding seen s k slot same st = subst (Stands holding seen) (sym (same_state s k slot same)) st

-- A machine whose tables are those of the other slots stands for the state with them.
pub slot_stands : (kept : Kept) (index : Option Index) (watches watches' : List (Option Watched)) (filter : Plies) (saved : List SavedFilter) (seen : Seen) (s : State) (k : ℕ) (slot : Slot)
    → Stands (held_by kept (tables_with index watches) filter saved) seen s → tables_in watches' ≡ tables_of s.shared.base.games (slice_set s.slots k slot)
    → Stands (held_by kept (tables_with index watches') filter saved) seen (slotted s k slot)
slot_stands kept index watches watches' filter saved seen s k slot st tables = record {
  games = st.games;
  told = st.told;
  base = st.base;
  unsaved = st.unsaved;
  carried = st.carried;
  tables = ap₂ (λ (x : Option Index) (hits : List (Option HitTable)). record { index = x; hits = hits }) (ap (λ (t : Tables). t.index) st.tables) tables;
  seat = st.seat;
  fresh = st.fresh;
}

pub tables_of_slots : (kept : Kept) (index : Option Index) (watches : List (Option Watched)) (filter : Plies) (saved : List SavedFilter) (seen : Seen) (s : State)
    → Stands (held_by kept (tables_with index watches) filter saved) seen s → tables_in watches ≡ tables_of s.shared.base.games s.slots
tables_of_slots kept index watches filter saved seen s st = ap (λ (t : Tables). t.hits) st.tables

-- ---- views beside states

-- What is right beside a state is right beside one that differs in slots alone.
right_with : {B : Type 0} (rows : B → List Row) (s : State) (slots : List Slot) (slot : Slot) (view : Option B) → IsRight rows s slot view → IsRight rows (record s { slots = slots }) slot view
right_with rows s slots empty view right = right
right_with rows s slots idle view right = right
right_with rows s slots (shows board) None right = right
right_with rows s slots (shows board) (Some view) right = right

-- Views of which one is another are right beside the state with another slot.
pub right_beside : {B : Type 0} (rows : B → List Row) (w : Window) (s : State) (k : ℕ) (slot : Slot) (views views' : List (Option B)) → AreRight rows w s views
    → slot_at (slice_set s.slots k slot) k ≡ slot → IsRight rows s slot (in_slot views' k) → ((i : ℕ) → (i ≡ k → ⊥) → in_slot views' i ≡ in_slot views i)
    → AreRight rows w (slotted s k slot) views'
right_beside rows w s k slot views views' right here own others j mine = right_with rows s slots (slot_at slots j) (in_slot views' j) (by (j == k) refl)
  where
    slots : List Slot
    slots = slice_set s.slots k slot

    by : (b : Bool) → (j == k) ≡ b → IsRight rows s (slot_at slots j) (in_slot views' j)
    by true e =
        let is : k ≡ j = sym (eqb-true j k e) in
        subst (λ (n : ℕ). IsRight rows s (slot_at slots n) (in_slot views' n)) is (subst (λ (x : Slot). IsRight rows s x (in_slot views' k)) (sym here) own)
    by false e =
        let other : j ≡ k → ⊥ = eqb-false j k e in
        subst (λ (x : Slot). IsRight rows s x (in_slot views' j)) (sym (get_or-set_other s.slots k j slot empty other))
        (subst (IsRight rows s (slot_at s.slots j)) (sym (others j other)) (right j mine))

-- ---- views that are shown what differs

shown_right : {B : Type 0} (rows : B → List Row) (told : B → Told) (plies : Plies) (earlier s : State) (slot : Slot) (watch : Option Watched) (before after : Option B)
    → IsWatchOf s slot watch → plies ≡ s.seat.filter → IfSome watch (λ (w : Watched). length plies ≡ length w.games) → IsRight rows earlier slot before
    → IsTold (ToldRows rows told) (option_map (λ (w : Watched). rows_in (filtered plies w)) watch) before after → IfSome (option_map (filtered plies) watch) (λ watch. IfSome after (λ view. Shows (hits_in watch.games) (rows view))) → IsRight rows s slot after
shown_right rows told plies earlier s empty None before after is same fits right tells shown = tells ∙ right
shown_right rows told plies earlier s empty (Some watch) before after is same fits right tells shown = absurd (cc)
shown_right rows told plies earlier s idle None before after is same fits right tells shown = subst IsSome (sym tells) right
shown_right rows told plies earlier s idle (Some watch) before after is same fits right tells shown = absurd (cc)
shown_right rows told plies earlier s (shows board) None before after is same fits right tells shown = absurd (cc)
shown_right rows told plies earlier s (shows board) (Some watch) None after is same fits right tells shown = absurd right
shown_right rows told plies earlier s (shows board) (Some watch) (Some before) None is same fits right tells shown = absurd tells
shown_right rows told plies earlier s (shows board) (Some watch) (Some before) (Some after) is same fits right tells shown =
    subst (λ (hits : List GameHit). Shows hits (rows after)) (watch_hits s board plies watch is same fits) shown

shown_told : {B : Type 0} (rows : B → List Row) (told : B → Told) (plies : Plies) (earlier s : State) (slot : Slot) (watch : Option Watched) (before after : Option B)
    → IsWatchOf s slot watch → plies ≡ s.seat.filter → IfSome watch (λ (w : Watched). length plies ≡ length w.games) → IsRight rows earlier slot before
    → IsTold (ToldRows rows told) (option_map (λ (w : Watched). rows_in (filtered plies w)) watch) before after → IsToldAtMost told (changes_of earlier s slot) before after
shown_told rows told plies earlier s empty None before after is same fits right tells = told_same told 0 before after tells
shown_told rows told plies earlier s empty (Some watch) before after is same fits right tells = absurd (cc)
shown_told rows told plies earlier s idle None before after is same fits right tells = told_same told 0 before after tells
shown_told rows told plies earlier s idle (Some watch) before after is same fits right tells = absurd (cc)
shown_told rows told plies earlier s (shows board) None before after is same fits right tells = absurd (cc)
shown_told rows told plies earlier s (shows board) (Some watch) None after is same fits right tells = absurd right
shown_told rows told plies earlier s (shows board) (Some watch) (Some before) None is same fits right tells = absurd tells
shown_told rows told plies earlier s (shows board) (Some watch) (Some before) (Some after) is same fits right tells =
    record {
      same = tells.same;
      few = subst (λ (hits : List GameHit). (told after).changes ≤ (told before).changes + rows_changed (rows_of (shown_hits earlier board)) (rows_of hits))
          (watch_hits s board plies watch is same fits) (tells.few (shown_hits earlier board) right);
    }

-- Slots, the first of which is the first view, and what was told to the views of a user's own.
module _ {B : Type 0} (rows : B → List Row) (told : B → Told) (w : Window) (plies : Plies) (slots : Slotted) (views views' : List (Option B)) (first : slots.first ≡ 0)
    (tells : AreToldRows rows told (is_own w) (filtered plies) slots views views') where
  tells_at : (k : ℕ) (own : Bool) → is_own w k ≡ own
      → IsTold (ToldRows rows told) (if own then option_map (λ (x : Watched). rows_in (filtered plies x)) (in_slot slots.watches k) else None) (in_slot views k) (in_slot views' k)
  tells_at k own is =
      let at : slots.first + k ≡ k = omega (arith, first) in
      let P : Bool → Type 0 = λ b. IsTold (ToldRows rows told) (if b then option_map (λ (x : Watched). rows_in (filtered plies x)) (in_slot slots.watches k) else None) (in_slot views k) (in_slot views' k) in
      subst P is
      (subst (λ (n : ℕ). IsTold (ToldRows rows told) (if is_own w k then option_map (λ (x : Watched). rows_in (filtered plies x)) (in_slot slots.watches k) else None) (in_slot views n) (in_slot views' n)) at (tells.views k))

  pub views_right : (s : State) (slots' : Slotted) (earlier : State) → slots'.first ≡ 0 → ((k : ℕ) → IsWatchOf s (slot_at s.slots k) (in_slot slots.watches k)) → plies ≡ s.seat.filter
      → ((k : ℕ) → IfSome (in_slot slots.watches k) (λ (x : Watched). length plies ≡ length x.games)) → s.slots ≡ earlier.slots → AreRight rows w earlier views
      → AreChanged (λ k x. if is_own w k then filtered plies x else x) slots slots' → AreShownIf rows (is_own w) slots' views' → AreRight rows w s views'
  views_right s slots' earlier first' is same fits one right changed shown k own =
      let at : slots'.first + k ≡ k = omega (arith, first') in
      let P : Bool → Type 0 = λ b. in_slot slots'.watches k ≡ option_map (λ (x : Watched). if b then filtered plies x else x) (in_slot slots.watches k) in
      let here : in_slot slots'.watches k ≡ option_map (filtered plies) (in_slot slots.watches k) = subst P own (changed k) in
      shown_right rows told plies earlier s (slot_at s.slots k) (in_slot slots.watches k) (in_slot views k) (in_slot views' k) (is k) same (fits k)
      (subst (λ (l : List Slot). IsRight rows earlier (slot_at l k) (in_slot views k)) (sym one) (right k own)) (tells_at k true own)
      (subst (λ (x : Option Watched). IfSome x (λ watch. IfSome (in_slot views' k) (λ view. Shows (hits_in watch.games) (rows view)))) here (subst (λ (n : ℕ). IfSome (in_slot slots'.watches k) (λ watch. IfSome (in_slot views' n) (λ view. Shows (hits_in watch.games) (rows view)))) at (shown k own)))

  pub views_told : (s earlier : State) → ((k : ℕ) → IsWatchOf s (slot_at s.slots k) (in_slot slots.watches k)) → plies ≡ s.seat.filter
      → ((k : ℕ) → IfSome (in_slot slots.watches k) (λ (x : Watched). length plies ≡ length x.games)) → s.slots ≡ earlier.slots → AreRight rows w earlier views
      → AreToldAtMost told (λ i. if is_own w i then changes_of earlier s (slot_at s.slots i) else 0) views views'
  views_told s earlier is same fits one right k = by (is_own w k) refl
    where
      by : (own : Bool) → is_own w k ≡ own → IsToldAtMost told (if own then changes_of earlier s (slot_at s.slots k) else 0) (in_slot views k) (in_slot views' k)
      by true own =
          shown_told rows told plies earlier s (slot_at s.slots k) (in_slot slots.watches k) (in_slot views k) (in_slot views' k) (is k) same (fits k)
          (subst (λ (l : List Slot). IsRight rows earlier (slot_at l k) (in_slot views k)) (sym one) (right k own)) (tells_at k true own)
      by false other = told_same told 0 (in_slot views k) (in_slot views' k) (tells_at k false other)

  pub views_others : (k : ℕ) → is_own w k ≡ false → in_slot views' k ≡ in_slot views k
  views_others k other = tells_at k false other

  pub views_left : (s : State) → ((k : ℕ) → IsWatchOf s (slot_at s.slots k) (in_slot slots.watches k)) → (k : ℕ) → (is_own w k && is_shown (slot_at s.slots k)) ≡ false → in_slot views' k ≡ in_slot views k
  views_left s is k not = of_own (is_own w k) refl not
    where
      by : (slot : Slot) (watch : Option Watched) → is_shown slot ≡ false → IsWatchOf s slot watch
          → IsTold (ToldRows rows told) (option_map (λ (x : Watched). rows_in (filtered plies x)) watch) (in_slot views k) (in_slot views' k) → in_slot views' k ≡ in_slot views k
      by slot None not is tells = tells
      by empty (Some watch) not is tells = absurd (cc)
      by idle (Some watch) not is tells = absurd (cc)
      by (shows board) (Some watch) not is tells = absurd (cc)

      of_own : (own : Bool) → is_own w k ≡ own → (own && is_shown (slot_at s.slots k)) ≡ false → in_slot views' k ≡ in_slot views k
      of_own true own not = by (slot_at s.slots k) (in_slot slots.watches k) not (is k) (tells_at k true own)
      of_own false other not = tells_at k false other

-- ---- a slot by its watch

pub some_below : {T : Type 0} (list : List (Option T)) (k : ℕ) → length list ≡ 8 → IsSome (in_slot list k) → k < 8
some_below list k eight some = elim (cases_lt k 8) [
  | inl less ↦ less
  | inr past ↦ let none : is_some (in_slot list k) ≡ false = ap is_some (get_or_past list k None (omega (arith, eight, past))) in absurd (cc (some, none))
]

pub shown_some : (s : State) (slot : Slot) (watch : Option Watched) → IsWatchOf s slot watch → IsSome watch → is_shown slot ≡ true
shown_some s empty None is some = absurd (cc)
shown_some s empty (Some watch) is some = absurd (cc)
shown_some s idle None is some = absurd (cc)
shown_some s idle (Some watch) is some = absurd (cc)
shown_some s (shows board) watch is some = refl

pub shown_none : (s : State) (slot : Slot) (watch : Option Watched) → IsWatchOf s slot watch → watch ≡ None → is_shown slot ≡ false
shown_none s empty watch is none = refl
shown_none s idle watch is none = refl
shown_none s (shows board) None is none = absurd (cc)
shown_none s (shows board) (Some watch) is none = absurd (cc)

pub board_some : (board : Packed) (watch : Option Watched) → Some board ≡ option_map (λ (w : Watched). w.board) watch → IsSome watch
board_some board None is = absurd (cc)
board_some board (Some watch) is = refl

pub board_none : (watch : Option Watched) → None ≡ option_map (λ (w : Watched). w.board) watch → watch ≡ None
board_none None is = refl
board_none (Some watch) is = absurd (cc)

pub board_shows : (s : State) (slot : Slot) (watch : Option Watched) (board : Packed) → IsWatchOf s slot watch → Some board ≡ option_map (λ (w : Watched). w.board) watch → slot ≡ shows board
board_shows s slot None board is same = absurd (cc)
board_shows s empty (Some watch) board is same = absurd (cc)
board_shows s idle (Some watch) board is same = absurd (cc)
board_shows s (shows other) (Some watch) board is same =
    let table : table_in watch ≡ record { board = other; hits = map (hit_of_game (exactly_on other)) s.shared.base.games } = cc in
    let of_board : board ≡ watch.board = cc in
    ap shows (sym (ap (λ (t : HitTable). t.board) table) ∙ sym of_board)

-- ---- `unwatch`

pub left_line : (number : ℕ) (slot : Slot) → is_shown slot ≡ true → game_line (codes "unwatched ") number ≡ unwatch_line number slot
left_line number empty is = absurd (cc)
left_line number idle is = absurd (cc)
left_line number (shows board) is = refl

pub no_left_line : (number : ℕ) (slot : Slot) → is_shown slot ≡ false → no_view_line number ≡ unwatch_line number slot
no_left_line number empty is = refl
no_left_line number idle is = refl
no_left_line number (shows board) is = absurd (cc)

pub left_same : (slot : Slot) → is_shown slot ≡ false → left slot ≡ slot
left_same empty is = refl
left_same idle is = refl
left_same (shows board) is = absurd (cc)

pub left_empty : (slot : Slot) → is_shown slot ≡ true → left slot ≡ empty
left_empty empty is = absurd (cc)
left_empty idle is = absurd (cc)
left_empty (shows board) is = refl

left_none : (s : State) (slot : Slot) → IsWatchOf s (left slot) None
left_none s empty = refl
left_none s idle = refl
left_none s (shows board) = refl

pub left_stands : (kept : Kept) (index : Option Index) (watches watches' : List (Option Watched)) (filter : Plies) (saved : List SavedFilter) (seen : Seen) (s : State) (k : ℕ)
    → Stands (held_by kept (tables_with index watches) filter saved) seen s → watches' ≡ slice_set watches k None
    → Stands (held_by kept (tables_with index watches') filter saved) seen (slotted s k (left (slot_at s.slots k)))
left_stands kept index watches watches' filter saved seen s k st is =
    let slot : Slot = left (slot_at s.slots k) in
    slot_stands kept index watches watches' filter saved seen s k slot st
    (ap tables_in is ∙ tables_with_slot s watches k slot None (tables_of_slots kept index watches filter saved seen s st) (left_none s (slot_at s.slots k)))

pub left_right : {B : Type 0} (rows : B → List Row) (w : Window) (s : State) (k at : ℕ) (slot : Slot) (views views' : List (Option B)) → AreRight rows w s views → slot ≡ empty → at ≡ k
    → in_slot views' at ≡ None → ((i : ℕ) → (i ≡ at → ⊥) → in_slot views' i ≡ in_slot views i) → AreRight rows w (slotted s k slot) views'
left_right rows w s k at slot views views' right is same gone others =
    right_beside rows w s k slot views views' right
    (subst (λ (x : Slot). slot_at (slice_set s.slots k x) k ≡ x) (sym is) (set_empty s.slots k))
    (subst (λ (x : Slot). IsRight rows s x (in_slot views' k)) (sym is) (ap (in_slot views') (sym same) ∙ gone))
    (λ i other. others i (λ e. other (e ∙ same)))

pub unwatch_is : (w : Window) (s : State) (number k : ℕ) → IsSlotOf w number k → length s.slots ≡ 8 → (unwatch_work w number).after s ≡ slotted s k (left (slot_at s.slots k))
unwatch_is w s number k of eight =
    ap (λ (x : Slot). with_slot w s number (left x)) (own_is w s number k of eight) ∙ with_is w s number k (left (slot_at s.slots k)) of eight

-- The slot that is left showed a tree, and is his own.
pub shown_own : (w : Window) (s : State) (k j : ℕ) → is_own w k ≡ true → is_shown (slot_at s.slots k) ≡ true → j ≡ k → (is_own w j && is_shown (slot_at s.slots j)) ≡ false → ⊥
shown_own w s k j own shown here not =
    let mine : is_own w j ≡ true = ap (is_own w) here ∙ own in
    let yes : is_shown (slot_at s.slots j) ≡ true = ap (λ (n : ℕ). is_shown (slot_at s.slots n)) here ∙ shown in
    let no : is_shown (slot_at s.slots j) ≡ false = rw mine at not in
    absurd (cc (yes, no))

-- ---- `view`

pub view_none : (s : State) (number : ℕ) (slot : Slot) → is_shown slot ≡ false → no_view_line number ≡ view_text s number slot
view_none s number empty is = refl
view_none s number idle is = refl
view_none s number (shows board) is = absurd (cc)

view_shows : {B : Type 0} (rows : B → List Row) (s : State) (board : Packed) (view : Option B) → IsRight rows s (shows board) view → IsSomeAnd view (λ view. Shows (shown_hits s board) (rows view))
view_shows rows s board None right = right
view_shows rows s board (Some view) right = right

pub right_shown : {B : Type 0} (rows : B → List Row) (s : State) (board : Packed) (slot : Slot) (view : Option B) → IsRight rows s slot view → slot ≡ shows board → IsSomeAnd view (λ view. Shows (shown_hits s board) (rows view))
right_shown rows s board slot view right is = view_shows rows s board view (subst (λ (x : Slot). IsRight rows s x view) is right)

-- ---- `watch`

-- Where no view stands the slot is empty.
pub none_held : {B : Type 0} (rows : B → List Row) (w : Window) (s : State) (views : List (Option B)) (number k first count : ℕ) (held : Bool) → IsSlotOf w number k → first ≡ 0 → count ≡ 8 → length s.slots ≡ 8
    → AreRight rows w s views → held ≡ (nat_lt k count && is_some (in_slot views (first + k))) → held ≡ false → slot_at s.slots k ≡ empty
none_held {B} rows w s views number k first count held of zero_first eight slots right holds not = elim (cases_lt k 8) [
  | inl less ↦
      let at : first + k ≡ k = omega (arith, zero_first) in
      let test : nat_lt k count ≡ true = lt-ltb k count (omega (arith, less, eight)) in
      let both : (nat_lt k count && is_some (in_slot views (first + k))) ≡ false = sym holds ∙ not in
      let none : is_some (in_slot views (first + k)) ≡ false = rw test at both in
      by (slot_at s.slots k) (in_slot views k) (right k (slot_own w number k of less)) (ap (λ (n : ℕ). is_some (in_slot views n)) (sym at) ∙ none)
  | inr past ↦ get_or_past s.slots k empty (omega (arith, slots, past))
]
  where
    by : (slot : Slot) (view : Option B) → IsRight rows s slot view → is_some view ≡ false → slot ≡ empty
    by empty view right none = refl
    by idle None right none = absurd (cc)
    by idle (Some view) right none = absurd (cc)
    by (shows board) None right none = absurd right
    by (shows board) (Some view) right none = absurd (cc)

pub empty_stays : (board : Packed) (slot : Slot) → slot ≡ empty → showing board slot ≡ slot
empty_stays board slot is = subst (λ (x : Slot). showing board x ≡ x) (sym is) refl

-- Where one stands it is one of the eight, and it shows the board then.
pub held_below : (k count : ℕ) (held some : Bool) → count ≡ 8 → held ≡ (nat_lt k count && some) → held ≡ true → k < 8
held_below k count held some eight holds stands = omega (arith, ltb-true k count (and_parts (nat_lt k count) some (sym holds ∙ stands)).0, eight)

pub held_some : (k count : ℕ) (held some : Bool) → held ≡ (nat_lt k count && some) → held ≡ true → some ≡ true
held_some k count held some holds stands = (and_parts (nat_lt k count) some (sym holds ∙ stands)).1

pub held_shows : {B : Type 0} (rows : B → List Row) (s : State) (board : Packed) (slot : Slot) (view : Option B) → IsRight rows s slot view → IsSome view → showing board slot ≡ shows board
held_shows rows s board empty None right some = absurd (cc)
held_shows rows s board empty (Some view) right some = absurd (cc)
held_shows rows s board idle view right some = refl
held_shows rows s board (shows other) view right some = refl

pub held_line : {B : Type 0} (rows : B → List Row) (s : State) (number : ℕ) (slot : Slot) (view : Option B) → IsRight rows s slot view → IsSome view → game_line (codes "watching ") number ≡ watch_line number slot
held_line rows s number empty None right some = absurd (cc)
held_line rows s number empty (Some view) right some = absurd (cc)
held_line rows s number idle view right some = refl
held_line rows s number (shows other) view right some = refl

abbrev pub watch_from : Packed → Plies → List (Option GameHit) → Watched
watch_from board plies hits = record { board = board; games = under plies (all_out hits) }

-- It has as many games as there are hits.
pub from_count : (board : Packed) (plies : Plies) (hits : List (Option GameHit)) → length hits ≡ length plies → length (watch_from board plies hits).games ≡ length hits
from_count board plies hits count = under_count plies hits count

-- The board that is packed is the one that is asked for.
pub on_board : (men : Men) (side : Colour) (packed : Packed) → packed ≡ packed_of men side → men_of packed.cells ≡ men → exactly_on packed ≡ exactly men side
on_board men side packed is back = ap₂ (λ (m : Men) (s : Colour). exactly m s) back (ap (λ (p : Packed). p.side) is)

pub watch_stands : (kept : Kept) (index : Option Index) (watches watches' : List (Option Watched)) (filter : Plies) (saved : List SavedFilter) (seen : Seen) (s : State) (k : ℕ)
    (board : Packed) (slot : Slot) (query : PosQuery) (hits : List (Option GameHit))
    → Stands (held_by kept (tables_with index watches) filter saved) seen s → watches' ≡ slice_set watches k (Some (watch_from board filter hits)) → slot ≡ shows board
    → hits ≡ map (hit_of_game query) s.shared.base.games → exactly_on board ≡ query
    → Stands (held_by kept (tables_with index watches') filter saved) seen (slotted s k slot)
watch_stands kept index watches watches' filter saved seen s k board slot query hits st is shown are on =
    let watch : Option Watched = Some (watch_from board filter hits) in
    subst (λ (x : Slot). Stands (held_by kept (tables_with index watches') filter saved) seen (slotted s k x)) (sym shown)
    (slot_stands kept index watches watches' filter saved seen s k (shows board) st
    (ap tables_in is ∙ tables_with_slot s watches k (shows board) watch (tables_of_slots kept index watches filter saved seen s st) (new_watch s query board filter hits are on)))

pub watch_is : (w : Window) (s : State) (number k : ℕ) (men : Men) (side : Colour) → IsSlotOf w number k → length s.slots ≡ 8
    → (watch_work w number men side).after s ≡ slotted s k (showing (packed_of men side) (slot_at s.slots k))
watch_is w s number k men side of eight =
    ap (λ (x : Slot). with_slot w s number (showing (packed_of men side) x)) (own_is w s number k of eight) ∙ with_is w s number k (showing (packed_of men side) (slot_at s.slots k)) of eight

new_right : {B : Type 0} (rows : B → List Row) (s : State) (board : Packed) (watch : Watched) (view : Option B) → hits_in watch.games ≡ shown_hits s board → IsSomeAnd view (λ view. Shows (hits_in watch.games) (rows view))
    → IsRight rows s (shows board) view
new_right rows s board watch None same shown = shown
new_right rows s board watch (Some view) same shown = subst (λ (hits : List GameHit). Shows hits (rows view)) same shown

pub watch_right : {B : Type 0} (rows : B → List Row) (w : Window) (s : State) (k at : ℕ) (board : Packed) (slot : Slot) (watch : Watched) (watches watches' : List (Option Watched)) (views views' : List (Option B))
    → AreRight rows w s views → slot ≡ shows board → k < length s.slots → k < length watches → at ≡ k → hits_in watch.games ≡ shown_hits s board
    → watches' ≡ slice_set watches k (Some watch) → IfSome (in_slot watches' k) (λ watch. IsSomeAnd (in_slot views' at) (λ view. Shows (hits_in watch.games) (rows view))) → ((i : ℕ) → (i ≡ at → ⊥) → in_slot views' i ≡ in_slot views i)
    → AreRight rows w (slotted s k slot) views'
watch_right rows w s k at board slot watch watches watches' views views' right is within below same hits new here others =
    let own : IsSomeAnd (in_slot views' at) (λ view. Shows (hits_in watch.games) (rows view)) = subst (λ (x : Option Watched). IfSome x (λ watch. IsSomeAnd (in_slot views' at) (λ view. Shows (hits_in watch.games) (rows view))))
    (ap (λ (l : List (Option Watched)). in_slot l k) new ∙ get_or-set_same watches k (Some watch) None below) here in
    right_beside rows w s k slot views views' right
    (get_or-set_same s.slots k slot empty within)
    (subst (λ (x : Slot). IsRight rows s x (in_slot views' k)) (sym is)
    (new_right rows s board watch (in_slot views' k) hits (subst (λ (n : ℕ). IsSomeAnd (in_slot views' n) (λ view. Shows (hits_in watch.games) (rows view))) same own)))
    (λ i other. others i (λ e. other (e ∙ same)))

new_told : {B : Type 0} (told : B → Told) (most : ℕ) (before after : Option B) → IsTold (λ most old new. ToldMore most (told old) (told new)) (Some most) before after → IsToldAtMost told most before after
new_told told most None after tells = tells
new_told told most (Some before) None tells = absurd tells
new_told told most (Some before) (Some after) tells = tells

-- Whether a number names this slot among a user's own.
names_it : (w : Window) (number i : ℕ) → (nat_lt number w.count && (w.first + number == i)) ≡ true → w.first + number ≡ i
names_it w number i is = eqb-true (w.first + number) i (and_parts (nat_lt number w.count) (w.first + number == i) is).1

names_other : (w : Window) (number i : ℕ) → number < w.count → (nat_lt number w.count && (w.first + number == i)) ≡ false → w.first + number ≡ i → ⊥
names_other w number i less is =
    let test : nat_lt number w.count ≡ true = lt-ltb number w.count less in
    let not : (w.first + number == i) ≡ false = rw test at is in
    eqb-false (w.first + number) i not

pub watch_told : {B : Type 0} (told : B → Told) (w : Window) (number at : ℕ) (hits shown : List GameHit) (views views' : List (Option B)) → number < w.count → at ≡ w.first + number → hits ≡ shown
    → IsTold (λ most old new. ToldMore most (told old) (told new)) (Some (1 + length hits)) (in_slot views at) (in_slot views' at) → ((i : ℕ) → (i ≡ at → ⊥) → in_slot views' i ≡ in_slot views i)
    → AreToldAtMost told (λ (j : ℕ). if nat_lt number w.count && (w.first + number == j) then 1 + length shown else 0) views views'
watch_told told w number at hits shown views views' less same are tells others j = by (nat_lt number w.count && (w.first + number == j)) refl
  where
    by : (b : Bool) → (nat_lt number w.count && (w.first + number == j)) ≡ b → IsToldAtMost told (if b then 1 + length shown else 0) (in_slot views j) (in_slot views' j)
    by true e =
        let is : at ≡ j = same ∙ names_it w number j e in
        subst (λ (n : ℕ). IsToldAtMost told (1 + length shown) (in_slot views n) (in_slot views' n)) is
        (subst (λ (l : List GameHit). IsToldAtMost told (1 + length l) (in_slot views at) (in_slot views' at)) are (new_told told (1 + length hits) (in_slot views at) (in_slot views' at) tells))
    by false e = told_same told 0 (in_slot views j) (in_slot views' j) (others j (λ is. names_other w number j less e (sym same ∙ sym is)))

pub watch_left : {B : Type 0} (w : Window) (number at : ℕ) (views views' : List (Option B)) → number < w.count → at ≡ w.first + number → ((i : ℕ) → (i ≡ at → ⊥) → in_slot views' i ≡ in_slot views i)
    → AreLeft (λ (i : ℕ). nat_lt number w.count && (w.first + number == i)) views views'
watch_left w number at views views' less same others i not = others i (λ is. names_other w number i less not (sym same ∙ sym is))

-- What each client sees behind a command of one.
use Rattle.std.proofs.Common.{◌≡◌, ◌<◌, ◌≤◌, ◌+◌, ◌-◌, ℕ, zero, suc, Bool, true, false, cond, ◌&&◌, ◌||◌, ◌==◌, List, [], ◌∷◌, ◌++◌, Option, Some, None, Result, Ok, Err, All, OnOk, length, map, unwrap_or, option_map, slice_get, refl, sym, ap, subst, ◌∙◌, arith, true≢false, ◌⊎◌, inl, inr}
use Rattle.std.proofs.lemmas.Bool.{eqb-false, eqb-true, ltb-true}
use Rattle.std.proofs.lemmas.List.{length-map}
use Rattle.std.proofs.lemmas.List.Elements.{All-head, All-tail}
use Rattle.std.specs.Prelude.{nat_lt}
use Rattle.base_files.specs.Seen.{Seen}
use Rattle.filter_seat.specs.Seats.{FitsGames, Seat, first_seat}
use Rattle.script_text.specs.Tasks.{Order, Task}
use Rattle.script_text.specs.declared.command.Command.TheVariants.{Watch}
use Rattle.shell_commands.proofs.MarkLaws.{CountAlike, right_alike}
use Rattle.shell_commands.proofs.SlotLaws.{task_others, task_stays}
use Rattle.shell_commands.specs.Tasks.{tasks}
use Rattle.shell_commands.specs.Watching.{ViewsDone, touches, watches}
use Rattle.base_core.specs.Base.{Base, Held}
use Rattle.shell_state.proofs.TableLaws.{in_tables}
use Rattle.shell_state.specs.Meeting.{tree_hits}
use Rattle.shell_state.specs.Slots.{Slot, exactly_on, slot_at, table_of}
use Rattle.shell_state.specs.Slots.Slot.{empty, idle, shows}
use Rattle.shell_state.specs.Stands.{Holding, Stands, Tables}
use Rattle.shell_state.specs.State.{State}
use Rattle.tree_live.specs.Slots.{in_slot}
use Rattle.tree_live.specs.Views.{Told}
use Rattle.tree_rows.specs.declared.row.Row.{Row}
use Rattle.view_commands.specs.Views.{AreLeft, AreRight, AreToldAtMost, IsRight, IsToldAtMost, changes_of, is_own, is_shown, slot_hits}
use Rattle.view_commands.proofs.ToldLaws.{told_same}
use Rattle.view_commands.specs.declared.window.Window.{Window}
use Rattle.desk_commands.proofs.BringLaws.{none_brought}
use Rattle.desk_commands.proofs.KindLaws.{public_seat}
use Rattle.desk_commands.proofs.OwnLaws.{both, either, far_own, is_one_of, not_own, number_of, one_of, own_is, owner_has}
use Rattle.desk_commands.proofs.SharedLaws.{private-keeps, same-shared}
use Rattle.desk_commands.proofs.ShowLaws.{Alike, count_alike, right_unshown, told_behind}
use Rattle.desk_commands.proofs.UnseenLaws.{adds_out, moves_seen, public_alike}
use Rattle.desk_commands.specs.Desk.{Desk, brought, desk_by, each_seat, own_tasks, seen_by, window_of}
use Rattle.desk_commands.specs.Doing.{most_told_by}
use Rattle.desk_commands.specs.Kinds.{is_private, is_seen, order_kind}
use Rattle.desk_commands.specs.Showing.{AreRightTo, AreShownTo, IsLater, but_one}
use Rattle.desk_commands.specs.Views.{AllRight, owner}
use Rattle.desk_commands.specs.declared.kinds.Kind.{Kind}
use Rattle.desk_commands.specs.Standing.{DeskHolding, DeskStands}
use Rattle.desk_commands.specs.declared.kinds.Kind.TheVariants.{Private, Public, Adds, Moves}

-- ---- seats

got_map : {A B : Type 0} (f : A → B) (xs : List A) (i : ℕ) → slice_get (map f xs) i ≡ option_map f (slice_get xs i)
got_map f [] zero = refl
got_map f [] (suc i) = refl
got_map f (x ∷ xs) zero = refl
got_map f (x ∷ xs) (suc i) = got_map f xs i

own_seat : (c : ℕ) (own : Seat) (bring : Seat → Seat) (seats : List Seat) → slice_get (each_seat c own bring seats) c ≡ option_map (λ seat. own) (slice_get seats c)
own_seat zero own bring [] = refl
own_seat (suc c) own bring [] = refl
own_seat zero own bring (seat ∷ seats) = refl
own_seat (suc c) own bring (seat ∷ seats) = own_seat c own bring seats

other_seat : (c by : ℕ) (own : Seat) (bring : Seat → Seat) (seats : List Seat) → (by ≡ c → ⊥) → slice_get (each_seat by own bring seats) c ≡ option_map bring (slice_get seats c)
other_seat zero by own bring [] differ = refl
other_seat (suc c) by own bring [] differ = refl
other_seat zero zero own bring (seat ∷ seats) differ = absurd (differ refl)
other_seat zero (suc by) own bring (seat ∷ seats) differ = refl
other_seat (suc c) zero own bring (seat ∷ seats) differ = got_map bring seats c
other_seat (suc c) (suc by) own bring (seat ∷ seats) differ = other_seat c by own bring seats (λ e. differ (ap (λ (n : ℕ). suc n) e))

got_there : {A : Type 0} (xs : List A) (i : ℕ) → i < length xs → (x : A) × (slice_get xs i ≡ Some x)
got_there [] i less = absurd (omega (arith, less))
got_there (x ∷ xs) zero less = (x, refl)
got_there (x ∷ xs) (suc i) less = got_there xs i (omega (arith, less))

pub each_long : (c : ℕ) (own : Seat) (bring : Seat → Seat) (seats : List Seat) → length (each_seat c own bring seats) ≡ length seats
each_long c own bring [] = refl
each_long zero own bring (seat ∷ seats) = ap (λ (n : ℕ). suc n) (length-map seats bring)
each_long (suc c) own bring (seat ∷ seats) = ap (λ (n : ℕ). suc n) (each_long c own bring seats)

-- The seats before a client's, his own, and those behind it.
pub each_split : (first : List Seat) (own old : Seat) (bring : Seat → Seat) (second : List Seat) → each_seat (length first) own bring (first ++ old ∷ second) ≡ map bring first ++ own ∷ map bring second
each_split [] own old bring second = refl
each_split (seat ∷ first) own old bring second = ap (λ (l : List Seat). bring seat ∷ l) (each_split first own old bring second)

-- ---- what they see

pub seen_own : (d : Desk) (c : ℕ) (t : Task) → c < length d.seats → seen_by (desk_by d c t) c ≡ (own_tasks d c).after (seen_by d c) t
seen_own d c t less =
    let s : State = (own_tasks d c).after (seen_by d c) t in
    let bring : Seat → Seat = brought t.order d.shared.base s.shared.base in
    let there = got_there d.seats c less in
    ap (λ (o : Option Seat). record { shared = s.shared; seat = unwrap_or o (first_seat 0); slots = s.slots })
    (own_seat c s.seat bring d.seats ∙ ap (λ (o : Option Seat). option_map (λ (seat : Seat). s.seat) o) there.1)

brings_none : (order : Order) (before after : Base) (o : Option Seat) → (order_kind order ≡ Private) ⊎ (order_kind order ≡ Public) → option_map (brought order before after) o ≡ o
brings_none order before after None is = refl
brings_none order before after (Some seat) is = ap (λ (x : Seat). Some x) (none_brought order before after seat is)

-- The filter of another client behind a command that brings nothing to it.
other_filter : (d : Desk) (c : ℕ) (t : Task) (other : ℕ) → (c ≡ other → ⊥) → (order_kind t.order ≡ Private) ⊎ (order_kind t.order ≡ Public) → (seen_by (desk_by d c t) other).seat.filter ≡ (seen_by d other).seat.filter
other_filter d c t other differ is =
    let s : State = (own_tasks d c).after (seen_by d c) t in
    let bring : Seat → Seat = brought t.order d.shared.base s.shared.base in
    ap (λ (o : Option Seat). (unwrap_or o (first_seat 0)).filter) (other_seat other c s.seat bring d.seats differ ∙ brings_none t.order d.shared.base s.shared.base (slice_get d.seats other) is)

-- Of a private command another client sees nothing.
seen_private : (d : Desk) (c : ℕ) (t : Task) (other : ℕ) → (c ≡ other → ⊥) → order_kind t.order ≡ Private → Alike (seen_by d other) (seen_by (desk_by d c t) other)
seen_private d c t other differ is = record {
  shared = sym (private-keeps (window_of d.clients c) t.order t.body d.shared (record { seat = (seen_by d c).seat; slots = d.slots }) (ap is_private is));
  filter = sym (other_filter d c t other differ (inl is));
}

-- It sees what is shared as if it had said a public one.
seen_public : (d : Desk) (c : ℕ) (t : Task) (other : ℕ) → (c ≡ other → ⊥) → order_kind t.order ≡ Public → Alike ((own_tasks d c).after (seen_by d other) t) (seen_by (desk_by d c t) other)
seen_public d c t other differ is = record {
  shared = same-shared (window_of d.clients c) t.order t.body d.shared (record { seat = (seen_by d other).seat; slots = d.slots }) (record { seat = (seen_by d c).seat; slots = d.slots });
  filter = ap (λ (seat : Seat). seat.filter) (public_seat (window_of d.clients c) t.order t.body (seen_by d other) is) ∙ sym (other_filter d c t other differ (inr is));
}

-- Its trees count the same behind a line that it can't see.
pub seen_alike : (d : Desk) (c : ℕ) (t : Task) (other : ℕ) → (c ≡ other → ⊥) → length (seen_by d other).seat.filter ≤ length d.shared.base.games → is_seen t.order ≡ false → CountAlike (seen_by d other) (seen_by (desk_by d c t) other)
seen_alike d c t other differ fit unseen = by (order_kind t.order) refl
  where
    s : State
    s = (own_tasks d c).after (seen_by d c) t

    by : (kind : Kind) → order_kind t.order ≡ kind → CountAlike (seen_by d other) (seen_by (desk_by d c t) other)
    by Private is = count_alike (seen_by d other) (seen_by (desk_by d c t) other) (seen_private d c t other differ is)
    by Public is = λ board.
        count_alike ((own_tasks d c).after (seen_by d other) t) (seen_by (desk_by d c t) other) (seen_public d c t other differ is) board
        ∙ public_alike (window_of d.clients c) t.order t.body (seen_by d other) is unseen board
    by Adds is = λ board.
        ap (λ (o : Option Seat). tree_hits (exactly_on board) (unwrap_or o (first_seat 0)).filter s.shared.base.games) (other_seat other c s.seat (brought t.order d.shared.base s.shared.base) d.seats differ)
        ∙ adds_out (window_of d.clients c) (exactly_on board) t.order t.body (seen_by d c) (slice_get d.seats other) is fit
    by Moves is = absurd (moves_seen t.order is unseen)

within : (seats : List Seat) (games o : ℕ) → All (λ (seat : Seat). FitsGames seat games) seats → length (unwrap_or (slice_get seats o) (first_seat 0)).filter ≤ games
within [] games zero all = omega arith
within [] games (suc o) all = omega arith
within (seat ∷ seats) games zero all = omega (arith, (All-head (λ (seat : Seat). FitsGames seat games) seat seats all).filter)
within (seat ∷ seats) games (suc o) all = within seats games o (All-tail (λ (seat : Seat). FitsGames seat games) seat seats all)

-- No filter of a desk has more entries than there are games.
pub filters_within : (held : DeskHolding) (seen : Seen) (d : Desk) → DeskStands held seen d → All (λ (seat : Seat). FitsGames seat (length held.holding.kept.entries)) held.seats
    → (o : ℕ) → length (seen_by d o).seat.filter ≤ length d.shared.base.games
filters_within held seen d st all o =
    let count : length held.holding.kept.entries ≡ length d.shared.base.games = (st.stands (first_seat 0)).base.count in
    let least = within held.seats (length held.holding.kept.entries) o all in
    subst (λ (n : ℕ). length (seen_by d o).seat.filter ≤ n) count (subst (λ (l : List Seat). length (unwrap_or (slice_get l o) (first_seat 0)).filter ≤ length held.holding.kept.entries) st.seats least)

-- ---- slots

watch_by : (w : Window) (slot i : ℕ) → (nat_lt slot w.count && (w.first + slot == i)) ≡ true → is_own w i ≡ true
watch_by w slot i is =
    let parts = both (nat_lt slot w.count) (w.first + slot == i) is in
    let low : w.first + slot ≡ i = eqb-true (w.first + slot) i parts.1 in
    let high : slot < w.count = ltb-true slot w.count parts.0 in
    within w i (omega (arith, low)) (omega (arith, low, high))
  where
    within : (w : Window) (i : ℕ) → w.first ≤ i → i < w.first + w.count → is_own w i ≡ true
    within w i low high = grind arith

watch_own : (w : Window) (order : Order) (i : ℕ) → watches w order i ≡ true → is_own w i ≡ true
watch_own w (Ok (Watch slot board side)) i is = watch_by w slot i is
watch_own w _ i is = absurd cc

pub watch_not : (w : Window) (order : Order) (i : ℕ) → is_own w i ≡ false → watches w order i ≡ false
watch_not w order i none = elim (either (watches w order i)) [
  | inl is ↦ absurd (true≢false (sym (watch_own w order i is) ∙ none))
  | inr is ↦ is
]

pub untouched : (w : Window) (s : State) (order : Order) (i : ℕ) → is_own w i ≡ false → touches w s order i ≡ false
untouched w s order i none = rw (none, watch_not w order i none) refl

-- A command that others see leaves what the slots show.
slots_stay : (w : Window) (s : State) (t : Task) → is_seen t.order ≡ true → ((tasks w).after s t).slots ≡ s.slots
slots_stay w s t is = task_stays w s t (λ k board side same. true≢false (sym is ∙ ap is_seen same)) (λ k same. true≢false (sym is ∙ ap is_seen same))

-- ---- the views

-- Behind the command of a client, before and after it was shown to the others: they are shown nothing if their trees count the same.
pub data ToOthers {B : Type 0} (rows : B → List Row) (told : B → Told) (d : Desk) (c : ℕ) (t : Task) (mid after : List (Option B)) : Type 0 where
  none_shown : ((other : ℕ) → (c ≡ other → ⊥) → CountAlike (seen_by d other) (seen_by (desk_by d c t) other)) → after ≡ mid → ToOthers rows told d c t mid after
  all_shown : AreShownTo rows told (but_one c (number_of d.clients.tagged)) d (desk_by d c t) mid after → ToOthers rows told d c t mid after

pub record Shown {B : Type 0} (rows : B → List Row) (told : B → Told) (d : Desk) (c : ℕ) (t : Task) (before mid after : List (Option B)) : Type 0 where
  pub there : c < length d.seats
  pub room : c < number_of d.clients.tagged
  pub right : AllRight rows d before
  pub done : ViewsDone rows told (window_of d.clients c) (seen_by d c) t before mid
  pub left : AreLeft (touches (window_of d.clients c) (seen_by d c) t.order) before mid
  pub few : (i : ℕ) → 8 ≤ i → is_shown (slot_at d.slots i) ≡ false
  pub others : ToOthers rows told d c t mid after

-- A slot that is no other client's keeps its view while it is shown to them.
stays : {B : Type 0} (rows : B → List Row) (told : B → Told) (d : Desk) (c : ℕ) (t : Task) (mid after : List (Option B)) (i : ℕ) → ((client : ℕ) → but_one c (number_of d.clients.tagged) client ≡ true → is_own (window_of d.clients client) i ≡ false)
    → ToOthers rows told d c t mid after → in_slot after i ≡ in_slot mid i
stays rows told d c t mid after i none (none_shown alike same) = ap (λ views. in_slot views i) same
stays rows told d c t mid after i none (all_shown shown) = shown.others i none

-- A slot of another client.
other_right : {B : Type 0} (rows : B → List Row) (told : B → Told) (d : Desk) (c o : ℕ) (t : Task) (mid after : List (Option B)) (i : ℕ) → (c ≡ o → ⊥) → o < number_of d.clients.tagged → is_own (window_of d.clients o) i ≡ true
    → IsRight rows (seen_by d o) (slot_at d.slots i) (in_slot mid i) → ToOthers rows told d c t mid after → IsRight rows (seen_by (desk_by d c t) o) (slot_at d.slots i) (in_slot after i)
other_right rows told d c o t mid after i differ less own right (none_shown alike same) =
    subst (λ views. IsRight rows (seen_by (desk_by d c t) o) (slot_at d.slots i) (in_slot views i)) (sym same)
    (right_alike rows (seen_by d o) (seen_by (desk_by d c t) o) (slot_at d.slots i) (in_slot mid i) (alike o differ) right)
other_right rows told d c o t mid after i differ less own right (all_shown shown) = shown.right o i (is_one_of c (number_of d.clients.tagged) o less (λ same. differ (sym same))) own

other_told : {B : Type 0} (rows : B → List Row) (told : B → Told) (d : Desk) (c o : ℕ) (t : Task) (before mid after : List (Option B)) (i : ℕ) → (c ≡ o → ⊥) → o < number_of d.clients.tagged → is_own (window_of d.clients o) i ≡ true
    → in_slot mid i ≡ in_slot before i → ToOthers rows told d c t mid after → IsToldAtMost told (changes_of (seen_by d o) (seen_by (desk_by d c t) o) (slot_at d.slots i)) (in_slot before i) (in_slot after i)
other_told rows told d c o t before mid after i differ less own kept (none_shown alike same) = told_same told _ (in_slot before i) (in_slot after i) (ap (λ views. in_slot views i) same ∙ kept)
other_told rows told d c o t before mid after i differ less own kept (all_shown shown) =
    told_behind told _ (in_slot before i) (in_slot mid i) (in_slot after i) kept (shown.counted o i (is_one_of c (number_of d.clients.tagged) o less (λ same. differ (sym same))) own)

-- What is to be shown of a slot.
record SlotDone {B : Type 0} (rows : B → List Row) (told : B → Told) (d : Desk) (c : ℕ) (t : Task) (i : ℕ) (before after : Option B) : Type 0 where
  right : IsRight rows (seen_by (desk_by d c t) (owner d.clients.tagged i)) (slot_at (desk_by d c t).slots i) after
  counted : IsToldAtMost told (most_told_by d c t i) before after

slot_kept : (d : Desk) (c : ℕ) (t : Task) (i : ℕ) → is_own (window_of d.clients c) i ≡ false → slot_at (desk_by d c t).slots i ≡ slot_at d.slots i
slot_kept d c t i none = task_others (window_of d.clients c) (seen_by d c) t i none

told_other : (d : Desk) (c : ℕ) (t : Task) (i : ℕ) → is_own (window_of d.clients c) i ≡ false
    → most_told_by d c t i ≡ changes_of (seen_by d (owner d.clients.tagged i)) (seen_by (desk_by d c t) (owner d.clients.tagged i)) (slot_at d.slots i)
told_other d c t i none = rw (watch_not (window_of d.clients c) t.order i none) refl

far_done : {B : Type 0} (rows : B → List Row) (told : B → Told) (d : Desk) (c : ℕ) (t : Task) (before mid after : List (Option B)) (i : ℕ) → Shown rows told d c t before mid after → 8 ≤ i → SlotDone rows told d c t i (in_slot before i) (in_slot after i)
far_done rows told d c t before mid after i shown far =
    let none : is_own (window_of d.clients c) i ≡ false = far_own d.clients c i shown.room far in
    let same : in_slot after i ≡ in_slot before i =
    stays rows told d c t mid after i (λ client is. far_own d.clients client i (one_of c (number_of d.clients.tagged) client is).0 far) shown.others
    ∙ shown.left i (untouched (window_of d.clients c) (seen_by d c) t.order i none) in
    let o : ℕ = owner d.clients.tagged i in
    record {
      right = subst (λ (slot : Slot). IsRight rows (seen_by (desk_by d c t) o) slot (in_slot after i)) (sym (slot_kept d c t i none))
          (right_unshown rows (seen_by d o) (seen_by (desk_by d c t) o) (slot_at d.slots i) (in_slot after i) (shown.few i far)
          (subst (λ view. IsRight rows (seen_by d o) (slot_at d.slots i) view) (sym same) (shown.right i)));
      counted = told_same told _ (in_slot before i) (in_slot after i) same;
    }

other_done : {B : Type 0} (rows : B → List Row) (told : B → Told) (d : Desk) (c : ℕ) (t : Task) (before mid after : List (Option B)) (i : ℕ) → Shown rows told d c t before mid after → i < 8 → (c ≡ owner d.clients.tagged i → ⊥)
    → SlotDone rows told d c t i (in_slot before i) (in_slot after i)
other_done rows told d c t before mid after i shown near differ =
    let o : ℕ = owner d.clients.tagged i in
    let has = owner_has d.clients i near in
    let none : is_own (window_of d.clients c) i ≡ false = not_own d.clients c i shown.room (λ same. differ (sym same)) in
    let kept : in_slot mid i ≡ in_slot before i = shown.left i (untouched (window_of d.clients c) (seen_by d c) t.order i none) in
    record {
      right = subst (λ (slot : Slot). IsRight rows (seen_by (desk_by d c t) o) slot (in_slot after i)) (sym (slot_kept d c t i none))
          (other_right rows told d c o t mid after i differ has.1 has.0 (subst (λ view. IsRight rows (seen_by d o) (slot_at d.slots i) view) (sym kept) (shown.right i)) shown.others);
      counted = subst (λ (most : ℕ). IsToldAtMost told most (in_slot before i) (in_slot after i)) (sym (told_other d c t i none)) (other_told rows told d c o t before mid after i differ has.1 has.0 kept shown.others);
    }

own_right : {B : Type 0} (rows : B → List Row) (told : B → Told) (d : Desk) (c : ℕ) (t : Task) (before mid after : List (Option B)) (i : ℕ) → Shown rows told d c t before mid after → i < 8 → owner d.clients.tagged i ≡ c
    → SlotDone rows told d c t i (in_slot before i) (in_slot after i)
own_right rows told d c t before mid after i shown near is =
    let w : Window = window_of d.clients c in
    let has = owner_has d.clients i near in
    let own : is_own w i ≡ true = subst (λ (o : ℕ). is_own (window_of d.clients o) i ≡ true) is has.0 in
    let same : in_slot after i ≡ in_slot mid i =
    stays rows told d c t mid after i (λ client one. not_own d.clients client i (one_of c (number_of d.clients.tagged) client one).0 (λ mine. (one_of c (number_of d.clients.tagged) client one).1 (sym mine ∙ is))) shown.others in
    let later : State = (own_tasks d c).after (seen_by d c) t in
    let seen : seen_by (desk_by d c t) c ≡ later = seen_own d c t shown.there in
    let most : State → ℕ = λ s. cond (watches w t.order i) (1 + length (slot_hits s (slot_at later.slots i))) (changes_of (seen_by d c) s (slot_at d.slots i)) in
    record {
      right = subst (λ (o : ℕ). IsRight rows (seen_by (desk_by d c t) o) (slot_at (desk_by d c t).slots i) (in_slot after i)) (sym is)
          (subst (λ (s : State). IsRight rows s (slot_at later.slots i) (in_slot after i)) (sym seen) (subst (λ view. IsRight rows later (slot_at later.slots i) view) (sym same) (shown.done.right i own)));
      counted = subst (λ (o : ℕ). IsToldAtMost told (cond (watches w t.order i) (1 + length (slot_hits (seen_by (desk_by d c t) o) (slot_at later.slots i))) (changes_of (seen_by d o) (seen_by (desk_by d c t) o) (slot_at d.slots i))) (in_slot before i) (in_slot after i)) (sym is)
          (subst (λ (s : State). IsToldAtMost told (most s) (in_slot before i) (in_slot after i)) (sym seen)
          (subst (λ view. IsToldAtMost told (most later) (in_slot before i) view) (sym same)
          (subst (λ (b : Bool). IsToldAtMost told (cond b (most later) 0) (in_slot before i) (in_slot mid i)) own (shown.done.counted i))));
    }

slot_done : {B : Type 0} (rows : B → List Row) (told : B → Told) (d : Desk) (c : ℕ) (t : Task) (before mid after : List (Option B)) (i : ℕ) → Shown rows told d c t before mid after → SlotDone rows told d c t i (in_slot before i) (in_slot after i)
slot_done rows told d c t before mid after i shown = by-place (nat_lt i 8) refl
  where
    by-owner : (b : Bool) → (owner d.clients.tagged i == c) ≡ b → i < 8 → SlotDone rows told d c t i (in_slot before i) (in_slot after i)
    by-owner true e near = own_right rows told d c t before mid after i shown near (eqb-true (owner d.clients.tagged i) c e)
    by-owner false e near = other_done rows told d c t before mid after i shown near (λ same. eqb-false (owner d.clients.tagged i) c e (sym same))

    by-place : (b : Bool) → nat_lt i 8 ≡ b → SlotDone rows told d c t i (in_slot before i) (in_slot after i)
    by-place true e = by-owner (owner d.clients.tagged i == c) refl (ltb-true i 8 e)
    by-place false e = far_done rows told d c t before mid after i shown (grind (arith, e))

pub right_behind : {B : Type 0} (rows : B → List Row) (told : B → Told) (d : Desk) (c : ℕ) (t : Task) (before mid after : List (Option B)) → Shown rows told d c t before mid after → AllRight rows (desk_by d c t) after
right_behind rows told d c t before mid after shown i = (slot_done rows told d c t before mid after i shown).right

pub told_most : {B : Type 0} (rows : B → List Row) (told : B → Told) (d : Desk) (c : ℕ) (t : Task) (before mid after : List (Option B)) → Shown rows told d c t before mid after → AreToldAtMost told (most_told_by d c t) before after
told_most rows told d c t before mid after shown i = (slot_done rows told d c t before mid after i shown).counted

neither : (a b : Bool) → (a || b) ≡ false → (a ≡ false) × (b ≡ false)
neither true b is = absurd cc
neither false true is = absurd cc
neither false false is = (refl, refl)

pub and_none : (b : Bool) → (b && false) ≡ false
and_none true = refl
and_none false = refl

pub left_first : {B : Type 0} (d : Desk) (c : ℕ) (order : Order) (before mid : List (Option B)) → AreLeft (touches (window_of d.clients c) (seen_by d c) order) before mid
    → AreLeft (λ i. is_shown (slot_at d.slots i) || watches (window_of d.clients c) order i) before mid
left_first d c order before mid left i is =
    let parts = neither (is_shown (slot_at d.slots i)) (watches (window_of d.clients c) order i) is in
    left i (rw (parts.0, and_none (is_own (window_of d.clients c) i), parts.1) refl)

pub left_behind : {B : Type 0} (d : Desk) (c : ℕ) (order : Order) (before mid after : List (Option B)) → AreLeft (touches (window_of d.clients c) (seen_by d c) order) before mid → AreLeft (λ i. is_shown (slot_at d.slots i)) mid after
    → AreLeft (λ i. is_shown (slot_at d.slots i) || watches (window_of d.clients c) order i) before after
left_behind d c order before mid after left later i is =
    let parts = neither (is_shown (slot_at d.slots i)) (watches (window_of d.clients c) order i) is in
    later i parts.0 ∙ left_first d c order before mid left i is

-- ---- at the beginning of a command

pub right_own : {B : Type 0} (rows : B → List Row) (d : Desk) (c : ℕ) (views : List (Option B)) → c < number_of d.clients.tagged → AllRight rows d views → AreRight rows (window_of d.clients c) (seen_by d c) views
right_own rows d c views less right i own =
    subst (λ (o : ℕ). IsRight rows (seen_by d o) (slot_at d.slots i) (in_slot views i)) (own_is d.clients c i less own).0 (right i)

unshown_by : (games : List Held) (slot : Slot) → table_of games slot ≡ None → is_shown slot ≡ false
unshown_by games empty none = refl
unshown_by games idle none = refl
unshown_by games (shows board) none = absurd cc

-- A slot past the eighth shows nothing.
pub far_unshown : (holding : Holding) (seen : Seen) (s : State) → Stands holding seen s → ((i : ℕ) → 8 ≤ i → in_slot holding.tables.hits i ≡ None) → (i : ℕ) → 8 ≤ i → is_shown (slot_at s.slots i) ≡ false
far_unshown holding seen s st none i far =
    unshown_by s.shared.base.games (slot_at s.slots i) (sym (in_tables s.shared.base.games s.slots i) ∙ (ap (λ (t : Tables). in_slot t.hits i) (sym st.tables) ∙ none i far))

-- ---- where it was shown, or was not to be

shown_by : {B : Type 0} (rows : B → List Row) (told : B → Told) (d : Desk) (c : ℕ) (t : Task) (mid after : List (Option B)) (b : Bool) → is_seen t.order ≡ b → ((other : ℕ) → length (seen_by d other).seat.filter ≤ length d.shared.base.games)
    → (is_seen t.order ≡ false → after ≡ mid) → (is_seen t.order ≡ true → AreShownTo rows told (but_one c (number_of d.clients.tagged)) d (desk_by d c t) mid after) → ToOthers rows told d c t mid after
shown_by rows told d c t mid after false is within none all = none_shown (λ other differ. seen_alike d c t other differ (within other) is) (none is)
shown_by rows told d c t mid after true is within none all = all_shown (all is)

to_others : {A E B : Type 0} (r : Result A E) (rows : B → List Row) (told : B → Told) (d : Desk) (c : ℕ) (t : Task) (mid after : List (Option B)) → ((other : ℕ) → length (seen_by d other).seat.filter ≤ length d.shared.base.games)
    → (is_seen t.order ≡ false → after ≡ mid) → (is_seen t.order ≡ true → OnOk r (AreShownTo rows told (but_one c (number_of d.clients.tagged)) d (desk_by d c t) mid after)) → OnOk r (ToOthers rows told d c t mid after)
to_others (Ok x) rows told d c t mid after within none all = shown_by rows told d c t mid after (is_seen t.order) refl within none all
to_others (Err e) rows told d c t mid after within none all = tt

pub all_shown_to : {A E B : Type 0} (r : Result A E) (rows : B → List Row) (told : B → Told) (d : Desk) (c : ℕ) (t : Task) (before mid after : List (Option B)) → c < length d.seats → c < number_of d.clients.tagged → AllRight rows d before
    → ViewsDone rows told (window_of d.clients c) (seen_by d c) t before mid → AreLeft (touches (window_of d.clients c) (seen_by d c) t.order) before mid → ((i : ℕ) → 8 ≤ i → is_shown (slot_at d.slots i) ≡ false)
    → ((other : ℕ) → length (seen_by d other).seat.filter ≤ length d.shared.base.games)
    → (is_seen t.order ≡ false → after ≡ mid) → (is_seen t.order ≡ true → OnOk r (AreShownTo rows told (but_one c (number_of d.clients.tagged)) d (desk_by d c t) mid after)) → OnOk r (Shown rows told d c t before mid after)
all_shown_to r rows told d c t before mid after there room right done left few within none all =
    shown_ok r rows told d c t before mid after there room right done left few (to_others r rows told d c t mid after within none all)
  where
    shown_ok : {A E B : Type 0} (r : Result A E) (rows : B → List Row) (told : B → Told) (d : Desk) (c : ℕ) (t : Task) (before mid after : List (Option B)) → c < length d.seats → c < number_of d.clients.tagged → AllRight rows d before
        → ViewsDone rows told (window_of d.clients c) (seen_by d c) t before mid → AreLeft (touches (window_of d.clients c) (seen_by d c) t.order) before mid → ((i : ℕ) → 8 ≤ i → is_shown (slot_at d.slots i) ≡ false)
        → OnOk r (ToOthers rows told d c t mid after) → OnOk r (Shown rows told d c t before mid after)
    shown_ok (Ok x) rows told d c t before mid after there room right done left few others = record { there = there; room = room; right = right; done = done; left = left; few = few; others = others }
    shown_ok (Err e) rows told d c t before mid after there room right done left few others = tt

pub ok_right : {A E B : Type 0} (r : Result A E) (rows : B → List Row) (told : B → Told) (d : Desk) (c : ℕ) (t : Task) (before mid after : List (Option B)) → OnOk r (Shown rows told d c t before mid after) → OnOk r (AllRight rows (desk_by d c t) after)
ok_right (Ok x) rows told d c t before mid after shown = right_behind rows told d c t before mid after shown
ok_right (Err e) rows told d c t before mid after shown = tt

pub ok_told : {A E B : Type 0} (r : Result A E) (rows : B → List Row) (told : B → Told) (d : Desk) (c : ℕ) (t : Task) (before mid after : List (Option B)) → OnOk r (Shown rows told d c t before mid after) → OnOk r (AreToldAtMost told (most_told_by d c t) before after)
ok_told (Ok x) rows told d c t before mid after shown = told_most rows told d c t before mid after shown
ok_told (Err e) rows told d c t before mid after shown = tt

-- A desk whose slots a command leaves.
pub later_of : (d : Desk) (c : ℕ) (t : Task) → is_seen t.order ≡ true → IsLater d (desk_by d c t)
later_of d c t is = record { slots = slots_stay (window_of d.clients c) (seen_by d c) t is; clients = refl }

pub left_after : {B : Type 0} (d : Desk) (c : ℕ) (t : Task) (before mid after : List (Option B)) → AreLeft (touches (window_of d.clients c) (seen_by d c) t.order) before mid → (is_seen t.order ≡ false → after ≡ mid)
    → (is_seen t.order ≡ true → AreLeft (λ i. is_shown (slot_at d.slots i)) mid after) → AreLeft (λ i. is_shown (slot_at d.slots i) || watches (window_of d.clients c) t.order i) before after
left_after {B = B} d c t before mid after left none later = elim (either (is_seen t.order)) [
  | inl is ↦ left_behind d c t.order before mid after left (later is)
  | inr is ↦ subst (λ (views : List (Option B)). AreLeft (λ i. is_shown (slot_at d.slots i) || watches (window_of d.clients c) t.order i) before views) (sym (none is)) (left_first d c t.order before mid left)
]

pub held_on_ok : {A E H : Type 0} (r : Result A E) (new old : H) (P : H → Type 0) → OnOk r (new ≡ old) → P old → OnOk r (P new)
held_on_ok (Ok x) new old P same p = subst P (sym same) p
held_on_ok (Err e) new old P same p = tt

-- The views of the others are right still.
pub right_others : {B : Type 0} (rows : B → List Row) (d : Desk) (c : ℕ) (t : Task) (before mid : List (Option B)) → c < number_of d.clients.tagged → AllRight rows d before → AreLeft (touches (window_of d.clients c) (seen_by d c) t.order) before mid
    → AreRightTo rows (but_one c (number_of d.clients.tagged)) d mid
right_others {B = B} rows d c t before mid room right left client among i own =
    let one = one_of c (number_of d.clients.tagged) client among in
    let owner_is = (own_is d.clients client i one.0 own).0 in
    let none : is_own (window_of d.clients c) i ≡ false = not_own d.clients c i room (λ (mine : owner d.clients.tagged i ≡ c). one.1 (sym owner_is ∙ mine)) in
    subst (λ (view : Option B). IsRight rows (seen_by d client) (slot_at d.slots i) view) (sym (left i (untouched (window_of d.clients c) (seen_by d c) t.order i none)))
    (right_own rows d client before one.0 right i own)

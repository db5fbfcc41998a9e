-- The views of all clients behind a command of one.
use Rattle.std.proofs.Common.{◌≡◌, ◌<◌, ◌+◌, ℕ, zero, suc, Bool, true, false, cond, ◌&&◌, ◌==◌, List, [], ◌∷◌, Option, Some, Result, Ok, Err, All, OnOk, get_or, set, slice_get, unwrap_or, length, refl, sym, ap, ap₂, subst, ◌∙◌, arith, ◌⊎◌, inl, inr}
use Rattle.std.proofs.lemmas.Bool.{eqb-false, eqb-true}
use Rattle.std.proofs.lemmas.List.{get_or-map, length-map}
use Rattle.filter_seat.specs.Seats.{FitsGames, Seat, first_seat}
use Rattle.filter_seat.specs.declared.seat.Seat.{Seat as SeatStruct}
use Rattle.script_lines.specs.Clients.{Clients}
use Rattle.shell_commands.proofs.MarkLaws.{CountAlike}
use Rattle.shell_state.specs.Slots.{Slot, slot_at}
use Rattle.shell_state.specs.Slots.Slot.{empty, idle, shows}
use Rattle.shell_state.specs.State.{Shared, State}
use Rattle.shell_state.specs.Slots.{exactly_on}
use Rattle.shell_state.specs.Meeting.{tree_hits}
use Rattle.tree_live.specs.Slots.{in_slot}
use Rattle.tree_live.specs.Views.{Told}
use Rattle.tree_rows.specs.declared.row.Row.{Row}
use Rattle.view_commands.specs.Views.{AreLeft, AreRight, AreToldAtMost, IsRight, IsToldAtMost, changes_of, is_own, is_shown, shown_hits}
use Rattle.cell_core.specs.Packed.{Packed}
use Rattle.desk_commands.proofs.OwnLaws.{is_one_of, not_own, number_of, one_of, own_is}
use Rattle.desk_commands.specs.Desk.{Desk, seen_by, window_of}
use Rattle.desk_commands.specs.Showing.{AreRightTo, AreShownTo, IsLater, ShownOne, but_one}
use Rattle.desk_commands.specs.Standing.{seat_of, seats_of}
use Rattle.desk_commands.specs.Views.{owner}

-- ---- states that views can't tell apart

-- The same is shared, and the same games are in.
pub record Alike (s t : State) : Type 0 where
  pub shared : s.shared ≡ t.shared
  pub filter : s.seat.filter ≡ t.seat.filter

same_hits : (s t : State) (board : Packed) → Alike s t → shown_hits s board ≡ shown_hits t board
same_hits s t board alike = ap₂ (λ (plies : List (Option ℕ)) (h : Shared). tree_hits (exactly_on board) plies h.base.games) alike.filter alike.shared

pub count_alike : (s t : State) → Alike s t → CountAlike s t
count_alike s t alike = λ board. sym (same_hits s t board alike)

-- A slot that shows nothing.
pub right_unshown : {B : Type 0} (rows : B → List Row) (s t : State) (slot : Slot) (view : Option B) → is_shown slot ≡ false → IsRight rows s slot view → IsRight rows t slot view
right_unshown rows s t empty view none is = is
right_unshown rows s t idle view none is = is
right_unshown rows s t (shows board) view none is = absurd cc

-- First no change, and then some.
pub told_behind : {B : Type 0} (told : B → Told) (most : ℕ) (before mid after : Option B) → mid ≡ before → IsToldAtMost told most mid after → IsToldAtMost told most before after
told_behind {B = B} told most before mid after same is = subst (λ (view : Option B). IsToldAtMost told most view after) same is

-- ---- one client more is shown

pub shown_none : {B : Type 0} (rows : B → List Row) (told : B → Told) (by : ℕ) (d later : Desk) (views : List (Option B)) → AreShownTo rows told (but_one by 0) d later views views
shown_none rows told by d later views = record {
  right = λ client i is own. absurd (omega (arith, (one_of by 0 client is).0));
  counted = λ client i is own. absurd (omega (arith, (one_of by 0 client is).0));
  others = λ i none. refl;
  left = λ i none. refl;
}

-- Those below the next number are those below this one, and this one.
below_more : (by step client : ℕ) → but_one by (step + 1) client ≡ true → (client ≡ step) ⊎ (but_one by step client ≡ true)
below_more by step client is = below-by (client == step) refl
  where
    below-by : (b : Bool) → (client == step) ≡ b → (client ≡ step) ⊎ (but_one by step client ≡ true)
    below-by true e = inl (eqb-true client step e)
    below-by false e =
        let one = one_of by (step + 1) client is in
        let differ : client ≡ step → ⊥ = eqb-false client step e in
        inr (is_one_of by step client (omega (arith, one.0, differ)) one.1)

below_step : (by step client : ℕ) → but_one by step client ≡ true → but_one by (step + 1) client ≡ true
below_step by step client is =
    let one = one_of by step client is in
    is_one_of by (step + 1) client (omega (arith, one.0)) one.1

-- The client himself is passed over.
pub shown_past : {B : Type 0} (rows : B → List Row) (told : B → Told) (by : ℕ) (d later : Desk) (before after : List (Option B)) → AreShownTo rows told (but_one by by) d later before after → AreShownTo rows told (but_one by (by + 1)) d later before after
shown_past rows told by d later before after shown = record {
  right = λ client i is own. shown.right client i (still client is) own;
  counted = λ client i is own. shown.counted client i (still client is) own;
  others = λ i none. shown.others i (λ client is. none client (below_step by by client is));
  left = shown.left;
}
  where
    still : (client : ℕ) → but_one by (by + 1) client ≡ true → but_one by by client ≡ true
    still client is =
        let one = one_of by (by + 1) client is in
        let differ = one.1 in
        is_one_of by by client (omega (arith, one.0, differ)) differ

-- A slot is not the own one of two clients.
apart : (clients : Clients) (client step i : ℕ) → client < number_of clients.tagged → step < number_of clients.tagged → (client ≡ step → ⊥) → is_own (window_of clients client) i ≡ true → is_own (window_of clients step) i ≡ false
apart clients client step i less more differ own = not_own clients step i more (λ (is : owner clients.tagged i ≡ step). differ (sym (own_is clients client i less own).0 ∙ is))

pub shown_more : {B : Type 0} (rows : B → List Row) (told : B → Told) (by step : ℕ) (d later : Desk) (before mid after : List (Option B)) → IsLater d later → step < number_of d.clients.tagged → (step ≡ by → ⊥)
    → AreShownTo rows told (but_one by step) d later before mid → ShownOne rows told step d later mid after → AreShownTo rows told (but_one by (step + 1)) d later before after
shown_more {B = B} rows told by step d later before mid after is_later room differ shown one = record {
  right = λ client i is own. elim (below_more by step client is) [
    | inl same ↦ right_here client i same own
    | inr still ↦ right_there client i still own
  ];
  counted = λ client i is own. elim (below_more by step client is) [
    | inl same ↦ told_here client i same own
    | inr still ↦ told_there client i still own
  ];
  others = λ i none. one.others i (none step (is_one_of by (step + 1) step (omega arith) differ)) ∙ shown.others i (λ client is. none client (below_step by step client is));
  left = λ i none. one.left i (unshown i none) ∙ shown.left i none;
}
  where
    slots_at : (i : ℕ) → slot_at later.slots i ≡ slot_at d.slots i
    slots_at i = ap (λ (slots : List Slot). slot_at slots i) is_later.slots

    and_false : (b : Bool) → (b && false) ≡ false
    and_false true = refl
    and_false false = refl

    unshown : (i : ℕ) → is_shown (slot_at d.slots i) ≡ false → (is_own (window_of d.clients step) i && is_shown (slot_at later.slots i)) ≡ false
    unshown i none = ap (λ (b : Bool). is_own (window_of d.clients step) i && b) (ap is_shown (slots_at i) ∙ none) ∙ and_false (is_own (window_of d.clients step) i)

    below : (client : ℕ) → but_one by step client ≡ true → client < number_of d.clients.tagged
    below client is = omega (arith, (one_of by step client is).0, room)

    kept : (client i : ℕ) → but_one by step client ≡ true → is_own (window_of d.clients client) i ≡ true → in_slot after i ≡ in_slot mid i
    kept client i is own = one.others i (apart d.clients client step i (below client is) room (λ (same : client ≡ step). omega (arith, (one_of by step client is).0, same)) own)

    before_here : (i : ℕ) → is_own (window_of d.clients step) i ≡ true → in_slot mid i ≡ in_slot before i
    before_here i own = shown.others i (λ client is. apart d.clients step client i room (below client is) (λ (same : step ≡ client). omega (arith, (one_of by step client is).0, same)) own)

    right_here : (client i : ℕ) → client ≡ step → is_own (window_of d.clients client) i ≡ true → IsRight rows (seen_by later client) (slot_at d.slots i) (in_slot after i)
    right_here client i same own =
        let mine : is_own (window_of d.clients step) i ≡ true = subst (λ (c : ℕ). is_own (window_of d.clients c) i ≡ true) same own in
        subst (λ (c : ℕ). IsRight rows (seen_by later c) (slot_at d.slots i) (in_slot after i)) (sym same)
        (subst (λ (slot : Slot). IsRight rows (seen_by later step) slot (in_slot after i)) (slots_at i) (one.right i mine))

    right_there : (client i : ℕ) → but_one by step client ≡ true → is_own (window_of d.clients client) i ≡ true → IsRight rows (seen_by later client) (slot_at d.slots i) (in_slot after i)
    right_there client i is own = subst (λ (view : Option B). IsRight rows (seen_by later client) (slot_at d.slots i) view) (sym (kept client i is own)) (shown.right client i is own)

    told_here : (client i : ℕ) → client ≡ step → is_own (window_of d.clients client) i ≡ true → IsToldAtMost told (changes_of (seen_by d client) (seen_by later client) (slot_at d.slots i)) (in_slot before i) (in_slot after i)
    told_here client i same own =
        let mine : is_own (window_of d.clients step) i ≡ true = subst (λ (c : ℕ). is_own (window_of d.clients c) i ≡ true) same own in
        subst (λ (c : ℕ). IsToldAtMost told (changes_of (seen_by d c) (seen_by later c) (slot_at d.slots i)) (in_slot before i) (in_slot after i)) (sym same)
        (told_behind told _ (in_slot before i) (in_slot mid i) (in_slot after i) (before_here i mine)
        (subst (λ (slot : Slot). IsToldAtMost told (changes_of (seen_by d step) (seen_by later step) slot) (in_slot mid i) (in_slot after i)) (slots_at i)
        (subst (λ (b : Bool). IsToldAtMost told (cond b (changes_of (seen_by d step) (seen_by later step) (slot_at later.slots i)) 0) (in_slot mid i) (in_slot after i)) mine (one.counted i))))

    told_there : (client i : ℕ) → but_one by step client ≡ true → is_own (window_of d.clients client) i ≡ true → IsToldAtMost told (changes_of (seen_by d client) (seen_by later client) (slot_at d.slots i)) (in_slot before i) (in_slot after i)
    told_there client i is own =
        subst (λ (view : Option B). IsToldAtMost told (changes_of (seen_by d client) (seen_by later client) (slot_at d.slots i)) (in_slot before i) view) (sym (kept client i is own)) (shown.counted client i is own)

-- The views of the next client are as they were.
right_mid : {B : Type 0} (rows : B → List Row) (told : B → Told) (by step : ℕ) (d later : Desk) (before mid : List (Option B)) → step < number_of d.clients.tagged → AreShownTo rows told (but_one by step) d later before mid
    → AreRight rows (window_of d.clients step) (seen_by d step) before → AreRight rows (window_of d.clients step) (seen_by d step) mid
right_mid {B = B} rows told by step d later before mid room shown right i own =
    subst (λ (view : Option B). IsRight rows (seen_by d step) (slot_at d.slots i) view) (sym kept) (right i own)
  where
    not-his : (client : ℕ) → but_one by step client ≡ true → is_own (window_of d.clients client) i ≡ false
    not-his client is =
        let below : client < step = (one_of by step client is).0 in
        apart d.clients step client i room (omega (arith, below, room)) (λ (same : step ≡ client). omega (arith, below, same)) own

    kept : in_slot mid i ≡ in_slot before i
    kept = shown.others i not-his

pub shown_step : {B : Type 0} (rows : B → List Row) (told : B → Told) (by step count : ℕ) (d later : Desk) (before mid after : List (Option B)) → IsLater d later → step < number_of d.clients.tagged → step < count → AreRightTo rows (but_one by count) d before
    → AreShownTo rows told (but_one by step) d later before mid → (step ≡ by → after ≡ mid) → ((step ≡ by → ⊥) → AreRight rows (window_of d.clients step) (seen_by d step) mid → ShownOne rows told step d later mid after)
    → AreShownTo rows told (but_one by (step + 1)) d later before after
shown_step {B = B} rows told by step count d later before mid after is_later room few right shown passed one = by-test (step == by) refl
  where
    past : step ≡ by → AreShownTo rows told (but_one by (step + 1)) d later before after
    past same =
        subst (λ (views : List (Option B)). AreShownTo rows told (but_one by (step + 1)) d later before views) (sym (passed same))
        (subst (λ (n : ℕ). AreShownTo rows told (but_one n (step + 1)) d later before mid) same
        (shown_past rows told step d later before mid (subst (λ (n : ℕ). AreShownTo rows told (but_one n step) d later before mid) (sym same) shown)))

    by-test : (b : Bool) → (step == by) ≡ b → AreShownTo rows told (but_one by (step + 1)) d later before after
    by-test true e = past (eqb-true step by e)
    by-test false e =
        let differ : step ≡ by → ⊥ = eqb-false step by e in
        shown_more rows told by step d later before mid after is_later room differ shown
        (one differ (right_mid rows told by step d later before mid room shown (right step (is_one_of by count step few differ))))

-- The seat of a client, of those that there are.
got_at : (seats : List SeatStruct) (client : ℕ) (d : SeatStruct) → client < length seats → slice_get (seats_of seats) client ≡ Some (seat_of (get_or seats client d))
got_at [] client d less = absurd (omega (arith, less))
got_at (seat ∷ seats) zero d less = refl
got_at (seat ∷ seats) (suc client) d less = got_at seats client d (omega (arith, less))

pub seat_there : (later : Desk) (seats : List SeatStruct) (client : ℕ) (d : SeatStruct) → client < length seats → seats_of seats ≡ later.seats → (seen_by later client).seat ≡ seat_of (get_or seats client d)
seat_there later seats client d less same =
    ap (λ (o : Option Seat). unwrap_or o (first_seat 0)) (ap (λ (l : List Seat). slice_get l client) (sym same) ∙ got_at seats client d less)

set_there : (seats : List SeatStruct) (client : ℕ) (seat : SeatStruct) (d : SeatStruct) → client < length seats → seat_of seat ≡ seat_of (get_or seats client d) → seats_of (set seats client seat) ≡ seats_of seats
set_there [] client seat d less same = absurd (omega (arith, less))
set_there (x ∷ seats) zero seat d less same = ap (λ (s : Seat). s ∷ seats_of seats) same
set_there (x ∷ seats) (suc client) seat d less same = ap (λ (l : List Seat). seat_of x ∷ l) (set_there seats client seat d (omega (arith, less)) same)

pub set_on_ok : {A E : Type 0} (r : Result A E) (seats : List SeatStruct) (client : ℕ) (seat d : SeatStruct) → client < length seats → OnOk r (seat_of seat ≡ seat_of (get_or seats client d)) → OnOk r (seats_of (set seats client seat) ≡ seats_of seats)
set_on_ok (Ok x) seats client seat d less same = set_there seats client seat d less same
set_on_ok (Err e) seats client seat d less same = tt

pub one_on_ok : {A E B : Type 0} (r : Result A E) (rows : B → List Row) (told : B → Told) (step : ℕ) (d later : Desk) (mid after : List (Option B)) → OnOk r (AreRight rows (window_of d.clients step) (seen_by later step) after)
    → OnOk r (AreToldAtMost told (λ i. cond (is_own (window_of d.clients step) i) (changes_of (seen_by d step) (seen_by later step) (slot_at later.slots i)) 0) mid after) → AreLeft (is_own (window_of d.clients step)) mid after
    → AreLeft (λ i. is_own (window_of d.clients step) i && is_shown (slot_at later.slots i)) mid after → OnOk r (ShownOne rows told step d later mid after)
one_on_ok (Ok x) rows told step d later mid after right counted others left = record { right = right; counted = counted; others = others; left = left }
one_on_ok (Err e) rows told step d later mid after right counted others left = tt

pub fits_at : (seats : List SeatStruct) (games client : ℕ) (d : SeatStruct) → client < length seats → All (λ (seat : Seat). FitsGames seat games) (seats_of seats) → FitsGames (seat_of (get_or seats client d)) games
fits_at seats games client d less all =
    subst (λ (seat : Seat). FitsGames seat games) (get_or-map seat_of seats client d (seat_of d) less) (all client (seat_of d) (omega (arith, less, length-map seats seat_of)))

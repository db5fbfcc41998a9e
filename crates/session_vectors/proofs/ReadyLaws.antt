-- What a call leaves of a desk that is ready.
use Rattle.std.proofs.Common.{◌≡◌, ℕ, ◌+◌, ◌<◌, ◌≤◌, ◌==◌, Bool, true, false, List, [], ◌∷◌, Option, Some, None, Result, Ok, Err, OnOk, length, get_or, slice_get, set, All, refl, sym, ap, subst, ◌∙◌, arith}
use Rattle.std.specs.List.{AllPairs}
use Rattle.std.specs.Prelude.{MatchResult}
use Rattle.std.proofs.lemmas.Bool.{eqb-true, eqb-false}
use Rattle.std.proofs.lemmas.List.{length-set, get_or-set_same, get_or-set_other}
use Rattle.std.proofs.lemmas.List.Elements.{All-set}
use Rattle.std.proofs.lemmas.Option.{get_or_from_slice_get}
use Rattle.game_filter.proofs.Renumberings.{length-renumbered}
use Rattle.tree_rows.specs.declared.row.Row.{Row}
use Rattle.tree_live.specs.Watching.{Watched}
use Rattle.tree_live.specs.Slots.{in_slot}
use Rattle.client_desk.specs.declared.change.Change.{Change}
use Rattle.client_desk.specs.declared.change.Change.TheVariants.{Added, Edited, Renumbered}
use Rattle.client_desk.specs.declared.fault.SlotError.{SlotError}
use Rattle.client_desk.specs.Seats.{Seated, IsSlot, ShowsSeat, holds_view}
use Rattle.client_desk.specs.Changes.{Follows, moving_of}
use Rattle.client_desk.specs.Desks.{Seating, Apart, Echoed}
use Rattle.client_desk.specs.Lending.{with_seat}
use Rattle.client_desk.proofs.DeskLaws.{got-below, one-apart, one-shown, echo-apart}
use Rattle.client_desk.proofs.EchoLaws.{slot-of}
use Rattle.client_desk.proofs.SeatLaws.{slot-below}
use Rattle.filter_seat.proofs.FollowLaws.{longer}
use Rattle.filter_seat.proofs.SavedLaws.{length_to_start}
use Rattle.filter_seat.specs.Following.{filter_after}
use Rattle.session_vectors.specs.Ready.{IsReady, Comes}

-- One seat has become another.
one-ready : {B : Type 0} (rows : B → List Row) (desk : Seating) (by : ℕ) (old new : Seated) (before after : List (Option B)) (n : ℕ) → IsReady rows desk before n
    → slice_get desk.seats by ≡ Some old → new.slots.first ≡ old.slots.first → new.slots.count ≡ old.slots.count → length new.filter ≡ n
    → ((i : ℕ) → (IsSlot old.slots i → ⊥) → in_slot after i ≡ in_slot before i) → ShowsSeat rows new after → IsReady rows (with_seat desk by new) after n
one-ready rows desk by old new before after n ready there first count long others shows = record {
  apart = one-apart desk.seats by old new there first count ready.apart;
  shown = one-shown rows desk.seats by old new before after there ready.apart ready.shown others shows;
  sized = All-set (λ (seat : Seated). length seat.filter ≡ n) desk.seats by new long ready.sized;
}

old-sized : (seats : List Seated) (by n : ℕ) (old : Seated) → slice_get seats by ≡ Some old → All (λ (seat : Seated). length seat.filter ≡ n) seats → length old.filter ≡ n
old-sized seats by n old there sized =
    subst (λ (x : Seated). length x.filter ≡ n) (get_or_from_slice_get seats by old old there) (sized by old (got-below seats by old there))

pub watch-ready : {B A : Type 0} (r : Result A SlotError) (rows : B → List Row) (desk : Seating) (by k n : ℕ) (old new : Seated) (before after : List (Option B)) (watch : Watched)
    (why : SlotError → Type 0) → IsReady rows desk before n → slice_get desk.seats by ≡ Some old → MatchResult r (λ _. holds_view old.slots before k ≡ true) why
    → OnOk r (new ≡ record old { slots = record old.slots { watches = set old.slots.watches k (Some watch) } }) → OnOk r (ShowsSeat rows new after)
    → ((i : ℕ) → (i ≡ old.slots.first + k → ⊥) → in_slot after i ≡ in_slot before i) → OnOk r (IsReady rows (with_seat desk by new) after n)
watch-ready (Err e) rows desk by k n old new before after watch why ready there view is shows others = tt
watch-ready (Ok x) rows desk by k n old new before after watch why ready there view is shows others =
    one-ready rows desk by old new before after n ready there (ap (λ (s : Seated). s.slots.first) is) (ap (λ (s : Seated). s.slots.count) is)
    (ap (λ (s : Seated). length s.filter) is ∙ old-sized desk.seats by n old there ready.sized)
    (λ i outside. others i (λ e. outside (subst (λ (j : ℕ). IsSlot old.slots j) (sym e) (slot-of old.slots k (slot-below k old.slots.count _ view))))) shows

pub filter-ready : {B A E : Type 0} (r : Result A E) (rows : B → List Row) (desk : Seating) (by : ℕ) (old new : Seated) (before after : List (Option B)) (plies : List (Option ℕ))
    → IsReady rows desk before (length plies) → slice_get desk.seats by ≡ Some old → OnOk r (new.filter ≡ plies)
    → (new.slots.first ≡ old.slots.first) × (new.slots.count ≡ old.slots.count) → OnOk r (ShowsSeat rows new after)
    → ((i : ℕ) → (IsSlot old.slots i → ⊥) → in_slot after i ≡ in_slot before i) → OnOk r (IsReady rows (with_seat desk by new) after (length plies))
filter-ready (Err e) rows desk by old new before after plies ready there filter slots shows others = tt
filter-ready (Ok x) rows desk by old new before after plies ready there filter slots shows others =
    one-ready rows desk by old new before after (length plies) ready there slots.0 slots.1 (ap (λ (l : List (Option ℕ)). length l) filter) others shows

-- A change was brought to all.
long-after : (entry : Option ℕ) (change : Change) (plies : List (Option ℕ)) (n after : ℕ) → length plies ≡ n → Comes change n after → length (filter_after entry (moving_of change (length plies)) plies) ≡ after
long-after entry (Added hits) plies n after long comes =
    let fewer : length plies ≤ length plies + 1 = omega arith in omega (arith, long, comes.1, longer entry (length plies + 1) plies fewer)
long-after entry (Edited game true hits) plies n after long comes = length_to_start game plies ∙ long ∙ sym comes.1
long-after entry (Edited game false hits) plies n after long comes = long ∙ sym comes.1
long-after entry (Renumbered numbering) plies n after long comes =
    omega (arith, length-renumbered 0 after numbering.to plies comes.1 (comes.0 ∙ sym long))

all-sized : (by : ℕ) (change : Change) (seats new : List Seated) (old own : Seated) (n after : ℕ) → Comes change n after → All (λ (seat : Seated). length seat.filter ≡ n) seats
    → slice_get seats by ≡ Some old → Follows (Some 0) change old own → Echoed by change (set seats by own) new → All (λ (seat : Seated). length seat.filter ≡ after) new
all-sized by change seats new old own n after comes sized there follows echoed = λ j d below. case j d below (j == by) refl
  where
    case : (j : ℕ) (d : Seated) → j < length new → (b : Bool) → (j == by) ≡ b → length (get_or new j d).filter ≡ after
    case j d below true e =
        subst (λ (m : ℕ). length (get_or new m d).filter ≡ after) (sym (eqb-true j by e))
        (subst (λ (x : Seated). length x.filter ≡ after) (sym (echoed.own d ∙ get_or-set_same seats by own d (got-below seats by old there)))
        (ap (λ (l : List (Option ℕ)). length l) follows.filter ∙ long-after (Some 0) change old.filter n after (old-sized seats by n old there sized) comes))
    case j d below false e =
        let differ : j ≡ by → ⊥ = eqb-false j by e in
        let within : j < length seats = omega (arith, below, echoed.number, length-set seats by own) in
        ap (λ (l : List (Option ℕ)). length l) (echoed.others j d differ (omega (arith, within, length-set seats by own))).filter
        ∙ long-after None change (get_or (set seats by own) j d).filter n after
        (ap (λ (x : Seated). length x.filter) (get_or-set_other seats by j own d differ) ∙ sized j d within) comes

pub bring-ready : {B A E : Type 0} (r : Result A E) (rows : B → List Row) (desk new : Seating) (by : ℕ) (change : Change) (old own : Seated) (views : List (Option B)) (n after : ℕ)
    → Comes change n after → All (λ (seat : Seated). length seat.filter ≡ n) desk.seats → slice_get desk.seats by ≡ Some old → Follows (Some 0) change old own
    → AllPairs Apart (set desk.seats by own) → OnOk r (Echoed by change (set desk.seats by own) new.seats)
    → OnOk r (All (λ (seat : Seated). ShowsSeat rows seat views) new.seats) → OnOk r (IsReady rows new views after)
bring-ready (Err e) rows desk new by change old own views n after comes sized there follows apart echoed shown = tt
bring-ready (Ok x) rows desk new by change old own views n after comes sized there follows apart echoed shown = record {
  apart = echo-apart by change (set desk.seats by own) new.seats echoed apart;
  shown = shown;
  sized = all-sized by change desk.seats new.seats old own n after comes sized there follows echoed;
}

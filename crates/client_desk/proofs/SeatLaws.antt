-- What a seat keeps as it changes.
use Rattle.std.specs.Option.{option_map_or}
use Rattle.std.specs.Prelude.{IfErr}
use Rattle.std.proofs.Common.{◌≡◌, replicate, ℕ, ◌+◌, ◌-◌, ◌<◌, ◌≤◌, ◌==◌, ◌&&◌, Bool, true, false, cond, List, [], ◌∷◌, ◌++◌, Option, Some, None, nat_lt, length, get_or, set, take, drop, All, IfSome, Result, Ok, Err, OnOk, OnErr, option_map, length-append, refl, sym, ap, subst, ◌∙◌, arith}
use Rattle.std.proofs.lemmas.Bool.{eqb-true, eqb-false, ltb-true, ltb-false}
use Rattle.std.proofs.lemmas.List.{length-set, length-drop, length-take, length-map, get_or_past, get_or-set_same, get_or-set_other}
use Rattle.std.proofs.lemmas.List.Elements.{All-map}
use Rattle.filter_seat.specs.declared.saved.SavedFilter.{SavedFilter}
use Rattle.filter_seat.specs.SavedFilters.{most_saved, place_of, kept_at, kept_in, dropped_in, kept_with}
use Rattle.filter_seat.specs.Following.{Moving, filter_after}
use Rattle.filter_seat.proofs.FollowLaws.{longer}
use Rattle.filter_seat.proofs.SavedLaws.{length_to_start}
use Rattle.tree_rows.specs.declared.hit.GameHit.{GameHit}
use Rattle.tree_live.specs.declared.entry.Entry.{Entry}
use Rattle.tree_live.specs.Watching.{Watched, under, all_out}
use Rattle.tree_live.specs.Slots.{Slotted, AreChanged, AreTold, EachWatch, IsTold, in_slot}
use Rattle.tree_live.specs.Views.{Told, ToldMore}
use Rattle.client_desk.specs.declared.change.Change.{Change}
use Rattle.client_desk.specs.declared.change.Change.TheVariants.{Added, Edited, Renumbered}
use Rattle.client_desk.specs.Seats.{Seated, IsSeat, IsSlot, GoesBy, SeatTold}
use Rattle.client_desk.specs.Changes.{Fits, Follows, moving_of, most_told, watch_after}
use Rattle.client_desk.proofs.GameLaws.{ins, same-number, ins-under, ins-added, ins-edited, marks-to_start, ins-renumbered, length-renumbered, few-renumbered}

-- ---- all slots

-- Slots none of which is watched past the last.
abbrev pub Within : Slotted → Type 0
Within slots = (k : ℕ) → slots.count ≤ k → in_slot slots.watches k ≡ None

each-by : (P Q : Watched → Type 0) (f : Watched → Watched) (old new : Option Watched) → ((w : Watched) → P w → Q (f w)) → new ≡ option_map f old → IfSome old P → IfSome new Q
each-by P Q f None new step is h = subst (λ (o : Option Watched). IfSome o Q) (sym is) tt
each-by P Q f (Some w) new step is h = subst (λ (o : Option Watched). IfSome o Q) (sym is) (step w h)

pub each-changed : (P Q : Watched → Type 0) (f : ℕ → Watched → Watched) (old new : Slotted) → ((k : ℕ) (w : Watched) → P w → Q (f k w))
    → AreChanged f old new → EachWatch P old → EachWatch Q new
each-changed P Q f old new step changed each = λ k. each-by P Q (f k) (in_slot old.watches k) (in_slot new.watches k) (step k) (changed k) (each k)

pub within-changed : (f : ℕ → Watched → Watched) (old new : Slotted) → AreChanged f old new → new.count ≡ old.count → Within old → Within new
within-changed f old new changed same within = λ k past. changed k ∙ ap (option_map (f k)) (within k (omega (arith, past, same)))

-- Told slots are the slots of a seat.
pub told-seat : {B : Type 0} (told : B → Told) (slots : Slotted) (most : ℕ → Watched → ℕ) (before after : List (Option B)) → Within slots
    → AreTold told slots most before after → SeatTold told slots most before after
told-seat told slots most before after within all = record {
  slots_told = λ k below. all.views k;
  others = λ i outside. by i outside (nat_lt i slots.first) refl;
  number = all.number;
}
  where
    unwatched : (k : ℕ) → in_slot slots.watches k ≡ None → in_slot after (slots.first + k) ≡ in_slot before (slots.first + k)
    unwatched k none =
        subst (λ (o : Option Watched). IsTold (λ most old new. ToldMore most (told old) (told new)) (option_map (most k) o) (in_slot before (slots.first + k)) (in_slot after (slots.first + k))) none (all.views k)

    by : (i : ℕ) → (IsSlot slots i → ⊥) → (b : Bool) → nat_lt i slots.first ≡ b → in_slot after i ≡ in_slot before i
    by i outside true e = all.others i (ltb-true i slots.first e)
    by i outside false e =
        let from : slots.first ≤ i = ltb-false i slots.first e in
        let k = i - slots.first in
        let at : slots.first + k ≡ i = omega (arith, from) in
        let past : slots.count ≤ k = past-of i from outside (nat_lt i (slots.first + slots.count)) refl in
        subst (λ (n : ℕ). in_slot after n ≡ in_slot before n) at (unwatched k (within k past))
      where
        past-of : (i : ℕ) → slots.first ≤ i → (IsSlot slots i → ⊥) → (b : Bool) → nat_lt i (slots.first + slots.count) ≡ b → slots.count ≤ i - slots.first
        past-of i from outside true e = absurd (outside (from, ltb-true i (slots.first + slots.count) e))
        past-of i from outside false e = omega (arith, from, ltb-false i (slots.first + slots.count) e)

pub told-here : {B : Type 0} (told : B → Told) (here slots : Slotted) (most : ℕ → Watched → ℕ) (before after : List (Option B)) → here ≡ slots → Within slots
    → AreTold told slots most before after → SeatTold told here most before after
told-here told here slots most before after same within all =
    subst (λ (s : Slotted). SeatTold told s most before after) (sym same) (told-seat told slots most before after within all)

pub told-follow : {B : Type 0} (told : B → Told) (entry : Option ℕ) (change : Change) (here old : Seated) (before after : List (Option B)) → old ≡ here → IsSeat old
    → AreTold told old.slots (most_told entry change old) before after → SeatTold told here.slots (most_told entry change here) before after
told-follow told entry change here old before after same seat all =
    subst (λ (s : Seated). SeatTold told s.slots (most_told entry change s) before after) same
    (told-seat told old.slots (most_told entry change old) before after seat.within all)

-- ---- the filter

pub seat-refiltered : (filter plies : List (Option ℕ)) (saved : List SavedFilter) (slots after : Slotted) → IsSeat (record { filter = filter; saved = saved; slots = slots })
    → length plies ≡ length filter → AreChanged (λ k watch. record watch { games = under plies watch.games }) slots after → after.count ≡ slots.count
    → IsSeat (record { filter = plies; saved = saved; slots = after })
seat-refiltered filter plies saved slots after seat same changed count = record {
  few = omega (arith, seat.few, same);
  kept = seat.kept;
  saved = subst (λ (n : ℕ). All (λ (kept : SavedFilter). length kept.plies ≡ n) saved) (sym same) seat.saved;
  watches = each-changed (GoesBy filter) (GoesBy plies) (λ k watch. record watch { games = under plies watch.games }) slots after
      (λ k watch goes. ins-under plies watch.games (same ∙ same-number filter watch.games goes)) changed seat.watches;
  within = within-changed (λ k watch. record watch { games = under plies watch.games }) slots after changed count seat.within;
}

-- ---- the filters that are kept

length-kept_at : (saved : List SavedFilter) (new : SavedFilter) (place : Option ℕ) → length saved ≤ most_saved → length (kept_at saved new place) ≤ most_saved
length-kept_at saved new (Some place) few = omega (arith, few, length-set saved place new)
length-kept_at saved new None few = by (nat_lt (length saved) most_saved) refl
  where
    by : (b : Bool) → nat_lt (length saved) most_saved ≡ b → length (cond b (saved ++ new ∷ []) saved) ≤ most_saved
    by true e = omega (arith, length-append saved (new ∷ []), ltb-true (length saved) most_saved e)
    by false e = few

seat-kept : (filter : List (Option ℕ)) (saved after : List SavedFilter) (slots : Slotted) (name : List ℕ) → IsSeat (record { filter = filter; saved = saved; slots = slots })
    → after ≡ kept_in saved name filter
    → (All (λ (kept : SavedFilter). length kept.plies ≡ length filter) saved → All (λ (kept : SavedFilter). length kept.plies ≡ length filter) after)
    → IsSeat (record { filter = filter; saved = after; slots = slots })
seat-kept filter saved after slots name seat is same = record {
  few = seat.few;
  kept = subst (λ (l : List SavedFilter). length l ≤ most_saved) (sym is) (length-kept_at saved (record { name = name; plies = filter }) (place_of saved name) seat.kept);
  saved = same seat.saved;
  watches = seat.watches;
  within = seat.within;
}

pub seat-kept-or : {A E : Type 0} (r : Result A E) (filter : List (Option ℕ)) (saved after : List SavedFilter) (slots : Slotted) (name : List ℕ)
    → IsSeat (record { filter = filter; saved = saved; slots = slots }) → OnOk r (after ≡ kept_in saved name filter)
    → OnOk r (All (λ (kept : SavedFilter). length kept.plies ≡ length filter) saved → All (λ (kept : SavedFilter). length kept.plies ≡ length filter) after)
    → OnErr r (after ≡ saved) → IsSeat (record { filter = filter; saved = after; slots = slots })
seat-kept-or (Ok x) filter saved after slots name seat is same stays = seat-kept filter saved after slots name seat is same
seat-kept-or (Err e) filter saved after slots name seat is same stays =
    subst (λ (l : List SavedFilter). IsSeat (record { filter = filter; saved = l; slots = slots })) (sym stays) seat

length-dropped_at : (saved : List SavedFilter) (place : Option ℕ) → length (option_map_or (λ p. take p saved ++ drop (p + 1) saved) place saved) ≤ length saved
length-dropped_at saved (Some place) =
    omega (arith, length-append (take place saved) (drop (place + 1) saved), length-take place saved, length-drop (place + 1) saved)
length-dropped_at saved None = omega arith

length-dropped_in : (saved : List SavedFilter) (name : List ℕ) → length (dropped_in saved name) ≤ length saved
length-dropped_in saved name = unfold dropped_in in length-dropped_at saved (place_of saved name)

pub seat-forgotten : (filter : List (Option ℕ)) (saved after : List SavedFilter) (slots : Slotted) (name : List ℕ) → IsSeat (record { filter = filter; saved = saved; slots = slots })
    → after ≡ dropped_in saved name
    → ((games : ℕ) → All (λ (kept : SavedFilter). length kept.plies ≡ games) saved → All (λ (kept : SavedFilter). length kept.plies ≡ games) after)
    → IsSeat (record { filter = filter; saved = after; slots = slots })
seat-forgotten filter saved after slots name seat is same = record {
  few = seat.few;
  kept = subst (λ (l : List SavedFilter). length l ≤ most_saved) (sym is) (omega (arith, seat.kept, length-dropped_in saved name));
  saved = same (length filter) seat.saved;
  watches = seat.watches;
  within = seat.within;
}

-- ---- a slot that is watched

length-hits : (hits : List (Option GameHit)) → length (all_out hits) ≡ length hits
length-hits [] = refl
length-hits (hit ∷ hits) = omega (arith, length-hits hits)

seat-watched : (filter : List (Option ℕ)) (saved : List SavedFilter) (slots : Slotted) (hits : List (Option GameHit)) (k : ℕ) (watch : Watched)
    → IsSeat (record { filter = filter; saved = saved; slots = slots }) → k < slots.count → length hits ≡ length filter → watch.games ≡ under filter (all_out hits)
    → IsSeat (record { filter = filter; saved = saved; slots = record slots { watches = set slots.watches k (Some watch) } })
seat-watched filter saved slots hits k watch seat below same is = record {
  few = seat.few;
  kept = seat.kept;
  saved = seat.saved;
  watches = λ j. by j (j == k) refl;
  within = λ j past. get_or-set_other slots.watches k j (Some watch) None (λ e. omega (arith, e, past, below)) ∙ seat.within j past;
}
  where
    after : List (Option Watched)
    after = set slots.watches k (Some watch)

    goes : GoesBy filter watch
    goes = ap (λ (games : List Entry). ins games) is ∙ ins-under filter (all_out hits) (sym same ∙ sym (length-hits hits))

    at : (j : ℕ) → j ≡ k → (b : Bool) → nat_lt k (length slots.watches) ≡ b → IfSome (in_slot after j) (GoesBy filter)
    at j is-k true inside = subst (λ (o : Option Watched). IfSome o (GoesBy filter))
        (sym (ap (λ (n : ℕ). in_slot after n) is-k ∙ get_or-set_same slots.watches k (Some watch) None (ltb-true k (length slots.watches) inside))) goes
    at j is-k false past = subst (λ (o : Option Watched). IfSome o (GoesBy filter))
        (sym (get_or_past after j None (omega (arith, length-set slots.watches k (Some watch), is-k, ltb-false k (length slots.watches) past)))) tt

    by : (j : ℕ) (b : Bool) → (j == k) ≡ b → IfSome (in_slot after j) (GoesBy filter)
    by j true e = at j (eqb-true j k e) (nat_lt k (length slots.watches)) refl
    by j false e = subst (λ (o : Option Watched). IfSome o (GoesBy filter))
        (sym (get_or-set_other slots.watches k j (Some watch) None (eqb-false j k e))) (seat.watches j)

pub seat-watched-or : {A E : Type 0} (r : Result A E) (filter : List (Option ℕ)) (saved : List SavedFilter) (slots after : Slotted) (hits : List (Option GameHit)) (k : ℕ) (watch : Watched)
    → IsSeat (record { filter = filter; saved = saved; slots = slots }) → k < slots.count → length hits ≡ length filter → watch.games ≡ under filter (all_out hits)
    → OnOk r (after ≡ record slots { watches = set slots.watches k (Some watch) }) → OnErr r (after ≡ slots)
    → IsSeat (record { filter = filter; saved = saved; slots = after })
seat-watched-or (Ok x) filter saved slots after hits k watch seat below same is done stays =
    subst (λ (s : Slotted). IsSeat (record { filter = filter; saved = saved; slots = s })) (sym done) (seat-watched filter saved slots hits k watch seat below same is)
seat-watched-or (Err e) filter saved slots after hits k watch seat below same is done stays =
    subst (λ (s : Slotted). IsSeat (record { filter = filter; saved = saved; slots = s })) (sym stays) seat

-- A slot that holds a view is one of the seat.
pub slot-below : (k count : ℕ) (there : Bool) → nat_lt k count && there ≡ true → k < count
slot-below k count there e = ltb-true k count (and-first (nat_lt k count) there e)
  where
    and-first : (a b : Bool) → a && b ≡ true → a ≡ true
    and-first true b e = refl
    and-first false b e = absurd cc

-- ---- a change

-- One entry more.
one-more : (n : ℕ) (entry : Option ℕ) → replicate (n + 1 - n) entry ≡ entry ∷ []
one-more n entry =
    let one : n + 1 - n ≡ 1 = omega arith in ap (λ (k : ℕ). replicate k entry) one

long-after : (entry : Option ℕ) (change : Change) (plies others : List (Option ℕ)) → length plies ≡ length others
    → length (filter_after entry (moving_of change (length plies)) plies) ≡ length (filter_after None (moving_of change (length plies)) others)
long-after entry (Added hits) plies others same =
    longer entry (length plies + 1) plies (omega arith) ∙ sym (longer None (length plies + 1) others (omega (arith, same)))
long-after entry (Edited game true hits) plies others same = length_to_start game plies ∙ same ∙ sym (length_to_start game others)
long-after entry (Edited game false hits) plies others same = same
long-after entry (Renumbered numbering) plies others same = length-renumbered numbering.to plies others same

goes-after : (entry : Option ℕ) (change : Change) (old : Seated) (k : ℕ) (watch : Watched) → Fits change old → GoesBy old.filter watch
    → GoesBy (filter_after entry (moving_of change (length old.filter)) old.filter) (watch_after entry change old k watch)
goes-after entry (Added hits) old k watch fits goes =
    subst (λ (more : List (Option ℕ)). GoesBy (old.filter ++ more) (watch_after entry (Added hits) old k watch)) (sym (one-more (length old.filter) entry))
    (ins-added old.filter watch.games entry hits (old.slots.first + k) goes)
goes-after entry (Edited game true hits) old k watch fits goes =
    ins-edited old.filter watch.games game hits (old.slots.first + k) goes fits ∙ sym (marks-to_start game old.filter)
goes-after entry (Edited game false hits) old k watch fits goes = ins-edited old.filter watch.games game hits (old.slots.first + k) goes fits
goes-after entry (Renumbered numbering) old k watch fits goes = ins-renumbered numbering.to old.filter watch.games goes

pub seat-followed : (entry : Option ℕ) (change : Change) (old new : Seated) → IsSeat old → Fits change old → length new.filter ≤ 16777214
    → Follows entry change old new → IsSeat new
seat-followed entry change old new seat fits few follows = record {
  few = few;
  kept = omega (arith, seat.kept, ap (λ (l : List SavedFilter). length l) follows.saved, length-map old.saved (kept_with (filter_after None (moving_of change (length old.filter)))));
  saved = subst (λ (l : List SavedFilter). All (λ (kept : SavedFilter). length kept.plies ≡ length new.filter) l) (sym follows.saved)
      (All-map (λ (kept : SavedFilter). length kept.plies ≡ length new.filter) (kept_with (filter_after None (moving_of change (length old.filter)))) old.saved
      (λ k d within. sym (ap (λ (l : List (Option ℕ)). length l) follows.filter
      ∙ long-after entry change old.filter (get_or old.saved k d).plies (sym (seat.saved k d within)))));
  watches = subst (λ (f : List (Option ℕ)). EachWatch (GoesBy f) new.slots) (sym follows.filter)
      (each-changed (GoesBy old.filter) (GoesBy (filter_after entry (moving_of change (length old.filter)) old.filter)) (watch_after entry change old) old.slots new.slots
      (λ k watch goes. goes-after entry change old k watch fits goes) follows.watches seat.watches);
  within = within-changed (watch_after entry change old) old.slots new.slots follows.watches follows.count seat.within;
}

-- ---- what each kind of change does

-- The filter is not too long, whether or not all filters followed.
abbrev came : Moving → ℕ
came Moving.nothing = 0
came (Moving.added games) = games
came (Moving.started game) = 0
came (Moving.numbered numbering) = 0

abbrev Came : Moving → List (Option ℕ) → Type 0
Came moving after = (games : ℕ) × ((moving ≡ Moving.added games) × (length after ≤ games))

few-came : (change : Change) (old : Seated) (after : List (Option ℕ)) → Fits change old → Came (moving_of change (length old.filter)) after → length after ≤ 16777214
few-came (Added hits) old after fits part =
    let games : length old.filter + 1 ≡ part.0 = ap came part.1.0 in
    let room : length old.filter < 16777214 = fits in omega (arith, room, games, part.1.1)
few-came (Edited game true hits) old after fits part = absurd cc
few-came (Edited game false hits) old after fits part = absurd cc
few-came (Renumbered numbering) old after fits part = absurd cc

few-followed : (entry : Option ℕ) (change : Change) (old : Seated) → Fits change old → length old.filter ≤ 16777214 → length (filter_after entry (moving_of change (length old.filter)) old.filter) ≤ 16777214
few-followed entry (Added hits) old fits few =
    let room : length old.filter < 16777214 = fits in omega (arith, room, longer entry (length old.filter + 1) old.filter (omega arith))
few-followed entry (Edited game true hits) old fits few = omega (arith, few, length_to_start game old.filter)
few-followed entry (Edited game false hits) old fits few = few
few-followed entry (Renumbered numbering) old fits few = omega (arith, few, few-renumbered numbering.to old.filter)

few-by : {A E : Type 0} (r : Result A E) (entry : Option ℕ) (change : Change) (old : Seated) (after : List (Option ℕ)) → Fits change old → length old.filter ≤ 16777214
    → OnOk r (after ≡ filter_after entry (moving_of change (length old.filter)) old.filter) → IfErr r (λ _. Came (moving_of change (length old.filter)) after) → length after ≤ 16777214
few-by (Ok x) entry change old after fits few filter part = omega (arith, ap (λ (l : List (Option ℕ)). length l) filter, few-followed entry change old fits few)
few-by (Err e) entry change old after fits few filter part = few-came change old after fits part

pub few-after : {A E : Type 0} (r : Result A E) (entry : Option ℕ) (change : Change) (old : Seated) (moving : Moving) (mid after : List (Option ℕ)) → Fits change old → length old.filter ≤ 16777214
    → moving ≡ moving_of change (length old.filter) → mid ≡ old.filter → OnOk r (after ≡ filter_after entry moving mid) → IfErr r (λ _. Came moving after) → length after ≤ 16777214
few-after r entry change old moving mid after fits few same filter =
    rw (same, filter) (few-by r entry change old after fits few)

-- A change that is brought to one seat after the other.
use Rattle.std.proofs.Common.{◌≡◌, ℕ, ◌+◌, ◌<◌, ◌≤◌, ◌==◌, Bool, true, false, List, [], ◌∷◌, Option, Some, None, nat_lt, length, get_or, All, option_map, refl, sym, subst, ◌∙◌, arith, IfSome}
use Rattle.std.specs.List.{AllPairs}
use Rattle.std.proofs.lemmas.Bool.{eqb-true, eqb-false, ltb-true, ltb-false}
use Rattle.tree_rows.specs.declared.row.Row.{Row}
use Rattle.std.specs.Option.{IsSomeAnd}
use Rattle.tree_live.specs.Watching.{Watched, hits_in}
use Rattle.tree_live.specs.Slots.{Slotted, IsTold, in_slot}
use Rattle.tree_live.specs.Views.{Told, Shows, ToldMore}
use Rattle.tree_live.proofs.TellingLaws.{told-nothing-more}
use Rattle.client_desk.specs.declared.change.Change.{Change}
use Rattle.client_desk.specs.Seats.{Seated, IsSlot, SeatTold, ShowsSeat}
use Rattle.client_desk.specs.Changes.{Follows, most_told}
use Rattle.client_desk.specs.Desks.{Apart, Echoed, EchoTold, IsOthers}
use Rattle.client_desk.specs.Echoing.{SameViews, ToldAt, DoneAt, Echoing}

-- Two seats of which one is anywhere behind the other.
pub apart-pair : (seats : List Seated) → AllPairs Apart seats → (j l : ℕ) (d : Seated) → (j ≡ l → ⊥) → j < length seats → l < length seats
    → (i : ℕ) → IsSlot (get_or seats j d).slots i → IsSlot (get_or seats l d).slots i → ⊥
apart-pair seats apart j l d differ below_j below_l i in_j in_l = by (nat_lt j l) refl
  where
    by : (b : Bool) → nat_lt j l ≡ b → ⊥
    by true e = apart j l d (ltb-true j l e) below_l i in_j in_l
    by false e = back (nat_lt l j) refl
      where
        back : (b : Bool) → nat_lt l j ≡ b → ⊥
        back true f = apart l j d (ltb-true l j f) below_j i in_l in_j
        back false f = differ (omega (arith, ltb-false j l e, ltb-false l j f))

told-from : {B : Type 0} (told : B → Told) (most : Option ℕ) (before again after : Option B) → again ≡ before → IsTold (λ most old new. ToldMore most (told old) (told new)) most again after → IsTold (λ most old new. ToldMore most (told old) (told new)) most before after
told-from told most before again after same h = subst (λ (slot : Option _). IsTold (λ most old new. ToldMore most (told old) (told new)) most slot after) same h

told-to : {B : Type 0} (told : B → Told) (most : Option ℕ) (before after again : Option B) → again ≡ after → IsTold (λ most old new. ToldMore most (told old) (told new)) most before after → IsTold (λ most old new. ToldMore most (told old) (told new)) most before again
told-to told most before after again same h = subst (λ (slot : Option _). IsTold (λ most old new. ToldMore most (told old) (told new)) most before slot) (sym same) h

told-nothing : {B : Type 0} (rows : B → List Row) (told : B → Told) (few : Watched → ℕ) (watch : Option Watched) (slot : Option B) → IfSome watch (λ watch. IsSomeAnd slot (λ view. Shows (hits_in watch.games) (rows view)))
    → IsTold (λ most old new. ToldMore most (told old) (told new)) (option_map few watch) slot slot
told-nothing rows told few None slot h = refl
told-nothing rows told few (Some watch) None h = absurd h
told-nothing rows told few (Some watch) (Some view) h = told-nothing-more (few watch) (told view)

pub slot-of : (slots : Slotted) (k : ℕ) → k < slots.count → IsSlot slots (slots.first + k)
slot-of slots k below = (omega (arith, below), omega (arith, below))

pub slot-same : (a b : Slotted) (i : ℕ) → a.first ≡ b.first → a.count ≡ b.count → IsSlot a i → IsSlot b i
slot-same a b i first count h = (omega (arith, first, h.0), omega (arith, first, count, h.1))

-- Some seat of those that there are.
first-of : (seats : List Seated) {c : ℕ} → c < length seats → Seated
first-of [] below = absurd (omega (arith, below))
first-of (seat ∷ seats) below = seat

pub echo-none : {B : Type 0} (rows : B → List Row) (told : B → Told) (by : ℕ) (change : Change) (seats : List Seated) (views : List (Option B))
    → All (λ (seat : Seated). ShowsSeat rows seat views) seats → Echoing rows told by change 0 seats seats views views
echo-none rows told by change seats views shown = record {
  all = record {
    slots = λ c k d other below few. told-nothing rows told (most_told None change (get_or seats c d) k) (in_slot (get_or seats c d).slots.watches k)
        (in_slot views ((get_or seats c d).slots.first + k)) (shown c d below k few);
    others = λ i outside. refl;
    number = refl;
  };
  done = λ j d below other. absurd (omega (arith, below));
  own = λ d. refl;
  left = λ j d past. refl;
  left_views = λ j i d past below slot. refl;
  shown = λ j d below. shown j d below;
  number = refl;
}

-- One more seat, whether or not it went well.
pub echo-told : {B : Type 0} (rows : B → List Row) (told : B → Told) (by : ℕ) (change : Change) (c : ℕ) (s0 s s1 : List Seated) (v0 v v1 : List (Option B))
    → AllPairs Apart s0 → c < length s0 → Echoing rows told by change c s0 s v0 v → ToldAt told by change c s s1 v v1 → EchoTold told by change s0 v0 v1
echo-told rows told by change c s0 s s1 v0 v v1 apart below echoing at = case (c == by) refl
  where
    case : (b : Bool) → (c == by) ≡ b → EchoTold told by change s0 v0 v1
    case true e = record {
      slots = λ j k d other within few. told-to told (option_map (most_told None change (get_or s0 j d) k) (in_slot (get_or s0 j d).slots.watches k))
          (in_slot v0 ((get_or s0 j d).slots.first + k)) (in_slot v ((get_or s0 j d).slots.first + k)) (in_slot v1 ((get_or s0 j d).slots.first + k))
          (same.views ((get_or s0 j d).slots.first + k)) (echoing.all.slots j k d other within few);
      others = λ i outside. same.views i ∙ echoing.all.others i outside;
      number = same.views_number ∙ echoing.all.number;
    }
      where
        same : SameViews v v1
        same = at.own (eqb-true c by e)
    case false e = record {
      slots = λ j k d other within few. slot j k d other within few (j == c) refl;
      others = λ i outside. others i outside;
      number = number;
    }
      where
        differ : c ≡ by → ⊥
        differ = eqb-false c by e

        seat : (d : Seated) → SeatTold told (get_or s0 c d).slots (most_told None change (get_or s0 c d)) v v1
        seat d = subst (λ (x : Seated). SeatTold told x.slots (most_told None change x) v v1) (echoing.left c d (omega arith)) (at.seat d differ)

        slot : (j k : ℕ) (d : Seated) → (j ≡ by → ⊥) → j < length s0 → k < (get_or s0 j d).slots.count → (b : Bool) → (j == c) ≡ b
            → IsTold (λ most old new. ToldMore most (told old) (told new)) (option_map (most_told None change (get_or s0 j d) k) (in_slot (get_or s0 j d).slots.watches k))
            (in_slot v0 ((get_or s0 j d).slots.first + k)) (in_slot v1 ((get_or s0 j d).slots.first + k))
        slot j k d other within few true f =
            let is : c ≡ j = sym (eqb-true j c f) in
            told-from told (option_map (most_told None change (get_or s0 j d) k) (in_slot (get_or s0 j d).slots.watches k))
            (in_slot v0 ((get_or s0 j d).slots.first + k)) (in_slot v ((get_or s0 j d).slots.first + k)) (in_slot v1 ((get_or s0 j d).slots.first + k))
            (echoing.left_views j ((get_or s0 j d).slots.first + k) d (omega (arith, is)) within (slot-of (get_or s0 j d).slots k few))
            ((subst (λ (n : ℕ). SeatTold told (get_or s0 n d).slots (most_told None change (get_or s0 n d)) v v1) is (seat d)).slots_told k few)
        slot j k d other within few false f =
            told-to told (option_map (most_told None change (get_or s0 j d) k) (in_slot (get_or s0 j d).slots.watches k))
            (in_slot v0 ((get_or s0 j d).slots.first + k)) (in_slot v ((get_or s0 j d).slots.first + k)) (in_slot v1 ((get_or s0 j d).slots.first + k))
            ((seat d).others ((get_or s0 j d).slots.first + k)
            (λ inside. apart-pair s0 apart j c d (eqb-false j c f) within below ((get_or s0 j d).slots.first + k) (slot-of (get_or s0 j d).slots k few) inside))
            (echoing.all.slots j k d other within few)

        others : (i : ℕ) → (IsOthers by s0 i → ⊥) → in_slot v1 i ≡ in_slot v0 i
        others i outside = (seat none).others i (λ inside. outside (c, none, differ, below, inside)) ∙ echoing.all.others i outside
          where
            none : Seated
            none = first-of s0 below

        number : length v1 ≡ length v0
        number = (seat (first-of s0 below)).number ∙ echoing.all.number

-- One more seat that follows.
pub echo-more : {B : Type 0} (rows : B → List Row) (told : B → Told) (by : ℕ) (change : Change) (c : ℕ) (s0 s s1 : List Seated) (v0 v v1 : List (Option B))
    → AllPairs Apart s0 → c < length s0 → Echoing rows told by change c s0 s v0 v → ToldAt told by change c s s1 v v1 → DoneAt rows by change c s s1 v1
    → Echoing rows told by change (c + 1) s0 s1 v0 v1
echo-more rows told by change c s0 s s1 v0 v v1 apart below echoing at done = record {
  all = echo-told rows told by change c s0 s s1 v0 v v1 apart below echoing at;
  done = λ j d within other. followed j d within other (j == c) refl;
  own = λ d. own d (by == c) refl;
  left = λ j d past. at.others j d (λ e. omega (arith, past, e)) ∙ echoing.left j d (omega (arith, past));
  left_views = λ j i d past within slot. unmoved j i d (λ e. omega (arith, past, e)) within slot ∙ echoing.left_views j i d (omega (arith, past)) within slot;
  shown = λ j d within. shown j d within (j == c) refl;
  number = at.number ∙ echoing.number;
}
  where
    followed : (j : ℕ) (d : Seated) → j < c + 1 → (j ≡ by → ⊥) → (b : Bool) → (j == c) ≡ b → Follows None change (get_or s0 j d) (get_or s1 j d)
    followed j d within other true e =
        let is : c ≡ j = sym (eqb-true j c e) in
        subst (λ (n : ℕ). Follows None change (get_or s0 n d) (get_or s1 n d)) is
        (subst (λ (x : Seated). Follows None change x (get_or s1 c d)) (echoing.left c d (omega arith)) (done.seat d (λ same. other (sym is ∙ same))))
    followed j d within other false e =
        subst (λ (x : Seated). Follows None change (get_or s0 j d) x) (sym (at.others j d (eqb-false j c e)))
        (echoing.done j d (omega (arith, within, eqb-false j c e)) other)

    own : (d : Seated) (b : Bool) → (by == c) ≡ b → get_or s1 by d ≡ get_or s0 by d
    own d true e =
        let is : c ≡ by = sym (eqb-true by c e) in
        subst (λ (n : ℕ). get_or s1 n d ≡ get_or s n d) is (done.own d is) ∙ echoing.own d
    own d false e = at.others by d (eqb-false by c e) ∙ echoing.own d

    -- A slot of another seat is as it was before this step.
    unmoved : (j i : ℕ) (d : Seated) → (j ≡ c → ⊥) → j < length s0 → IsSlot (get_or s0 j d).slots i → in_slot v1 i ≡ in_slot v i
    unmoved j i d differ within inside = case (c == by) refl
      where
        case : (b : Bool) → (c == by) ≡ b → in_slot v1 i ≡ in_slot v i
        case true e = (at.own (eqb-true c by e)).views i
        case false e =
            (subst (λ (x : Seated). SeatTold told x.slots (most_told None change x) v v1) (echoing.left c d (omega arith)) (at.seat d (eqb-false c by e))).others i
            (λ here. apart-pair s0 apart j c d differ within below i inside here)

    -- A seat has the slots that it had.
    placed : (j i : ℕ) (d : Seated) → IsSlot (get_or s j d).slots i → IsSlot (get_or s0 j d).slots i
    placed j i d inside = case (nat_lt j c) refl
      where
        case : (b : Bool) → nat_lt j c ≡ b → IsSlot (get_or s0 j d).slots i
        case false e = subst (λ (x : Seated). IsSlot x.slots i) (echoing.left j d (ltb-false j c e)) inside
        case true e = same (j == by) refl
          where
            same : (b : Bool) → (j == by) ≡ b → IsSlot (get_or s0 j d).slots i
            same true f =
                let is : by ≡ j = sym (eqb-true j by f) in
                subst (λ (x : Seated). IsSlot x.slots i) (subst (λ (n : ℕ). get_or s n d ≡ get_or s0 n d) is (echoing.own d)) inside
            same false f =
                let follows = echoing.done j d (ltb-true j c e) (eqb-false j by f) in
                slot-same (get_or s j d).slots (get_or s0 j d).slots i follows.first follows.count inside

    shown : (j : ℕ) (d : Seated) → j < length s0 → (b : Bool) → (j == c) ≡ b → ShowsSeat rows (get_or s1 j d) v1
    shown j d within true e = subst (λ (n : ℕ). ShowsSeat rows (get_or s1 n d) v1) (sym (eqb-true j c e)) (done.shown d)
    shown j d within false e =
        subst (λ (x : Seated). ShowsSeat rows x v1) (sym (at.others j d (eqb-false j c e)))
        (λ k few. subst (λ (slot : Option _). IfSome (in_slot (get_or s j d).slots.watches k) (λ watch. IsSomeAnd slot (λ view. Shows (hits_in watch.games) (rows view))))
        (sym (unmoved j ((get_or s j d).slots.first + k) d (eqb-false j c e) within (placed j ((get_or s j d).slots.first + k) d (slot-of (get_or s j d).slots k few))))
        (echoing.shown j d within k few))

-- All seats.
pub echo-all : {B : Type 0} (rows : B → List Row) (told : B → Told) (by : ℕ) (change : Change) (c : ℕ) (s0 s : List Seated) (v0 v : List (Option B))
    → length s0 ≤ c → Echoing rows told by change c s0 s v0 v → Echoed by change s0 s
echo-all rows told by change c s0 s v0 v past echoing = record {
  own = echoing.own;
  others = λ j d other below. echoing.done j d (omega (arith, past, below)) other;
  number = echoing.number;
}

pub echo-shown : {B : Type 0} (rows : B → List Row) (told : B → Told) (by : ℕ) (change : Change) (c : ℕ) (s0 s : List Seated) (v0 v : List (Option B))
    → Echoing rows told by change c s0 s v0 v → All (λ (seat : Seated). ShowsSeat rows seat v) s
echo-shown rows told by change c s0 s v0 v echoing = λ j d below. echoing.shown j d (omega (arith, below, echoing.number))

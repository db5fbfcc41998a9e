-- A desk whose seats have changed: for whoever keeps a desk.
use Rattle.std.proofs.Common.{◌≡◌, ℕ, ◌+◌, ◌<◌, ◌==◌, Bool, true, false, List, Option, Some, None, nat_lt, length, get_or, slice_get, set, All, refl, sym, subst, arith, IfSome}
use Rattle.std.specs.List.{AllPairs}
use Rattle.std.proofs.lemmas.Bool.{eqb-true, eqb-false, ltb-true, ltb-false}
use Rattle.std.proofs.lemmas.List.{length-set, get_or-set_same, get_or-set_other}
use Rattle.std.specs.Option.{IsSomeAnd}
use Rattle.tree_live.specs.Views.{Shows}
use Rattle.tree_live.specs.Watching.{hits_in}
use Rattle.std.proofs.lemmas.Option.{get_or_from_slice_get, slice_get_past}
use Rattle.tree_rows.specs.declared.row.Row.{Row}
use Rattle.tree_live.specs.Slots.{in_slot}
use Rattle.client_desk.specs.declared.change.Change.{Change}
use Rattle.client_desk.specs.Seats.{Seated, IsSlot, ShowsSeat}
use Rattle.client_desk.specs.Desks.{Apart, Echoed}
use Rattle.client_desk.proofs.EchoLaws.{apart-pair, slot-of, slot-same}

-- A place of a list where something stands is below its length.
pub got-below : {A : Type 0} (xs : List A) (c : ℕ) (x : A) → slice_get xs c ≡ Some x → c < length xs
got-below xs c x e = by (nat_lt c (length xs)) refl
  where
    by : (b : Bool) → nat_lt c (length xs) ≡ b → c < length xs
    by true f = ltb-true c (length xs) f
    by false f =
        let none : slice_get xs c ≡ None = slice_get_past xs c (ltb-false c (length xs) f) in
        absurd cc

-- Seats of which one has become another with the same slots; views that are none of its slots are as before.
pub one-apart : (seats : List Seated) (c : ℕ) (old new : Seated) → slice_get seats c ≡ Some old → new.slots.first ≡ old.slots.first → new.slots.count ≡ old.slots.count
    → AllPairs Apart seats → AllPairs Apart (set seats c new)
one-apart seats c old new there first count apart = λ j l d before below i in_j in_l.
    apart j l d before (omega (arith, below, length-set seats c new)) i (was j d i in_j (j == c) refl) (was l d i in_l (l == c) refl)
  where
    was : (j : ℕ) (d : Seated) (i : ℕ) → IsSlot (get_or (set seats c new) j d).slots i → (b : Bool) → (j == c) ≡ b → IsSlot (get_or seats j d).slots i
    was j d i inside true e =
        let is : c ≡ j = sym (eqb-true j c e) in
        subst (λ (n : ℕ). IsSlot (get_or seats n d).slots i) is
        (subst (λ (x : Seated). IsSlot x.slots i) (sym (get_or_from_slice_get seats c old d there))
        (slot-same new.slots old.slots i first count
        (subst (λ (x : Seated). IsSlot x.slots i) (get_or-set_same seats c new d (got-below seats c old there))
        (subst (λ (n : ℕ). IsSlot (get_or (set seats c new) n d).slots i) (sym is) inside))))
    was j d i inside false e = subst (λ (x : Seated). IsSlot x.slots i) (get_or-set_other seats c j new d (eqb-false j c e)) inside

pub one-shown : {B : Type 0} (rows : B → List Row) (seats : List Seated) (c : ℕ) (old new : Seated) (before after : List (Option B)) → slice_get seats c ≡ Some old
    → AllPairs Apart seats → All (λ (seat : Seated). ShowsSeat rows seat before) seats → ((i : ℕ) → (IsSlot old.slots i → ⊥) → in_slot after i ≡ in_slot before i)
    → ShowsSeat rows new after → All (λ (seat : Seated). ShowsSeat rows seat after) (set seats c new)
one-shown rows seats c old new before after there apart shown others shows =
    λ j d below. by j d (omega (arith, below, length-set seats c new)) (j == c) refl
  where
    inside : c < length seats
    inside = got-below seats c old there

    by : (j : ℕ) (d : Seated) → j < length seats → (b : Bool) → (j == c) ≡ b → ShowsSeat rows (get_or (set seats c new) j d) after
    by j d below true e =
        subst (λ (n : ℕ). ShowsSeat rows (get_or (set seats c new) n d) after) (sym (eqb-true j c e))
        (subst (λ (x : Seated). ShowsSeat rows x after) (sym (get_or-set_same seats c new d inside)) shows)
    by j d below false e =
        subst (λ (x : Seated). ShowsSeat rows x after) (sym (get_or-set_other seats c j new d (eqb-false j c e)))
        (λ k few. subst (λ (slot : Option _). IfSome (in_slot (get_or seats j d).slots.watches k) (λ watch. IsSomeAnd slot (λ view. Shows (hits_in watch.games) (rows view))))
        (sym (others ((get_or seats j d).slots.first + k)
        (λ here. apart-pair seats apart j c d (eqb-false j c e) below inside ((get_or seats j d).slots.first + k) (slot-of (get_or seats j d).slots k few)
        (subst (λ (x : Seated). IsSlot x.slots ((get_or seats j d).slots.first + k)) (sym (get_or_from_slice_get seats c old d there)) here))))
        (shown j d below k few))

-- Seats to which a change was echoed.
pub echo-apart : (by : ℕ) (change : Change) (old new : List Seated) → Echoed by change old new → AllPairs Apart old → AllPairs Apart new
echo-apart by change old new echoed apart = λ j l d before below i in_j in_l.
    let within : l < length old = omega (arith, below, echoed.number) in
    apart j l d before within i (was j d i (omega (arith, before, within)) in_j (j == by) refl) (was l d i within in_l (l == by) refl)
  where
    was : (j : ℕ) (d : Seated) (i : ℕ) → j < length old → IsSlot (get_or new j d).slots i → (b : Bool) → (j == by) ≡ b → IsSlot (get_or old j d).slots i
    was j d i within inside true e =
        let is : by ≡ j = sym (eqb-true j by e) in
        subst (λ (x : Seated). IsSlot x.slots i) (subst (λ (n : ℕ). get_or new n d ≡ get_or old n d) is (echoed.own d)) inside
    was j d i within inside false e =
        let follows = echoed.others j d (eqb-false j by e) within in
        slot-same (get_or new j d).slots (get_or old j d).slots i follows.first follows.count inside

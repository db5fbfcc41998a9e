-- Four clients on one base (this project's own).
use Rattle.std.specs.Prelude.{◌≡◌, ℕ, ◌+◌, ◌<◌, Bool, false, List, [], ◌∷◌, Option, None, length, replicate, slice_index_or, option_map}
use Rattle.tree_live.specs.Slots.{IsTold, in_slot}
use Rattle.tree_live.specs.Views.{Told, ToldMore}
use Rattle.client_desk.specs.declared.change.Change.{Change}
use Rattle.client_desk.specs.Seats.{Seated, IsSlot, new_seat}
use Rattle.client_desk.specs.Changes.{Follows, most_told}

-- The seats of the four clients, and which of them have ended.
pub record Seating : Type 0 where
  pub seats : List Seated
  pub ended : List Bool

-- The desk at a base of so many games to which nobody has said anything yet: client c has the views with the numbers 2c and 2c + 1.
abbrev pub new_seating : ℕ → Seating
new_seating games = record {
  seats = new_seat games 0 2 ∷ new_seat games 2 2 ∷ new_seat games 4 2 ∷ new_seat games 6 2 ∷ [];
  ended = replicate 4 false;
}

-- Two seats have no slot in common.
abbrev pub Apart : Seated → Seated → Type 0
Apart a b = (i : ℕ) → IsSlot a.slots i → IsSlot b.slots i → ⊥

-- A change that a client made was brought to the others, and its own seat is as it was.
pub record Echoed (by : ℕ) (change : Change) (old new : List Seated) : Type 0 where
  pub own : (d : Seated) → slice_index_or new by d ≡ slice_index_or old by d
  pub others : (c : ℕ) (d : Seated) → (c ≡ by → ⊥) → c < length old → Follows None change (slice_index_or old c d) (slice_index_or new c d)
  pub number : length new ≡ length old

-- The view with this number is a slot of one of the others.
abbrev pub IsOthers : ℕ → List Seated → ℕ → Type 0
IsOthers by seats i = (c : ℕ) × (d : Seated) × (c ≡ by → ⊥) × (c < length seats) × IsSlot (slice_index_or seats c d).slots i

-- Each slot of the others that is watched holds its view still, which was told at most as many changes as the change is there, and every other
-- view is as before.
pub record EchoTold {B : Type 0} (told : B → Told) (by : ℕ) (change : Change) (seats : List Seated) (before after : List (Option B)) : Type 0 where
  pub slots : (c k : ℕ) (d : Seated) → (c ≡ by → ⊥) → c < length seats → k < (slice_index_or seats c d).slots.count
      → IsTold (λ most old new. ToldMore most (told old) (told new)) (option_map (most_told None change (slice_index_or seats c d) k) (in_slot (slice_index_or seats c d).slots.watches k))
      (in_slot before ((slice_index_or seats c d).slots.first + k)) (in_slot after ((slice_index_or seats c d).slots.first + k))
  pub others : (i : ℕ) → (IsOthers by seats i → ⊥) → in_slot after i ≡ in_slot before i
  pub number : length after ≡ length before

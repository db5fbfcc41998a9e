-- A seat at a base: what one client has of its own (this project's own).
use Rattle.std.specs.Prelude.{◌≡◌, ℕ, ◌+◌, ◌<◌, ◌≤◌, ◌&&◌, Bool, nat_lt, List, [], Option, None, All, is_some, length, map, replicate, option_map, IsSomeAnd, IfSome}
use Rattle.game_filter.specs.Filter.{all_in}
use Rattle.filter_seat.specs.SavedFilters.{most_saved}
use Rattle.filter_seat.specs.declared.saved.SavedFilter.{SavedFilter}
use Rattle.tree_rows.specs.declared.row.Row.{Row}
use Rattle.tree_live.specs.Watching.{Watched, hits_in}
use Rattle.tree_live.specs.Slots.{Slotted, EachWatch, IsTold, in_slot}
use Rattle.tree_live.specs.Views.{Told, Shows, ToldMore}

-- The filter, the filters that are kept by name, and the slots, some of which show trees.
pub record Seated : Type 0 where
  pub filter : List (Option ℕ)
  pub saved : List SavedFilter
  pub slots : Slotted

-- A watch has those games in that the filter has in.
abbrev pub GoesBy : List (Option ℕ) → Watched → Type 0
GoesBy filter watch = map (λ game. game.is_in) watch.games ≡ map (λ ply. is_some ply) filter

-- What every seat keeps: each filter has an entry for each game, each slot that is watched counts the games of the seat's filter, and no slot
-- past the last is watched.
pub record IsSeat (seat : Seated) : Type 0 where
  pub few : length seat.filter ≤ 16777214
  pub kept : length seat.saved ≤ most_saved
  pub saved : All (λ kept. length kept.plies ≡ length seat.filter) seat.saved
  pub watches : EachWatch (GoesBy seat.filter) seat.slots
  pub within : (k : ℕ) → seat.slots.count ≤ k → in_slot seat.slots.watches k ≡ None

-- A seat at a base of so many games that was just taken. It has `count` slots, the first of which is the view with this
-- number. Every game is in at ply 0, and nothing is kept or watched.
abbrev pub new_seat : ℕ → ℕ → ℕ → Seated
new_seat games first count = record { filter = all_in games; saved = []; slots = record { first = first; count = count; watches = replicate 8 None } }

-- The view with this number stands in one of the slots.
abbrev pub IsSlot : Slotted → ℕ → Type 0
IsSlot slots i = (slots.first ≤ i) × (i < slots.first + slots.count)

-- A seat that keeps and watches nothing any more. It keeps its slots.
pub record Emptied (old new : Seated) : Type 0 where
  pub saved : new.saved ≡ []
  pub slots : new.slots ≡ record old.slots { watches = replicate 8 None }

-- Whether slot k is one of the seat's and holds a view.
abbrev pub holds_view : {B : Type 0} → Slotted → List (Option B) → ℕ → Bool
holds_view slots views k = nat_lt k slots.count && is_some (in_slot views (slots.first + k))

-- Each slot of a seat that is watched holds a view, which shows the rows of its hits of the games that are in.
abbrev pub ShowsSeat : {B : Type 0} → (B → List Row) → Seated → List (Option B) → Type 0
ShowsSeat rows seat views = (k : ℕ) → k < seat.slots.count → IfSome (in_slot seat.slots.watches k) (λ watch. IsSomeAnd (in_slot views (seat.slots.first + k)) (λ view. Shows (hits_in watch.games) (rows view)))

-- Each slot that is watched holds its view still, which was told at most so many changes, and every other view is as before.
pub record SeatTold {B : Type 0} (told : B → Told) (slots : Slotted) (most : ℕ → Watched → ℕ) (before after : List (Option B)) : Type 0 where
  pub slots_told : (k : ℕ) → k < slots.count → IsTold (λ most old new. ToldMore most (told old) (told new)) (option_map (most k) (in_slot slots.watches k)) (in_slot before (slots.first + k)) (in_slot after (slots.first + k))
  pub others : (i : ℕ) → (IsSlot slots i → ⊥) → in_slot after i ≡ in_slot before i
  pub number : length after ≡ length before

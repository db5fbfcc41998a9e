-- The slots of a list of views, some of which are watched (this project's own).
use Rattle.std.specs.Prelude.{◌≡◌, ℕ, ◌+◌, ◌<◌, ◌≤◌, ◌&&◌, nat_le, nat_lt, if◌then◌else◌, Bool, true, false, List, Option, Some, None, length, option_map, slice_index_or, IfSome, IsSome, IsSomeAnd}
use Rattle.game_filter.specs.Renumbering.{renumbered}
use Rattle.tree_rows.specs.declared.hit.GameHit.{GameHit}
use Rattle.tree_rows.specs.declared.row.Row.{Row}
use Rattle.tree_rows.specs.Rows.{rows_of}
use Rattle.tree_live.specs.declared.change.Change.{Change}
use Rattle.tree_live.specs.declared.change.Change.TheVariants.{Filter, Game, Numbers}
use Rattle.tree_live.specs.Views.{Shows, Told, ToldMore, ToldRows}
use Rattle.tree_live.specs.Watching.{Watched, hits_in, all_changes, staying, under, with_game}

-- The slot k is the view with the number first + k, for each k below the count; if it is watched, its watch.
pub record Slotted : Type 0 where
  pub first : ℕ
  pub count : ℕ
  pub watches : List (Option Watched)

-- What stands at a place of a list, if anything does.
abbrev pub in_slot : {T : Type 0} → List (Option T) → ℕ → Option T
in_slot list k = slice_index_or list k None

-- Whether a slot is one of so many from a number on.
abbrev pub is_within : ℕ → ℕ → ℕ → Bool
is_within start count k = nat_le start k && nat_lt k (start + count)

-- No slot from a number on is watched.
abbrev pub AreBelow : ℕ → List (Option Watched) → Type 0
AreBelow count watches = (k : ℕ) → count ≤ k → in_slot watches k ≡ None

-- A slot that is watched holds a view, which shows the rows of the hits that are in.
abbrev pub AreShown : {B : Type 0} → (B → List Row) → Slotted → List (Option B) → Type 0
AreShown rows slots views = (k : ℕ) → IfSome (in_slot slots.watches k) (λ watch. IsSomeAnd (in_slot views (slots.first + k)) (λ view. Shows (hits_in watch.games) (rows view)))

-- Each of some slots shows them, if it is watched and holds a view.
abbrev pub AreShownIf : {B : Type 0} → (B → List Row) → (ℕ → Bool) → Slotted → List (Option B) → Type 0
AreShownIf rows among slots views =
    (k : ℕ) → among k ≡ true → IfSome (in_slot slots.watches k) (λ watch. IfSome (in_slot views (slots.first + k)) (λ view. Shows (hits_in watch.games) (rows view)))

-- A view stands in each slot that is watched.
abbrev pub AreHeld : {B : Type 0} → Slotted → List (Option B) → Type 0
AreHeld slots views = (k : ℕ) → IfSome (in_slot slots.watches k) (λ _. IsSome (in_slot views (slots.first + k)))

-- The hit that is kept of a game, if there is a watch and such a game, and it has one.
abbrev pub kept_hit : Option Watched → ℕ → Option GameHit
kept_hit None i = None
kept_hit (Some watch) i = (slice_index_or watch.games i (record { hit = None; is_in = false })).hit

-- The rows of a watch: those of the hits that are in.
abbrev pub rows_in : Watched → List Row
rows_in watch = rows_of (hits_in watch.games)

-- A slot to which something is told holds its view, if it held one, and the view was told it in this way. One to which nothing is told is as before.
abbrev pub IsTold : {T B : Type 0} → (T → B → B → Type 0) → Option T → Option B → Option B → Type 0
IsTold told_it None before after = after ≡ before
IsTold told_it (Some it) None after = after ≡ None
IsTold told_it (Some it) (Some before) None = ⊥
IsTold told_it (Some it) (Some before) (Some after) = told_it it before after

-- The view of each slot that is watched was told no more than so many changes, and every other view is as before.
pub record AreTold {B : Type 0} (told : B → Told) (slots : Slotted) (most : ℕ → Watched → ℕ) (before after : List (Option B)) : Type 0 where
  pub views : (k : ℕ) → IsTold (λ most old new. ToldMore most (told old) (told new)) (option_map (most k) (in_slot slots.watches k)) (in_slot before (slots.first + k)) (in_slot after (slots.first + k))
  pub others : (i : ℕ) → i < slots.first → in_slot after i ≡ in_slot before i
  pub number : length after ≡ length before

-- The view of each of some slots that is watched was told the rows of what its watch became, and every other view is as before.
pub record AreToldRows {B : Type 0} (rows : B → List Row) (told : B → Told) (among : ℕ → Bool) (change : Watched → Watched) (slots : Slotted) (before after : List (Option B)) : Type 0 where
  pub views : (k : ℕ) → IsTold (ToldRows rows told) (if among k then option_map (λ watch. rows_in (change watch)) (in_slot slots.watches k) else None) (in_slot before (slots.first + k)) (in_slot after (slots.first + k))
  pub others : (i : ℕ) → i < slots.first → in_slot after i ≡ in_slot before i
  pub number : length after ≡ length before

-- A condition on each slot that is watched, and each watch after a change of it.
abbrev pub EachWatch : (Watched → Type 0) → Slotted → Type 0
EachWatch holds slots = (k : ℕ) → IfSome (in_slot slots.watches k) holds

abbrev pub AreChanged : (ℕ → Watched → Watched) → Slotted → Slotted → Type 0
AreChanged change before after = (k : ℕ) → in_slot after.watches k ≡ option_map (change k) (in_slot before.watches k)

-- What a change makes of the watch of slot k, how many changes of rows that is at most, and which games it fits.
abbrev pub changed : Change → ℕ → Watched → Watched
changed (Filter filter) k watch = record watch { games = under filter.now watch.games }
changed (Game i hits is_in) k watch = record watch { games = with_game i (record { hit = in_slot hits.now k; is_in = is_in }) watch.games }
changed (Numbers numbers) k watch = record watch { games = renumbered numbers.now.to watch.games }

abbrev pub most_told : Change → ℕ → Watched → ℕ
most_told (Filter filter) k watch = all_changes watch.games (under filter.now watch.games)
most_told (Game i hits is_in) k watch = all_changes watch.games (with_game i (record { hit = in_slot hits.now k; is_in = is_in }) watch.games)
most_told (Numbers numbers) k watch = all_changes watch.games (staying numbers.now.to watch.games)

abbrev pub Fits : Change → Watched → Type 0
Fits (Filter filter) watch = length filter.now ≡ length watch.games
Fits (Game i hits is_in) watch = (i ≤ length watch.games) × (i < 16777214)
Fits (Numbers numbers) watch = length numbers.now.to ≡ length watch.games

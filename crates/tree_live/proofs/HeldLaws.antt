-- Views that stand in the slots that are watched.
use Rattle.std.proofs.Common.{◌≡◌, ℕ, ◌+◌, Bool, true, false, List, Option, Some, None, option_map, IfSome, refl, sym, subst}
use Rattle.std.specs.Option.{IsSome}
use Rattle.std.specs.Prelude.{if◌then◌else◌, IsSomeAnd}
use Rattle.tree_rows.specs.declared.row.Row.{Row}
use Rattle.tree_live.specs.Watching.{Watched, hits_in}
use Rattle.tree_live.specs.Slots.{AreChanged, AreHeld, AreShown, AreToldRows, Slotted, in_slot, rows_in, IsTold}
use Rattle.tree_live.specs.Views.{Told, Shows, ToldRows}

-- where each slot shows its rows
pub held-shown : {B : Type 0} (rows : B → List Row) (slots : Slotted) (views : List (Option B)) → AreShown rows slots views → AreHeld slots views
held-shown rows slots views shown k = by (in_slot slots.watches k) (in_slot views (slots.first + k)) (shown k)
  where
    by : (watch : Option Watched) (view : Option _) → IfSome watch (λ watch. IsSomeAnd view (λ view. Shows (hits_in watch.games) (rows view))) → IfSome watch (λ _. IsSome view)
    by None view h = tt
    by (Some watch) None h = absurd h
    by (Some watch) (Some view) h = refl

-- after a change of the watches alone
pub held-changed : {B : Type 0} (change : ℕ → Watched → Watched) (before after : Slotted) (views : List (Option B)) → after.first ≡ before.first
    → AreChanged change before after → AreHeld before views → AreHeld after views
held-changed change before after views first changed held k =
    subst (λ (n : ℕ). IfSome (in_slot after.watches k) (λ _. IsSome (in_slot views (n + k)))) (sym first)
    (subst (λ (watch : Option Watched). IfSome watch (λ _. IsSome (in_slot views (before.first + k)))) (sym (changed k))
    (by (in_slot before.watches k) (held k)))
  where
    by : (watch : Option Watched) → IfSome watch (λ _. IsSome (in_slot views (before.first + k)))
        → IfSome (option_map (change k) watch) (λ _. IsSome (in_slot views (before.first + k)))
    by None h = tt
    by (Some watch) h = h

-- after the views of some slots were told, whether or not that went well
pub held-told : {B : Type 0} (rows : B → List Row) (told : B → Told) (among : ℕ → Bool) (change : Watched → Watched) (slots : Slotted) (before after : List (Option B))
    → AreHeld slots before → AreToldRows rows told among change slots before after → AreHeld slots after
held-told rows told among change slots before after held all k =
    by (among k) (in_slot slots.watches k) (in_slot before (slots.first + k)) (in_slot after (slots.first + k)) (held k) (all.views k)
  where
    by : (own : Bool) (watch : Option Watched) (old new : Option _) → IfSome watch (λ _. IsSome old)
        → IsTold (ToldRows rows told) (if own then option_map (λ watch. rows_in (change watch)) watch else None) old new → IfSome watch (λ _. IsSome new)
    by own None old new there h = tt
    by false (Some watch) old new there h = subst (λ (view : Option _). IsSome view) (sym h) there
    by true (Some watch) None new there h = absurd (cc)
    by true (Some watch) (Some old) None there h = absurd h
    by true (Some watch) (Some old) (Some new) there h = refl

-- A change that is brought to each watch and then told to its view.
use Rattle.std.proofs.Common.{◌≡◌, ℕ, ◌+◌, ◌<◌, ◌≤◌, ◌==◌, Bool, true, false, zero, suc, nat_lt, List, [], ◌∷◌, Option, Some, None, IfSome, length, option_map, replicate, set, refl, sym, ap, subst, ◌∙◌, arith}
use Rattle.std.proofs.lemmas.Bool.{eqb-false, eqb-true, ltb-true, ltb-false}
use Rattle.std.proofs.lemmas.List.{get_or_past, get_or-set_other, get_or-set_same}
use Rattle.std.specs.Option.{IsSome, IsSomeAnd}
use Rattle.game_filter.specs.Renumbering.{renumbered}
use Rattle.tree_rows.specs.declared.row.Row.{Row}
use Rattle.tree_rows.specs.Rows.{rows_of}
use Rattle.tree_live.specs.declared.entry.Entry.{Entry}
use Rattle.tree_live.specs.declared.change.Change.{Change}
use Rattle.tree_live.specs.declared.change.Change.TheVariants.{Filter, Game, Numbers}
use Rattle.tree_live.specs.RowChanges.{rows_changed}
use Rattle.tree_live.specs.Watching.{Watched, hits_in, under, with_game}
use Rattle.tree_live.specs.Slots.{AreBelow, AreShown, AreTold, EachWatch, Fits, IsTold, Slotted, changed, in_slot, most_told, rows_in}
use Rattle.tree_live.specs.Following.{Followed}
use Rattle.tree_live.specs.Showing.{ShownBelow, ToldEach}
use Rattle.tree_live.specs.Views.{Told, Shows, ToldMore, ToldRows}
use Rattle.tree_live.proofs.TellingLaws.{told-nothing-more}
use Rattle.tree_live.proofs.ChangeLaws.{few-under, few-with, few-renumbered}

-- a slot to which nothing was brought
told-nothing : {B : Type 0} (rows : B → List Row) (told : B → Told) (few : Watched → ℕ) (watch : Option Watched) (slot : Option B) → IfSome watch (λ watch. IsSomeAnd slot (λ view. Shows (hits_in watch.games) (rows view)))
    → IsTold (λ most old new. ToldMore most (told old) (told new)) (option_map few watch) slot slot
told-nothing rows told few None slot h = refl
told-nothing rows told few (Some watch) None h = absurd h
told-nothing rows told few (Some watch) (Some view) h = told-nothing-more (few watch) (told view)

pub untold : {B : Type 0} (rows : B → List Row) (told : B → Told) (change : Change) (slots : Slotted) (views : List (Option B)) → AreShown rows slots views
    → AreTold told slots (most_told change) views views
untold rows told change slots views shown = record {
  views = λ k. told-nothing rows told (most_told change k) (in_slot slots.watches k) (in_slot views (slots.first + k)) (shown k);
  others = λ i below. refl;
  number = refl;
}

few-told : (change : Change) (k : ℕ) (watch : Watched) → Fits change watch
    → rows_changed (rows_of (hits_in watch.games)) (rows_in (changed change k watch)) ≤ most_told change k watch
few-told (Filter filter) k watch fits = few-under filter.now watch.games (under filter.now watch.games) refl
few-told (Game i hits is_in) k watch fits =
    let game : Entry = record { hit = in_slot hits.now k; is_in = is_in } in
    few-with i game watch.games (with_game i game watch.games) refl
few-told (Numbers numbers) k watch fits = few-renumbered numbers.now.to watch.games (renumbered numbers.now.to watch.games) fits refl

-- ---- the views behind the change

all-followed : (change : Change) (k : ℕ) (watches after : List (Option Watched)) → length watches ≤ k → Followed change k watches after → (j : ℕ)
    → in_slot after j ≡ option_map (changed change j) (in_slot watches j)
all-followed change k watches after all followed j = by (nat_lt j k) refl
  where
    by : (b : Bool) → nat_lt j k ≡ b → in_slot after j ≡ option_map (changed change j) (in_slot watches j)
    by true e = followed.watch j (ltb-true j k e)
    by false e =
        let none : in_slot watches j ≡ None = get_or_past watches j None (omega (arith, all, ltb-false j k e)) in
        followed.left j (ltb-false j k e) ∙ none ∙ ap (option_map (changed change j)) (sym none)

slot-told : {B : Type 0} (rows : B → List Row) (told : B → Told) (change : Change) (k : ℕ) (watch : Option Watched) (before after : Option B)
    → IfSome watch (Fits change) → IfSome watch (λ watch. IsSomeAnd before (λ view. Shows (hits_in watch.games) (rows view))) → IsTold (ToldRows rows told) (option_map rows_in (option_map (changed change k) watch)) before after
    → IsTold (λ most old new. ToldMore most (told old) (told new)) (option_map (most_told change k) watch) before after
slot-told rows told change k None before after fits shown h = h
slot-told rows told change k (Some watch) None after fits shown h = absurd shown
slot-told rows told change k (Some watch) (Some old) None fits shown h = absurd h
slot-told rows told change k (Some watch) (Some old) (Some new) fits shown h =
    record { same = h.same; few = omega (arith, h.few (hits_in watch.games) shown, few-told change k watch fits) }

pub brought-told : {B : Type 0} (rows : B → List Row) (told : B → Told) (change : Change) (inside slots : Slotted) (k first : ℕ) (after : List (Option Watched))
    (views views_after : List (Option B)) → inside ≡ slots → EachWatch (Fits change) slots → AreShown rows slots views → length inside.watches ≤ k
    → first ≡ inside.first → Followed change k inside.watches after → ToldEach rows told first after views views_after
    → AreTold told slots (most_told change) views views_after
brought-told {B} rows told change inside slots k first after views views_after same fits shown all is followed tells =
    subst (λ (s : Slotted). AreTold told s (most_told change) views views_after) same (record {
      views = λ j.
          let watch = in_slot inside.watches j in
          let own : IsTold (ToldRows rows told) (option_map rows_in (in_slot after j)) (in_slot views (inside.first + j)) (in_slot views_after (inside.first + j))
          = subst (λ (n : ℕ). IsTold (ToldRows rows told) (option_map rows_in (in_slot after j)) (in_slot views (n + j)) (in_slot views_after (n + j))) is (tells.slots j) in
          slot-told rows told change j watch (in_slot views (inside.first + j)) (in_slot views_after (inside.first + j))
          (subst (λ (s : Slotted). EachWatch (Fits change) s) (sym same) fits j) (subst (λ (s : Slotted). AreShown rows s views) (sym same) shown j)
          (subst (λ (w : Option Watched). IsTold (ToldRows rows told) (option_map rows_in w) (in_slot views (inside.first + j)) (in_slot views_after (inside.first + j)))
          (all-followed change k inside.watches after all followed j) own);
      others = λ i below. tells.others i (omega (arith, is, below));
      number = tells.number;
    })

slot-shown : {B : Type 0} (rows : B → List Row) (told : B → Told) (change : Change) (k : ℕ) (watch : Option Watched) (before after : Option B)
    → IfSome watch (λ watch. IsSomeAnd before (λ view. Shows (hits_in watch.games) (rows view))) → IsTold (ToldRows rows told) (option_map rows_in (option_map (changed change k) watch)) before after
    → IfSome (option_map (changed change k) watch) (λ watch. IfSome after (λ view. Shows (hits_in watch.games) (rows view))) → IfSome (option_map (changed change k) watch) (λ watch. IsSomeAnd after (λ view. Shows (hits_in watch.games) (rows view)))
slot-shown rows told change k None before after was tells shown = shown
slot-shown rows told change k (Some watch) None after was tells shown = absurd was
slot-shown rows told change k (Some watch) (Some old) None was tells shown = absurd tells
slot-shown rows told change k (Some watch) (Some old) (Some new) was tells shown = shown

pub brought-shown : {B : Type 0} (rows : B → List Row) (told : B → Told) (change : Change) (inside slots : Slotted) (k first : ℕ) (after : List (Option Watched))
    (views views_after : List (Option B)) → inside ≡ slots → AreShown rows slots views → length inside.watches ≤ k → first ≡ inside.first
    → Followed change k inside.watches after → ShownBelow rows told first (length after) after views views_after
    → AreShown rows (record inside { watches = after }) views_after
brought-shown {B} rows told change inside slots k first after views views_after same shown all is followed below j =
    let watch = in_slot inside.watches j in
    let old : IfSome watch (λ watch. IsSomeAnd (in_slot views (inside.first + j)) (λ view. Shows (hits_in watch.games) (rows view))) = subst (λ (s : Slotted). AreShown rows s views) (sym same) shown j in
    let place : first + j ≡ inside.first + j = ap (λ (n : ℕ). n + j) is in
    let there : in_slot after j ≡ option_map (changed change j) watch = all-followed change k inside.watches after all followed j in
    let tells : IsTold (ToldRows rows told) (option_map rows_in (option_map (changed change j) watch)) (in_slot views (inside.first + j)) (in_slot views_after (inside.first + j))
    = subst (λ (n : ℕ). IsTold (ToldRows rows told) (option_map rows_in (option_map (changed change j) watch)) (in_slot views n) (in_slot views_after n)) place
    (subst (λ (w : Option Watched). IsTold (ToldRows rows told) (option_map rows_in w) (in_slot views (first + j)) (in_slot views_after (first + j))) there (below.all.slots j)) in
    let shows : IfSome (option_map (changed change j) watch) (λ watch. IfSome (in_slot views_after (inside.first + j)) (λ view. Shows (hits_in watch.games) (rows view)))
    = subst (λ (n : ℕ). IfSome (option_map (changed change j) watch) (λ watch. IfSome (in_slot views_after n) (λ view. Shows (hits_in watch.games) (rows view)))) place
    (subst (λ (w : Option Watched). IfSome w (λ watch. IfSome (in_slot views_after (first + j)) (λ view. Shows (hits_in watch.games) (rows view)))) there (by (nat_lt j (length after)) refl)) in
    subst (λ (w : Option Watched). IfSome w (λ watch. IsSomeAnd (in_slot views_after (inside.first + j)) (λ view. Shows (hits_in watch.games) (rows view)))) (sym there)
    (slot-shown rows told change j watch (in_slot views (inside.first + j)) (in_slot views_after (inside.first + j)) old tells shows)
  where
    by : (b : Bool) → nat_lt j (length after) ≡ b → IfSome (in_slot after j) (λ watch. IfSome (in_slot views_after (first + j)) (λ view. Shows (hits_in watch.games) (rows view)))
    by true e = below.shown j (ltb-true j (length after) e)
    by false e = subst (λ (w : Option Watched). IfSome w (λ watch. IfSome (in_slot views_after (first + j)) (λ view. Shows (hits_in watch.games) (rows view)))) (sym (get_or_past after j None (ltb-false j (length after) e))) tt

-- where a slot is watched, or is watched no more
there-below : {B : Type 0} (views : List (Option B)) (place : ℕ) → IsSome (in_slot views place) → place < length views
there-below {B} views place held = by (nat_lt place (length views)) refl
  where
    no-view : (view : Option B) → view ≡ None → IsSome view → ⊥
    no-view None is held = absurd (cc)
    no-view (Some view) is held = absurd (cc)

    by : (b : Bool) → nat_lt place (length views) ≡ b → place < length views
    by true e = ltb-true place (length views) e
    by false e = absurd (no-view (in_slot views place) (get_or_past views place None (ltb-false place (length views) e)) held)

-- the slot that is watched from now on
pub watched-here : {B : Type 0} (rows : B → List Row) (first k n place : ℕ) (watches : List (Option Watched)) (watch : Option Watched) (view : Option B) (views : List (Option B))
    → n ≡ k → n < length watches → place ≡ first + k → IsSome (in_slot views (first + k)) → IfSome watch (λ watch. IsSomeAnd view (λ view. Shows (hits_in watch.games) (rows view)))
    → IfSome (in_slot (set watches n watch) k) (λ watch. IsSomeAnd (in_slot (set views place view) (first + k)) (λ view. Shows (hits_in watch.games) (rows view)))
watched-here {B} rows first k n place watches watch view views same within at held own =
    let below : place < length views = there-below views place (subst (λ (i : ℕ). IsSome (in_slot views i)) (sym at) held) in
    subst (λ (w : Option Watched). IfSome w (λ watch. IsSomeAnd (in_slot (set views place view) (first + k)) (λ view. Shows (hits_in watch.games) (rows view))))
    (sym (ap (λ (i : ℕ). in_slot (set watches n watch) i) (sym same) ∙ get_or-set_same watches n watch None within))
    (subst (λ (v : Option B). IfSome watch (λ watch. IsSomeAnd v (λ view. Shows (hits_in watch.games) (rows view))))
    (sym (ap (λ (i : ℕ). in_slot (set views place view) i) (sym at) ∙ get_or-set_same views place view None below)) own)

pub watched-shown : {B : Type 0} (rows : B → List Row) (inside slots : Slotted) (k place : ℕ) (watch : Option Watched) (view : Option B) (views : List (Option B))
    → inside ≡ slots → k < length inside.watches → IsSome (in_slot views (slots.first + k)) → place ≡ inside.first + k → IfSome watch (λ watch. IsSomeAnd view (λ view. Shows (hits_in watch.games) (rows view))) → AreShown rows slots views
    → AreShown rows (record inside { watches = set inside.watches k watch }) (set views place view)
watched-shown {B} rows inside slots k place watch view views same within held at own shown j = by (j == k) refl
  where
    others : IfSome (in_slot inside.watches j) (λ watch. IsSomeAnd (in_slot views (inside.first + j)) (λ view. Shows (hits_in watch.games) (rows view)))
    others = subst (λ (s : Slotted). AreShown rows s views) (sym same) shown j

    by : (b : Bool) → (j == k) ≡ b → IfSome (in_slot (set inside.watches k watch) j) (λ watch. IsSomeAnd (in_slot (set views place view) (inside.first + j)) (λ view. Shows (hits_in watch.games) (rows view)))
    by true e =
        let is : j ≡ k = eqb-true j k e in
        let first : slots.first ≡ inside.first = sym (ap (λ (s : Slotted). s.first) same) in
        watched-here rows inside.first j k place inside.watches watch view views (sym is) within (at ∙ ap (λ (n : ℕ). inside.first + n) (sym is))
        (subst (λ (n : ℕ). IsSome (in_slot views n)) (omega (arith, first, is)) held) own
    by false e =
        let apart = eqb-false j k e in
        subst (λ (w : Option Watched). IfSome w (λ watch. IsSomeAnd (in_slot (set views place view) (inside.first + j)) (λ view. Shows (hits_in watch.games) (rows view)))) (sym (get_or-set_other inside.watches k j watch None apart))
        (subst (λ (v : Option B). IfSome (in_slot inside.watches j) (λ watch. IsSomeAnd v (λ view. Shows (hits_in watch.games) (rows view))))
        (sym (get_or-set_other views place (inside.first + j) view None (λ is. apart (omega (arith, is, at))))) others)

pub below-set : (count k : ℕ) (watches : List (Option Watched)) (watch : Option Watched) → k < count → AreBelow count watches → AreBelow count (set watches k watch)
below-set count k watches watch lt are j past = get_or-set_other watches k j watch None (λ e. omega (arith, lt, past, e)) ∙ are j past

pub below-gone : (count k : ℕ) (watches : List (Option Watched)) → AreBelow count watches → AreBelow count (set watches k None)
below-gone count k watches are j past = gone watches k j (are j past)
  where
    gone : (xs : List (Option Watched)) (n i : ℕ) → in_slot xs i ≡ None → in_slot (set xs n None) i ≡ None
    gone [] n i none = none
    gone (x ∷ xs) zero zero none = refl
    gone (x ∷ xs) zero (suc i) none = none
    gone (x ∷ xs) (suc n) zero none = none
    gone (x ∷ xs) (suc n) (suc i) none = gone xs n i none

pub below-none : (count : ℕ) → AreBelow count (replicate 8 None)
below-none count k past = none-in 8 k
  where
    none-in : (n i : ℕ) → in_slot {T = Watched} (replicate n None) i ≡ None
    none-in zero i = refl
    none-in (suc n) zero = refl
    none-in (suc n) (suc i) = none-in n i

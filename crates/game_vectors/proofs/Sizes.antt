-- How many games each watch has, after each change.
use Rattle.std.proofs.Common.{◌≡◌, ◌+◌, ◌≤◌, ◌<◌, ℕ, zero, suc, Bool, true, false, cond, List, [], ◌∷◌, ◌++◌, Option, None, Some, length, length-append, set, nat_lt, option_map, Result, Ok, Err, OnOk, refl, sym, ap, ◌∙◌, subst, arith}
use Rattle.std.specs.Prelude.{if◌then◌else◌, IfSome}
use Rattle.std.proofs.lemmas.List.{length-set}
use Rattle.std.proofs.lemmas.Bool.{ltb-false, ltb-true}
use Rattle.game_filter.specs.Renumbering.{Rises, renumbered}
use Rattle.tree_rows.specs.declared.row.Row.{Row}
use Rattle.tree_live.specs.declared.entry.Entry.{Entry}
use Rattle.tree_live.specs.Slots.{AreChanged, AreShown, EachWatch, Slotted, in_slot}
use Rattle.tree_live.specs.Watching.{Watched, all_out, under, with_game}
use Rattle.tree_rows.specs.declared.hit.GameHit.{GameHit}
use Rattle.game_vectors.specs.Standing.{AreStanding}

abbrev pub Has : ℕ → Watched → Type 0
Has n watch = length watch.games ≡ n

set-each : (n : ℕ) (xs : List (Option Watched)) (k : ℕ) (w : Watched) → Has n w → ((j : ℕ) → IfSome (in_slot xs j) (Has n))
    → (j : ℕ) → IfSome (in_slot (set xs k (Some w)) j) (Has n)
set-each n [] k w has each j = each j
set-each n (x ∷ xs) zero w has each zero = has
set-each n (x ∷ xs) zero w has each (suc j) = each (suc j)
set-each n (x ∷ xs) (suc k) w has each zero = each zero
set-each n (x ∷ xs) (suc k) w has each (suc j) = set-each n xs k w has (λ i. each (suc i)) j

length-under : (list : List (Option ℕ)) (games : List Entry) → length (under list games) ≡ length games
length-under [] games = refl
length-under (m ∷ list) [] = refl
length-under (m ∷ list) (g ∷ games) = omega (arith, length-under list games)

length-out : (hits : List (Option GameHit)) → length (all_out hits) ≡ length hits
length-out [] = refl
length-out (h ∷ hits) = omega (arith, length-out hits)

pub set-sized : (n k : ℕ) (slots now : Slotted) (w : Watched) (hits : List (Option GameHit)) (plies : List (Option ℕ))
    → now ≡ record slots { watches = set slots.watches k (Some w) } → w.games ≡ under plies (all_out hits) → length hits ≡ n
    → EachWatch (Has n) slots → EachWatch (Has n) now
set-sized n k slots now w hits plies is games len each j =
    subst (λ (s : Slotted). IfSome (in_slot s.watches j) (Has n)) (sym is)
    (set-each n slots.watches k w (ap length games ∙ length-under plies (all_out hits) ∙ length-out hits ∙ len) each j)

some-sized : (n m : ℕ) (change : Watched → Watched) → ((w : Watched) → Has n w → Has m (change w)) → (w : Option Watched)
    → IfSome w (Has n) → IfSome (option_map change w) (Has m)
some-sized n m change keeps None has = tt
some-sized n m change keeps (Some w) has = keeps w has

changed-sized : (n m : ℕ) (change : ℕ → Watched → Watched) (old now : Slotted) → ((k : ℕ) (w : Watched) → Has n w → Has m (change k w))
    → AreChanged change old now → EachWatch (Has n) old → EachWatch (Has m) now
changed-sized n m change old now keeps is each k =
    subst (λ (w : Option Watched). IfSome w (Has m)) (sym (is k)) (some-sized n m (change k) (keeps k) (in_slot old.watches k) (each k))

pub filter-sized : (n : ℕ) (plies : List (Option ℕ)) (old now : Slotted) → AreChanged (λ k watch. record watch { games = under plies watch.games }) old now
    → EachWatch (Has n) old → EachWatch (Has n) now
filter-sized n plies old now is each =
    changed-sized n n (λ k watch. record watch { games = under plies watch.games }) old now (λ k w has. length-under plies w.games ∙ has) is each

-- The same where it reaches some watches alone.
pub some-filtered : (n : ℕ) (plies : List (Option ℕ)) (among : ℕ → Bool) (old now : Slotted)
    → AreChanged (λ k watch. if among k then record watch { games = under plies watch.games } else watch) old now → EachWatch (Has n) old → EachWatch (Has n) now
some-filtered n plies among old now is each =
    changed-sized n n (λ k watch. if among k then record watch { games = under plies watch.games } else watch) old now (λ k w has. by (among k) w has) is each
  where
    by : (b : Bool) (w : Watched) → Has n w → Has n (if b then record w { games = under plies w.games } else w)
    by true w has = length-under plies w.games ∙ has
    by false w has = has

length-with : (i n m : ℕ) (game : Entry) (games : List Entry) → length games ≡ n → (i < n → m ≡ n) → (n ≤ i → m ≡ n + 1) → length (with_game i game games) ≡ m
length-with i n m game games len inside behind = by (nat_lt i (length games)) refl
  where
    by : (b : Bool) → nat_lt i (length games) ≡ b → length (cond b (set games i game) (games ++ game ∷ [])) ≡ m
    by true e = length-set games i game ∙ len ∙ sym (inside (omega (arith, len, ltb-true i (length games) e)))
    by false e = length-append games (game ∷ []) ∙ (omega (arith, len, behind (omega (arith, len, ltb-false i (length games) e))))

pub game-sized : (i n m : ℕ) (game : ℕ → Entry) (old now : Slotted) → (i < n → m ≡ n) → (n ≤ i → m ≡ n + 1)
    → AreChanged (λ k watch. record watch { games = with_game i (game k) watch.games }) old now → EachWatch (Has n) old → EachWatch (Has m) now
game-sized i n m game old now inside behind is each =
    changed-sized n m (λ k watch. record watch { games = with_game i (game k) watch.games }) old now
    (λ k w has. length-with i n m (game k) w.games has inside behind) is each

length-renumbered : (next kept : ℕ) (to : List (Option ℕ)) (games : List Entry) → Rises next to kept → length games ≡ length to
    → next + length (renumbered to games) ≡ kept
length-renumbered next kept [] games rises len = omega (arith, rises)
length-renumbered next kept (number ∷ to) [] rises len = absurd (omega (arith, len))
length-renumbered next kept (None ∷ to) (g ∷ games) rises len = length-renumbered next kept to games rises (omega (arith, len))
length-renumbered next kept (Some number ∷ to) (g ∷ games) rises len =
    omega (arith, length-renumbered (next + 1) kept to games rises.1 (omega (arith, len)))

pub numbers-sized : (kept : ℕ) (to : List (Option ℕ)) (old now : Slotted) → Rises 0 to kept
    → AreChanged (λ k watch. record watch { games = renumbered to watch.games }) old now → EachWatch (Has (length to)) old → EachWatch (Has kept) now
numbers-sized kept to old now rises is each =
    changed-sized (length to) kept (λ k watch. record watch { games = renumbered to watch.games }) old now
    (λ k w has. omega (arith, length-renumbered 0 kept to w.games rises has)) is each

-- What a change that went well leaves.
pub stands : {A E B P : Type 0} (r : Result A E) (rows : B → List Row) (now : Slotted) (views : List (Option B)) (m : ℕ) → (P → EachWatch (Has m) now)
    → OnOk r P → OnOk r (AreShown rows now views) → OnOk r (AreStanding rows now views m)
stands (Ok a) rows now views m sized is shown = record { shown = shown; sized = sized is }
stands (Err e) rows now views m sized is shown = tt

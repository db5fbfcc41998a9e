-- How many rows differ behind a change of the games: at most as many as changes of games are counted.
use Rattle.std.proofs.Common.{◌≡◌, ℕ, ◌+◌, ◌≤◌, Bool, true, false, cond, List, [], ◌∷◌, ◌++◌, Option, Some, None, nat_lt, length, set, option_to_list, length-append, refl, sym, subst, arith}
use Rattle.std.proofs.lemmas.List.{length-set}
use Rattle.game_filter.specs.Renumbering.{renumbered}
use Rattle.cell_core.specs.declared.step.Move.{Move}
use Rattle.tree_rows.specs.declared.hit.GameHit.{GameHit}
use Rattle.tree_rows.specs.declared.row.Row.{Row}
use Rattle.tree_rows.specs.Rows.{keys_of, row_at, rows_of}
use Rattle.tree_live.specs.declared.entry.Entry.{Entry}
use Rattle.tree_live.specs.declared.marks.Marks.TheVariants.{Plies}
use Rattle.tree_live.specs.RowChanges.{rows_changed}
use Rattle.tree_live.specs.Views.{Shows}
use Rattle.tree_live.specs.Watching.{all_changes, changes, counted, hits_in, staying, under, with_game}
use Rattle.tree_live.proofs.FewLaws.{rows-few}
use Rattle.tree_live.proofs.GameLaws.{length-marks}
use Rattle.tree_live.proofs.StayingLaws.{rows-few-staying}

-- Games that are these.
few-now : (games now after : List Entry) (most : ℕ) → now ≡ after → rows_changed (rows_of (hits_in games)) (rows_of (hits_in after)) ≤ most
    → rows_changed (rows_of (hits_in games)) (rows_of (hits_in now)) ≤ most
few-now games now after most is few = subst (λ (list : List Entry). rows_changed (rows_of (hits_in games)) (rows_of (hits_in list)) ≤ most) (sym is) few

pub few-under : (plies : List (Option ℕ)) (games now : List Entry) → now ≡ under plies games
    → rows_changed (rows_of (hits_in games)) (rows_of (hits_in now)) ≤ all_changes games (under plies games)
few-under plies games now is = few-now games now (under plies games) _ is (rows-few games (under plies games) (omega (arith, length-marks Plies plies games)))

longer : (games : List Entry) (i : ℕ) (game : Entry) → length games ≤ length (with_game i game games)
longer games i game = by (nat_lt i (length games))
  where
    by : (b : Bool) → length games ≤ length (cond b (set games i game) (games ++ game ∷ []))
    by true = omega (arith, length-set games i game)
    by false = omega (arith, length-append games (game ∷ []))

pub few-with : (i : ℕ) (game : Entry) (games now : List Entry) → now ≡ with_game i game games
    → rows_changed (rows_of (hits_in games)) (rows_of (hits_in now)) ≤ all_changes games (with_game i game games)
few-with i game games now is = few-now games now (with_game i game games) _ is (rows-few games (with_game i game games) (longer games i game))

pub few-renumbered : (to : List (Option ℕ)) (games now : List Entry) → length to ≡ length games → now ≡ renumbered to games
    → rows_changed (rows_of (hits_in games)) (rows_of (hits_in now)) ≤ all_changes games (staying to games)
few-renumbered to games now same is = few-now games now (renumbered to games) _ is (rows-few-staying games to (omega (arith, same)))

-- ---- where no row stood

no-rows : rows_of [] ≡ []
unfolding rows_of keys_of
no-rows = refl

pub none-shown : (rows : List Row) → rows ≡ [] → Shows [] rows
none-shown rows none key = subst (λ (list : List Row). row_at key rows ≡ row_at key list) (none-is rows none) refl
  where
    none-is : (rows : List Row) → rows ≡ [] → rows ≡ rows_of []
    none-is rows none = rw (none, no-rows) refl

come-in : (hit : Option GameHit) → changes None hit ≡ length (option_to_list hit)
come-in None = refl
come-in (Some hit) = refl

all-in : (games : List Entry) → all_changes [] games ≡ length (hits_in games)
all-in [] = refl
all-in (game ∷ games) = omega (arith, come-in (counted game), all-in games, length-append (option_to_list (counted game)) (hits_in games))

pub few-in : (games now : List Entry) → now ≡ games → rows_changed (rows_of []) (rows_of (hits_in now)) ≤ length (hits_in games)
few-in games now is = few-now [] now games _ is (omega (arith, rows-few [] games (omega arith), all-in games))

-- Games that go with a renumbering count as those that stay where they are and are out.
use Rattle.std.proofs.Common.{◌≡◌, ℕ, suc, ◌≤◌, ◌&&◌, Bool, true, false, cond, List, [], ◌∷◌, ◌++◌, Option, Some, None, length, option_to_list, refl, ap, ap₂, arith, subst}
use Rattle.game_filter.specs.Renumbering.{renumbered}
use Rattle.tree_rows.specs.Rows.{rows_of}
use Rattle.tree_rows.specs.declared.hit.GameHit.{GameHit}
use Rattle.tree_live.specs.declared.entry.Entry.{Entry}
use Rattle.tree_live.specs.RowChanges.{rows_changed}
use Rattle.tree_live.specs.Watching.{all_changes, hits_in, staying}
use Rattle.tree_live.proofs.FewLaws.{rows-few}

counted-gone : (b : Bool) (hit : Option GameHit) → cond (b && false) hit None ≡ None
counted-gone true hit = refl
counted-gone false hit = refl

counted-kept : (b : Bool) (hit : Option GameHit) → cond (b && true) hit None ≡ cond b hit None
counted-kept true hit = refl
counted-kept false hit = refl

hits-staying : (to : List (Option ℕ)) (games : List Entry) → length games ≤ length to → hits_in (staying to games) ≡ hits_in (renumbered to games)
hits-staying [] [] fits = refl
hits-staying [] (game ∷ games) fits = absurd (omega (arith, fits))
hits-staying (mark ∷ to) [] fits = refl
hits-staying (None ∷ to) (game ∷ games) fits =
    ap₂ (λ (hit : Option GameHit) (hits : List GameHit). option_to_list hit ++ hits) (counted-gone game.is_in game.hit) (hits-staying to games (omega (arith, fits)))
hits-staying (Some number ∷ to) (game ∷ games) fits =
    ap₂ (λ (hit : Option GameHit) (hits : List GameHit). option_to_list hit ++ hits) (counted-kept game.is_in game.hit) (hits-staying to games (omega (arith, fits)))

length-staying : (to : List (Option ℕ)) (games : List Entry) → length (staying to games) ≡ length games
length-staying [] games = refl
length-staying (mark ∷ to) [] = refl
length-staying (mark ∷ to) (game ∷ games) = ap suc (length-staying to games)

pub rows-few-staying : (games : List Entry) (to : List (Option ℕ)) → length games ≤ length to
    → rows_changed (rows_of (hits_in games)) (rows_of (hits_in (renumbered to games))) ≤ all_changes games (staying to games)
rows-few-staying games to fits =
    let P : List GameHit → Type 0 = λ hits. rows_changed (rows_of (hits_in games)) (rows_of hits) ≤ all_changes games (staying to games) in
    subst P (hits-staying to games fits) (rows-few games (staying to games) (omega (arith, length-staying to games)))

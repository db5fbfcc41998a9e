-- The first ply that a search computes is the first at which the game matches.
use Rattle.std.proofs.Common.{◌≡◌, ℕ, zero, suc, ◌+◌, ◌<◌, ◌≤◌, Bool, true, false, cond, IsTrue, List, [], ◌∷◌, Option, None, Some, refl, sym, ap, ◌∙◌, arith, inl, inr}
use Rattle.std.specs.Prelude.{◌↔◌, option_map, slice_get}
use Rattle.std.specs.List.{find}
use Rattle.std.specs.Option.{option_or}
use Rattle.std.proofs.lemmas.Bool.{and_from, both_ways, cases_Bool}
use Rattle.cell_core.specs.Man.{same_colour}
use Rattle.cell_core.proofs.Same.{same_colour-Decides, same_men-Decides}
use Rattle.chess_laws.specs.declared.setup.Setup.{Setup}
use Rattle.game_codec.specs.Visits.{places}
use Rattle.game_tree.specs.Game.{GameTree}
use Rattle.game_tree.specs.Replay.{plies_of}
use Rattle.sig_index.specs.declared.pos_query.Mode.{Mode}
use Rattle.sig_index.specs.declared.pos_query.Mode.TheVariants.{Exact}
use Rattle.sig_index.specs.declared.pos_query.PosQuery.{PosQuery}
use Rattle.sig_index.proofs.Ranges.{found_first, found_none}
use Rattle.pos_search.specs.Matching.{FirstPly, NoneOnMain, alike, first_if_aside, first_of, first_on_main, is_sought, matches, matches_at}
use Rattle.pos_search.proofs.Words.{first_aside}
use Rattle.pos_search.proofs.MatchLemmas.{matched}

-- The first of a list that passes a test, and none where none does.
pub record IsFound {X : Type 0} (test : X → Bool) (xs : List X) (x : X) : Type 0 where
  pub number : ℕ
  pub place : slice_get xs number ≡ Some x
  pub passes : test x ≡ true
  pub before : (earlier : ℕ) (other : X) → earlier < number → slice_get xs earlier ≡ Some other → test other ≡ false

found_in : {X : Type 0} (test : X → Bool) (xs : List X) (x : X) → find test xs ≡ Some x → IsFound test xs x
found_in test [] x found = absurd (cc)
found_in {X} test (y ∷ ys) x found =
    elim (cases_Bool (test y)) [
      | inl holds ↦
          let here : Some y ≡ Some x = rw holds at found in
          let same : y ≡ x = cc in
          record { number = 0; place = here; passes = ap test (sym same) ∙ holds; before = λ earlier other less there. absurd (omega (arith, less)) }
      | inr fails ↦
          let rest : find test ys ≡ Some x = rw fails at found in
          let on = found_in test ys x rest in
          record { number = suc on.number; place = on.place; passes = on.passes; before = before_more on fails }
    ]
  where
    before_more : (on : IsFound test ys x) → test y ≡ false → (earlier : ℕ) (other : X) → earlier < suc on.number → slice_get (y ∷ ys) earlier ≡ Some other → test other ≡ false
    before_more on fails zero other less there = let same : y ≡ other = cc in ap test (sym same) ∙ fails
    before_more on fails (suc earlier) other less there = on.before earlier other (omega (arith, less)) there

none_in : {X : Type 0} (test : X → Bool) (xs : List X) → find test xs ≡ None → (number : ℕ) (x : X) → slice_get xs number ≡ Some x → test x ≡ false
none_in test [] none number x there = absurd (cc)
none_in test (y ∷ ys) none number x there =
    elim (cases_Bool (test y)) [
      | inl holds ↦ absurd (let found = rw holds at none in cc)
      | inr fails ↦
          let rest : find test ys ≡ None = rw fails at none in
          none_next number there fails (λ later at. none_in test ys rest later x at)
    ]
  where
    none_next : (number : ℕ) → slice_get (y ∷ ys) number ≡ Some x → test y ≡ false → ((later : ℕ) → slice_get ys later ≡ Some x → test x ≡ false) → test x ≡ false
    none_next zero there fails rest = let same : y ≡ x = cc in ap test (sym same) ∙ fails
    none_next (suc number) there fails rest = rest number there

main_none : (query : PosQuery) (game : GameTree) → first_on_main query game ≡ None → NoneOnMain query game
main_none query game is = λ ply within. found_none (matches_at query game) 0 (plies_of game + 1) ply is (omega arith) (omega (arith, within))

-- A match of the main line is found there.
pub found_main : (query : PosQuery) (game : GameTree) (ply : ℕ) → ply ≤ plies_of game → matches_at query game ply ≡ true → first_on_main query game ≡ None → ⊥
found_main query game ply within holds none = both_ways (matches_at query game ply) (main_none query game none ply within) holds

module _ (query : PosQuery) (game : GameTree) where
  by_place : NoneOnMain query game → IsTrue query.vars → (place : Option (Setup × ℕ)) → find (is_sought query) (places game) ≡ place
      → FirstPly query game (option_map (λ (p : Setup × ℕ). p.1) place)
  by_place none looks None is = (none, λ _. none_in (is_sought query) (places game) is)
  by_place none looks (Some place) is =
      let found = found_in (is_sought query) (places game) place is in
      inr (record { looks = looks; none = none; number = found.number; position = place.0; place = found.place; here = found.passes; before = found.before })

  by_vars : NoneOnMain query game → (vars : Bool) → query.vars ≡ vars → FirstPly query game (cond vars (first_aside query game) None)
  by_vars none true is = by_place none is (find (is_sought query) (places game)) refl
  by_vars none false is = (none, λ looks. absurd (both_ways query.vars is looks))

  by_main : (first : Option ℕ) → first_on_main query game ≡ first → FirstPly query game (option_or first (first_if_aside query game))
  by_main None is = by_vars (main_none query game is) query.vars refl
  by_main (Some ply) is =
      let found = found_first (matches_at query game) 0 (plies_of game + 1) ply is in
      inl (record { within = omega (arith, found.within); here = found.passes; before = λ earlier less. found.before earlier (omega arith) less })

pub first_is : (query : PosQuery) (game : GameTree) → FirstPly query game (first_of query game)
first_is query game = by_main query game (first_on_main query game) refl

-- An exact search is for a board and a side.
alike_exact : (mode : Mode) (p : Setup) (query : PosQuery) → mode ≡ Exact → p.board ≡ query.board → alike mode p.board query.board ≡ true
alike_exact mode p query exact board = rw exact ((same_men-Decides p.board query.board).1 board)

pub matches_from : (query : PosQuery) (p : Setup) → query.mode ≡ Exact → p.board ≡ query.board → p.side ≡ query.side → matches query p ≡ true
unfolding matches
matches_from query p exact board side =
    and_from (same_colour p.side query.side) (alike query.mode p.board query.board) ((same_colour-Decides p.side query.side).1 side)
    (alike_exact query.mode p query exact board)

pub exact_is : (query : PosQuery) (p : Setup) → query.mode ≡ Exact → (matches query p ≡ true) ↔ ((p.board ≡ query.board) × (p.side ≡ query.side))
exact_is query p exact =
    (λ holds. let m = matched query p holds in (m.exact exact, m.side), λ same. matches_from query p exact same.0 same.1)

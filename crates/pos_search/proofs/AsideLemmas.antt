-- The search over all lines: what the moves that were given tell of the first place.
use Rattle.std.proofs.Common.{◌≡◌, ℕ, zero, suc, ◌+◌, ◌≤◌, Bool, true, false, not, ◌&&◌, cond, IsTrue, List, [], ◌∷◌, ◌++◌, Option, None, Some, drop, length, take, refl, sym, ap, ◌∙◌, append_assoc, add-one, arith, inl, inr}
use Rattle.std.specs.Prelude.{Result, Ok, Err, IfOk, filter, fold, map, option_map, slice_get}
use Rattle.std.specs.List.{find}
use Rattle.std.specs.Option.{option_or}
use Rattle.std.proofs.lemmas.Bool.{cases_Bool}
use Rattle.cell_core.specs.declared.step.Move.{Move}
use Rattle.chess_laws.specs.Step.{stepped}
use Rattle.chess_laws.specs.declared.setup.Setup.{Setup}
use Rattle.game_codec.specs.AllWalk.{AllWalked}
use Rattle.game_codec.specs.Visits.{Visit, all_visits, branch_visits, line_visits, place_of_visit}
use Rattle.game_tree.specs.Game.{GameTree}
use Rattle.game_tree.specs.Replay.{next_at, plies_of}
use Rattle.game_tree.specs.Tree.{Line, ends, goes, Branches, more, moves_of}
use Rattle.game_tree.specs.Tree.{none as bare}
use Rattle.sig_index.specs.declared.pos_query.PosQuery.{PosQuery}
use Rattle.pos_search.specs.Matching.{first_of, IsLegalFrom, first_if_aside, first_on_main, hit_of, hit_on_main, is_sought, matches, matches_at}
use Rattle.pos_search.proofs.Words.{first_aside, hit_aside}
use Rattle.pos_search.specs.Sought.{found_aside}
use Rattle.pos_search.proofs.FirstLemmas.{found_main}
use Rattle.pos_search.proofs.WalkLemmas.{none_of}

-- A place of the main line that is sought, and one of a variation.
abbrev pub meets_main : PosQuery → Visit → Bool
meets_main query v = v.main && matches query v.position

abbrev pub meets_aside : PosQuery → Visit → Bool
meets_aside query v = not v.main && matches query v.position

abbrev pub ply_in : Option Visit → Option ℕ
ply_in found = option_map (λ (v : Visit). v.ply) found

-- The places of the variations are the moves that stand in no main line.
aside_in : (query : PosQuery) (visits : List Visit)
    → ply_in (find (meets_aside query) visits) ≡ option_map (λ (place : Setup × ℕ). place.1) (find (is_sought query) (map place_of_visit (filter (λ (v : Visit). not v.main) visits)))
aside_in query [] = refl
aside_in query (v ∷ visits) =
    elim (cases_Bool v.main) [
      | inl main ↦ rw main (aside_in query visits)
      | inr off ↦
          elim (cases_Bool (matches query v.position)) [
            | inl holds ↦ rw (off, holds) refl
            | inr fails ↦ rw (off, fails) (aside_in query visits)
          ]
    ]

-- No place of a variation is one of the main line.
mutual
  off_line : (query : PosQuery) (p : Setup) (ply : ℕ) (line : Line) (rest : List Visit)
      → find (meets_main query) (line_visits false p ply line ++ rest) ≡ find (meets_main query) rest
  off_line query p ply ends rest = refl
  off_line query p ply (goes mv nags comment variations line) rest =
      let inner = branch_visits p ply variations in
      let later = line_visits false (stepped p mv) (suc ply) line in
      ap (find (meets_main query)) (append_assoc inner later rest)
      ∙ off_branches query p ply variations (later ++ rest)
      ∙ off_line query (stepped p mv) (suc ply) line rest

  off_branches : (query : PosQuery) (p : Setup) (ply : ℕ) (variations : Branches) (rest : List Visit)
      → find (meets_main query) (branch_visits p ply variations ++ rest) ≡ find (meets_main query) rest
  off_branches query p ply bare rest = refl
  off_branches query p ply (more lead line others) rest =
      let first = line_visits false p ply line in
      let later = branch_visits p ply others in
      ap (find (meets_main query)) (append_assoc first later rest)
      ∙ off_line query p ply line (later ++ rest)
      ∙ off_branches query p ply others rest

-- The positions along a line of moves.
abbrev along : Setup → List Move → ℕ → Setup
along p moves k = fold stepped p (take k moves)

-- Where no place of the main line was met, none of its positions is sought.
none_along : (query : PosQuery) (p : Setup) (ply : ℕ) (line : Line) → find (meets_main query) (line_visits true p ply line) ≡ None
    → (k : ℕ) → suc k ≤ length (moves_of line) → matches query (along p (moves_of line) (suc k)) ≡ false
none_along query p ply ends none k within = absurd (omega (arith, within))
none_along query p ply (goes mv nags comment variations line) none k within =
    elim (cases_Bool (matches query (stepped p mv))) [
      | inl holds ↦ absurd (let met = rw holds at none in cc)
      | inr fails ↦
          let later = line_visits true (stepped p mv) (suc ply) line in
          let rest : find (meets_main query) (branch_visits p ply variations ++ later) ≡ None = rw fails at none in
          let on : find (meets_main query) later ≡ None = sym (off_branches query p ply variations later) ∙ rest in
          none_next k within fails (λ j less. none_along query (stepped p mv) (suc ply) line on j less)
    ]
  where
    none_next : (k : ℕ) → suc k ≤ suc (length (moves_of line)) → matches query (stepped p mv) ≡ false
        → ((j : ℕ) → suc j ≤ length (moves_of line) → matches query (along (stepped p mv) (moves_of line) (suc j)) ≡ false)
        → matches query (along p (mv ∷ moves_of line) (suc k)) ≡ false
    none_next zero within fails on = fails
    none_next (suc k) within fails on = on k (omega (arith, within))

-- Where one was met, one of them is.
some_along : (query : PosQuery) (p : Setup) (ply : ℕ) (line : Line) (v : Visit) → find (meets_main query) (line_visits true p ply line) ≡ Some v
    → (k : ℕ) × ((suc k ≤ length (moves_of line)) × (matches query (along p (moves_of line) (suc k)) ≡ true))
some_along query p ply ends v some = absurd (cc)
some_along query p ply (goes mv nags comment variations line) v some =
    elim (cases_Bool (matches query (stepped p mv))) [
      | inl holds ↦ (0, (omega arith, holds))
      | inr fails ↦
          let later = line_visits true (stepped p mv) (suc ply) line in
          let rest : find (meets_main query) (branch_visits p ply variations ++ later) ≡ Some v = rw fails at some in
          let on = some_along query (stepped p mv) (suc ply) line v (sym (off_branches query p ply variations later) ∙ rest) in
          (suc on.0, (omega (arith, on.1.0), on.1.1))
    ]

-- What is known after so many moves: no place of the main line is sought, and this is the first of the variations.
pub record IsSearched (query : PosQuery) (game : GameTree) (given : ℕ) (found : Option ℕ) : Type 0 where
  pub start : matches query game.start ≡ false
  pub main : find (meets_main query) (all_visits game) ≡ find (meets_main query) (drop given (all_visits game))
  pub aside : ply_in (find (meets_aside query) (all_visits game)) ≡ option_or found (ply_in (find (meets_aside query) (drop given (all_visits game))))

pub none_searched : (query : PosQuery) (game : GameTree) (p : Setup) (given : ℕ) → p ≡ game.start → given ≡ 0 → matches query p ≡ false → IsSearched query game given None
none_searched query game p given start none fails = rw none (record { start = ap (matches query) (sym start) ∙ fails; main = refl; aside = refl })

at_place : (xs : List Visit) (k : ℕ) (x : Visit) → slice_get xs k ≡ Some x → drop k xs ≡ x ∷ drop (suc k) xs
at_place [] k x e = absurd (cc)
at_place (y ∷ ys) zero x e = let same : y ≡ x = cc in ap (λ (v : Visit). v ∷ ys) same
at_place (y ∷ ys) (suc k) x e = at_place ys k x e

at_end : (xs : List Visit) (k : ℕ) → slice_get xs k ≡ None → drop k xs ≡ []
at_end [] zero e = refl
at_end [] (suc k) e = refl
at_end (y ∷ ys) zero e = absurd (cc)
at_end (y ∷ ys) (suc k) e = at_end ys k e

-- One place more that is not sought on the main line.
found_more : (found : Option ℕ) (met : Bool) (v : Visit) (rest : Option Visit)
    → option_or found (ply_in (cond met (Some v) rest)) ≡ option_or (option_or found (cond met (Some v.ply) None)) (ply_in rest)
found_more None true v rest = refl
found_more None false v rest = refl
found_more (Some ply) met v rest = refl

pub more_searched : (query : PosQuery) (game : GameTree) (given next : ℕ) (found found' : Option ℕ) (m : Move) (walk : AllWalked) → IsSearched query game given found
    → slice_get (all_visits game) given ≡ Some (record { mv = m; position = walk.position; ply = walk.ply; main = walk.on_main })
    → (walk.on_main && matches query walk.position) ≡ false → next ≡ given + 1 → found' ≡ found_aside query found walk → IsSearched query game next found'
more_searched query game given next found found' m walk so there off after is =
    let v : Visit = record { mv = m; position = walk.position; ply = walk.ply; main = walk.on_main } in
    let later = drop (suc given) (all_visits game) in
    let here : drop given (all_visits game) ≡ v ∷ later = at_place (all_visits game) given v there in
    let step : next ≡ suc given = after ∙ add-one given in
    rw (step, is)
    (record {
      start = so.start;
      main = so.main ∙ ap (find (meets_main query)) here ∙ ap (λ (t : Bool). cond t (Some v) (find (meets_main query) later)) off;
      aside = so.aside ∙ ap (λ (vs : List Visit). option_or found (ply_in (find (meets_aside query) vs))) here
          ∙ found_more found (meets_aside query v) v (find (meets_aside query) later);
    })

-- What stands first in two places.
or_first : {X : Type 0} (a b : Option X) → (a ≡ None → ⊥) → a ≡ option_or a b
or_first None b some = absurd (some refl)
or_first (Some x) b some = refl

map_some : {X Y : Type 0} (f : X → Y) (a : Option X) → (a ≡ None → ⊥) → option_map f a ≡ None → ⊥
map_some f None some none = some refl
map_some f (Some x) some none = absurd (cc)

-- The main line matches: its hit is that of the game.
pub main_hit : (query : PosQuery) (game : GameTree) (ply : ℕ) → ply ≤ plies_of game → matches_at query game ply ≡ true → hit_on_main query game ≡ hit_of query game
main_hit query game ply within holds =
    or_first (hit_on_main query game) (option_map hit_aside (first_if_aside query game))
    (map_some (λ (k : ℕ). (k, next_at game k)) (first_on_main query game) (λ none. found_main query game ply within holds none))

pub start_hit : (query : PosQuery) (game : GameTree) (p : Setup) → p ≡ game.start → matches query p ≡ true → hit_on_main query game ≡ hit_of query game
start_hit query game p start holds = main_hit query game 0 (omega arith) (ap (matches query) (sym start) ∙ holds)

met_main : (query : PosQuery) (game : GameTree) (given : ℕ) (found : Option ℕ) (v : Visit) → IsSearched query game given found
    → slice_get (all_visits game) given ≡ Some v → meets_main query v ≡ true → hit_on_main query game ≡ hit_of query game
met_main query game given found v so there holds =
    let later = drop (suc given) (all_visits game) in
    let here : drop given (all_visits game) ≡ v ∷ later = at_place (all_visits game) given v there in
    let first : find (meets_main query) (all_visits game) ≡ Some v =
    so.main ∙ ap (find (meets_main query)) here ∙ ap (λ (t : Bool). cond t (Some v) (find (meets_main query) later)) holds in
    let on = some_along query game.start 0 game.line v first in
    main_hit query game (suc on.0) on.1.0 on.1.1

pub walk_hit : (query : PosQuery) (game : GameTree) (given : ℕ) (found : Option ℕ) (m : Move) (walk : AllWalked) → IsSearched query game given found
    → slice_get (all_visits game) given ≡ Some (record { mv = m; position = walk.position; ply = walk.ply; main = walk.on_main })
    → (walk.on_main && matches query walk.position) ≡ true → hit_on_main query game ≡ hit_of query game
walk_hit query game given found m walk so there holds =
    met_main query game given found (record { mv = m; position = walk.position; ply = walk.ply; main = walk.on_main }) so there holds

-- The main line does not.
main_none : (query : PosQuery) (game : GameTree) → matches query game.start ≡ false → find (meets_main query) (all_visits game) ≡ None → None ≡ first_on_main query game
main_none query game start none = none_of query game by
  where
    by : (k : ℕ) → k ≤ plies_of game → matches_at query game k ≡ false
    by zero within = start
    by (suc k) within = none_along query game.start 0 game.line none k within

-- All moves were given.
pub end_hit : (query : PosQuery) (game : GameTree) (given : ℕ) (found : Option ℕ) → IsSearched query game given found → IsTrue query.vars
    → slice_get (all_visits game) given ≡ None → option_map hit_aside found ≡ hit_of query game
end_hit query game given found so looks over =
    let over' = at_end (all_visits game) given over in
    let none = main_none query game so.start (so.main ∙ ap (find (meets_main query)) over') in
    let aside : ply_in (find (meets_aside query) (all_visits game)) ≡ option_or found None =
    so.aside ∙ ap (λ (vs : List Visit). option_or found (ply_in (find (meets_aside query) vs))) over' in
    let is : found ≡ first_if_aside query game =
    sym (or_none found) ∙ sym aside ∙ aside_in query (all_visits game) ∙ ap (λ (t : Bool). cond t (first_aside query game) None) (sym looks) in
    ap (option_map hit_aside) is
    ∙ ap (λ (first : Option ℕ). option_or (option_map (λ (k : ℕ). (k, next_at game k)) first) (option_map hit_aside (first_if_aside query game))) none
  where
    or_none : (a : Option ℕ) → option_or a None ≡ a
    or_none None = refl
    or_none (Some x) = refl

-- A query that looks at main lines alone.
pub plain_hit : (query : PosQuery) (game : GameTree) → query.vars ≡ false → hit_on_main query game ≡ hit_of query game
plain_hit query game plain =
    sym (or_none (hit_on_main query game))
    ∙ ap (λ (t : Bool). option_or (hit_on_main query game) (option_map hit_aside (cond t (first_aside query game) None))) (sym plain)
  where
    or_none : (a : Option (ℕ × Option Move)) → option_or a None ≡ a
    or_none None = refl
    or_none (Some x) = refl

pub plain_first : (query : PosQuery) (game : GameTree) → query.vars ≡ false → first_on_main query game ≡ first_of query game
plain_first query game plain =
    sym (or_none (first_on_main query game))
    ∙ ap (λ (t : Bool). option_or (first_on_main query game) (cond t (first_aside query game) None)) (sym plain)
  where
    or_none : (a : Option ℕ) → option_or a None ≡ a
    or_none None = refl
    or_none (Some x) = refl

-- A place in a variation has no next move.
pub legal_aside : (query : PosQuery) (found : Option ℕ) → IsLegalFrom query (option_map hit_aside found)
legal_aside query None k m exact same = absurd (cc)
legal_aside query (Some ply) k m exact same =
    let pair : (ply, None) ≡ (k, Some m) = cc in
    let apart : None ≡ Some m = ap (λ (t : ℕ × Option Move). t.1) pair in
    absurd (cc)

-- What an answer tells, told in other words.
pub ok_map : {A F : Type 0} (P Q : A → Type 0) (r : Result A F) → ((a : A) → P a → Q a) → IfOk r P → IfOk r Q
ok_map P Q (Ok a) f h = f a h
ok_map P Q (Err e) f h = tt

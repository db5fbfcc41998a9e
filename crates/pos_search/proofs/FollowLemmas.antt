-- A match passes the test of signatures, and can follow each earlier position.
use Rattle.std.proofs.Common.{◌≡◌, ℕ, suc, ◌+◌, ◌==◌, ◌<◌, ◌≤◌, Bool, true, false, not, ◌&&◌, ◌||◌, cond, nat_le, List, [], Option, None, refl, sym, ap, ap₂, ◌∙◌, subst, arith, inl, inr}
use Rattle.std.specs.Prelude.{◌∷◌, count_by, filter, map, nat_lt, option_map, slice_index, sum}
use Rattle.std.specs.List.{find}
use Rattle.std.specs.Option.{option_or}
use Rattle.std.proofs.lemmas.Bool.Decides.{nat_tests}
use Rattle.std.proofs.lemmas.Bool.{and_from, both_ways, cases_Bool, le-ltb}
use Rattle.chess_laws.specs.Counts.{counts_of, is_home}
use Rattle.chess_laws.specs.Position.{Sound}
use Rattle.chess_laws.specs.Step.{stepped}
use Rattle.chess_laws.specs.declared.setup.Setup.{Setup}
use Rattle.game_codec.specs.Visits.{Visit, line_visits, place_of_visit, places}
use Rattle.game_tree.specs.Counts.{variations_of}
use Rattle.game_tree.proofs.CountLemmas.{variations_in}
use Rattle.game_tree.specs.Game.{GameTree}
use Rattle.game_tree.specs.Legal.{IsLegalGame}
use Rattle.game_tree.specs.Replay.{plies_of, position_at}
use Rattle.game_tree.specs.Tree.{Line, ends, goes, more}
use Rattle.game_tree.specs.Tree.{none as bare}
use Rattle.index_entry.specs.Counts.{count_code}
use Rattle.sig_index.specs.declared.pos_query.PosQuery.{PosQuery}
use Rattle.sig_index.specs.declared.pos_query.Mode.TheVariants.{Exact}
use Rattle.sig_index.specs.declared.signature.Sig.{Sig}
use Rattle.sig_index.specs.Coming.{can_come}
use Rattle.sig_index.specs.Homes.{home_allows, home_set}
use Rattle.sig_index.specs.Signature.{IsSig}
use Rattle.sig_index.specs.Skipping.{can_stand}
use Rattle.sig_index.proofs.AllowLemmas.{same_set}
use Rattle.sig_index.proofs.ComingLemmas.{comes}
use Rattle.sig_index.proofs.PrefixLemmas.{home_sound, stood_before}
use Rattle.sig_index.proofs.Ranges.{all_from, find_none}
use Rattle.sig_index.proofs.SigOf.{parts}
use Rattle.sig_index.proofs.SkippingLemmas.{skipping_sound}
use Rattle.pos_search.specs.Matching.{first_if_aside, first_of, first_on_main, is_sought, matches_at}
use Rattle.pos_search.proofs.Words.{first_aside}
use Rattle.pos_search.specs.Passing.{fixes_pawns, has_homes, just, looks_into, passes, passes_main}
use Rattle.pos_search.specs.Sought.{can_follow}
use Rattle.pos_search.proofs.MatchLemmas.{matched}
use Rattle.pos_search.proofs.MenLemmas.{men_fall}

same_least : (counts sought : List ℕ) (place : ℕ) → counts ≡ sought → slice_index sought place ≤ slice_index counts place
same_least counts sought place same = subst (λ (c : List ℕ). slice_index sought place ≤ slice_index c place) (sym same) (omega arith)

same_most : (counts sought : List ℕ) (place : ℕ) → counts ≡ sought → slice_index counts place ≤ slice_index sought place
same_most counts sought place same = subst (λ (c : List ℕ). slice_index c place ≤ slice_index sought place) (sym same) (omega arith)

-- What is asked only where the mode fixes the pawns.
if_fixed : (fixed test : Bool) → (fixed ≡ true → test ≡ true) → (not fixed || test) ≡ true
if_fixed true test h = h refl
if_fixed false test h = refl

-- ---- the test of signatures

or_right : (a b : Bool) → b ≡ true → (a || b) ≡ true
or_right true b h = refl
or_right false b h = h

match_passes : (game : GameTree) (sig : Sig) (query : PosQuery) (ply : ℕ) → Sound game.start → IsLegalGame game → IsSig game sig → ply ≤ plies_of game
    → matches_at query game ply ≡ true → passes sig query ≡ true
unfolding passes
match_passes game sig query ply sound legal is within holds =
    let men = (position_at game ply).board in
    let m = matched query (position_at game ply) holds in
    or_right (looks_into sig query) (passes_main sig query)
    (and_from (not (fixes_pawns query.mode) || home_allows sig (home_set query.board)) (can_stand sig (just (counts_of query.board)))
    (if_fixed (fixes_pawns query.mode) (home_allows sig (home_set query.board))
    (λ fixed. ap (home_allows sig) (sym (same_set men query.board (m.homes fixed))) ∙ home_sound game sig ply sound legal is within))
    (skipping_sound game sig (just (counts_of query.board)) ply sound legal is within
    (λ place less. same_most (counts_of men) (counts_of query.board) place m.counts)))

pub refused : (game : GameTree) (sig : Sig) (query : PosQuery) (ply : ℕ) → Sound game.start → IsLegalGame game → IsSig game sig → ply ≤ plies_of game
    → passes sig query ≡ false → matches_at query game ply ≡ false
refused game sig query ply sound legal is within not = elim (cases_Bool (matches_at query game ply)) [
  | inl holds ↦ absurd (both_ways (passes sig query) not (match_passes game sig query ply sound legal is within holds))
  | inr fails ↦ fails
]

-- A query that looks in variations passes over games that have none.
vars_false : (a b : Bool) → (a && not b) ≡ false → a ≡ true → b ≡ true
vars_false a true h looks = refl
vars_false true false h looks = absurd (cc)
vars_false false false h looks = absurd (cc)

left_false : (a b : Bool) → (a || b) ≡ false → a ≡ false
left_false false b h = refl
left_false true b h = absurd (cc)

code_by : (few : Bool) (n rest : ℕ) → 0 < rest → cond few n rest ≡ 0 → n ≡ 0
code_by true n rest some h = h
code_by false n rest some h = absurd (omega (arith, some, h))

code_none : (n : ℕ) → count_code n ≡ 0 → n ≡ 0
code_none n h = code_by (nat_le n 10) n (10 + count_by (λ most. nat_lt most n) (12 ∷ 17 ∷ 24 ∷ 34 ∷ 44 ∷ [])) (omega arith) h

none_into : (game : GameTree) (sig : Sig) (query : PosQuery) → IsSig game sig → looks_into sig query ≡ false → query.vars ≡ true → variations_of game ≡ 0
none_into game sig query is not looks =
    let none : (sig.vars == 0) ≡ true = vars_false query.vars (sig.vars == 0) not looks in
    let zero_code : sig.vars ≡ 0 = grind (arith, nat_tests) in
    code_none (variations_of game) (sym (parts game sig is).vars ∙ zero_code)

not_into : (sig : Sig) (query : PosQuery) → passes sig query ≡ false → looks_into sig query ≡ false
unfolding passes
not_into sig query not = left_false (looks_into sig query) (passes_main sig query) not

pub no_variations : (game : GameTree) (sig : Sig) (query : PosQuery) → IsSig game sig → passes sig query ≡ false → query.vars ≡ true → variations_of game ≡ 0
no_variations game sig query is not looks = none_into game sig query is (not_into sig query not) looks

main_alone : (p : Setup) (ply : ℕ) (line : Line) → variations_in line ≡ 0 → filter (λ (v : Visit). not v.main) (line_visits true p ply line) ≡ []
main_alone p ply ends none = refl
main_alone p ply (goes mv nags comment bare line) none = main_alone (stepped p mv) (suc ply) line (omega (arith, none))
main_alone p ply (goes mv nags comment (more lead inner others) line) none = absurd (omega (arith, none))

pub no_places : (game : GameTree) → variations_of game ≡ 0 → places game ≡ []
no_places game none = ap (map place_of_visit) (main_alone game.start 0 game.line none)

-- So it passes over no game that has a first place.
aside_none : (query : PosQuery) (game : GameTree) (vars : Bool) → query.vars ≡ vars → (query.vars ≡ true → places game ≡ []) → cond vars (first_aside query game) None ≡ None
aside_none query game true is none = ap (λ (ps : List (Setup × ℕ)). option_map (λ (p : Setup × ℕ). p.1) (find (is_sought query) ps)) (none is)
aside_none query game false is none = refl

pub unlooked_aside : (game : GameTree) (sig : Sig) (query : PosQuery) → IsSig game sig → looks_into sig query ≡ false → first_if_aside query game ≡ None
unlooked_aside game sig query is not =
    aside_none query game query.vars refl (λ looks. no_places game (none_into game sig query is not looks))

pub refused_aside : (game : GameTree) (sig : Sig) (query : PosQuery) → IsSig game sig → passes sig query ≡ false → first_if_aside query game ≡ None
refused_aside game sig query is not = unlooked_aside game sig query is (not_into sig query not)

pub refused_main : (game : GameTree) (sig : Sig) (query : PosQuery) → Sound game.start → IsLegalGame game → IsSig game sig → passes sig query ≡ false → first_on_main query game ≡ None
refused_main game sig query sound legal is not =
    find_none (matches_at query game) 0 (plies_of game + 1) (λ k from less. refused game sig query k sound legal is (omega (arith, less)) not)

pub refused_first : (game : GameTree) (sig : Sig) (query : PosQuery) → Sound game.start → IsLegalGame game → IsSig game sig → passes sig query ≡ false → first_of query game ≡ None
refused_first game sig query sound legal is not =
    ap (λ (first : Option ℕ). option_or first (first_if_aside query game)) (refused_main game sig query sound legal is not) ∙ refused_aside game sig query is not

-- ---- the end of a walk

implied : (a b : Bool) → (a ≡ true → b ≡ true) → (not a || b) ≡ true
implied true b h = h refl
implied false b h = refl

homes_before : (game : GameTree) (query : PosQuery) (i j : ℕ) → Sound game.start → IsLegalGame game → i ≤ j → j ≤ plies_of game
    → ((v : ℕ) → v < 16 → is_home (position_at game j).board v ≡ is_home query.board v) → has_homes query.board (position_at game i).board ≡ true
unfolding has_homes
homes_before game query i j sound legal later within same =
    all_from (λ (v : ℕ). not (is_home query.board v) || is_home (position_at game i).board v) 0 16
    (λ v from small. implied (is_home query.board v) (is_home (position_at game i).board v)
    (λ home. stood_before game v i j sound legal small later within (same v small ∙ home)))

match_follows : (query : PosQuery) (game : GameTree) (i j : ℕ) → Sound game.start → IsLegalGame game → i ≤ j → j ≤ plies_of game
    → matches_at query game j ≡ true → can_follow query (position_at game i) ≡ true
unfolding can_follow
match_follows query game i j sound legal later within holds =
    let m = matched query (position_at game j) holds in
    and_from (can_come (just (counts_of query.board)) (counts_of (position_at game i).board))
    (not (fixes_pawns query.mode) || has_homes query.board (position_at game i).board)
    (comes game (just (counts_of query.board)) i j sound legal later
    (λ place less. same_least (counts_of (position_at game j).board) (counts_of query.board) place m.counts))
    (if_fixed (fixes_pawns query.mode) (has_homes query.board (position_at game i).board)
    (λ fixed. homes_before game query i j sound legal later within (m.homes fixed)))

-- Where no sought position can follow, none comes.
pub none_follows : (query : PosQuery) (game : GameTree) (i j : ℕ) → Sound game.start → IsLegalGame game → i ≤ j → j ≤ plies_of game
    → can_follow query (position_at game i) ≡ false → matches_at query game j ≡ false
none_follows query game i j sound legal later within not = elim (cases_Bool (matches_at query game j)) [
  | inl holds ↦ absurd (both_ways (can_follow query (position_at game i)) not (match_follows query game i j sound legal later within holds))
  | inr fails ↦ fails
]

-- Where there are fewer men than are sought, or a pawn that is sought at home has left, the board does not come.
pub none_past : (query : PosQuery) (game : GameTree) (i j : ℕ) → Sound game.start → IsLegalGame game → i ≤ j → j ≤ plies_of game → query.mode ≡ Exact
    → (nat_lt (sum (counts_of (position_at game i).board)) (sum (counts_of query.board)) || not (has_homes query.board (position_at game i).board)) ≡ true
    → matches_at query game j ≡ false
none_past query game i j sound legal later within exact past = elim (cases_Bool (matches_at query game j)) [
  | inl holds ↦
      let men = (position_at game i).board in
      let m = matched query (position_at game j) holds in
      let number : List ℕ → ℕ = λ counts. sum counts in
      let enough : number (counts_of query.board) ≤ number (counts_of men) =
      subst (λ (counts : List ℕ). number counts ≤ number (counts_of men)) m.counts (men_fall game i j sound legal later) in
      let few : nat_lt (number (counts_of men)) (number (counts_of query.board)) ≡ false = le-ltb (number (counts_of men)) (number (counts_of query.board)) enough in
      let home : has_homes query.board men ≡ true = homes_before game query i j sound legal later within (m.homes (ap fixes_pawns exact)) in
      absurd (both_ways (nat_lt (sum (counts_of men)) (sum (counts_of query.board)) || not (has_homes query.board men))
      (ap₂ (λ (a b : Bool). a || not b) few home) past)
  | inr fails ↦ fails
]

-- Games that are out: no place that an index has of them is sought, and no later ply can be.
use Rattle.std.proofs.Common.{◌≡◌, ℕ, zero, suc, ◌+◌, ◌-◌, ◌<◌, ◌≤◌, Bool, true, false, cond, not, ◌&&◌, ◌||◌, List, [], ◌∷◌, Option, None, Some, length, get_or, map, min, refl, sym, ap, ◌∙◌, arith, inl, inr}
use Rattle.std.specs.Int.RustNames.{bit_and}
use Rattle.std.specs.Prelude.{◌==◌, is_none, is_some, nat_lt, option_map, slice_get, sum}
use Rattle.std.specs.List.{find, range_with_len}
use Rattle.std.specs.Option.{option_or}
use Rattle.std.proofs.lemmas.Bool.{and_parts, cases_Bool, cases_lt, false≢true}
use Rattle.std.proofs.lemmas.List.{length-map}
use Rattle.std.proofs.lemmas.List.FromFn.{get_or-range_with_len, length-range_with_len}
use Rattle.std.proofs.lemmas.Option.{slice_get-get_or, slice_get-map}
use Rattle.base_files.specs.declared.extent.Extent.{Extent}
use Rattle.cell_core.specs.declared.step.Move.{Move}
use Rattle.cell_core.specs.Board.{Men}
use Rattle.cell_core.specs.Packed.{men_of}
use Rattle.cell_core.proofs.Packing.{given_back}
use Rattle.chess_laws.specs.Counts.{counts_of}
use Rattle.chess_laws.specs.Position.{Sound}
use Rattle.game_tree.specs.Game.{GameTree}
use Rattle.game_tree.specs.Legal.{IsLegalGame}
use Rattle.game_tree.specs.Replay.{next_at, plies_of, position_at}
use Rattle.pos_index.specs.Hits.{Index, IndexesAll, Place, last_at, last_of, place_at, places_in, places_of, rows_told}
use Rattle.pos_index.specs.declared.last.Last.{Last}
use Rattle.sig_index.specs.Games.{Holds}
use Rattle.sig_index.specs.Homes.{home_set}
use Rattle.sig_index.specs.Signature.{IsSig}
use Rattle.sig_index.specs.declared.pos_query.PosQuery.{PosQuery}
use Rattle.sig_index.specs.declared.signature.Sig.{Sig}
use Rattle.sig_index.proofs.PrefixLemmas.{sound_at}
use Rattle.sig_index.proofs.Ranges.{found_none}
use Rattle.sig_index.proofs.RecordLemmas.{game_legal, game_sound, no_next}
use Rattle.pos_search.specs.Matching.{first_if_aside, first_on_main, hit_of, matches_at}
use Rattle.pos_search.specs.Passing.{has_homes, looks_into, passes}
use Rattle.pos_search.specs.Searching.{hit_told, is_exact, is_out, is_past}
use Rattle.pos_search.specs.Telling.{Told, hits_told, out_by, past_by}
use Rattle.pos_search.proofs.Words.{hit_aside}
use Rattle.pos_search.proofs.FollowLemmas.{none_past, unlooked_aside}
use Rattle.pos_search.proofs.HomeSets.{values_told}
use Rattle.pos_search.proofs.SearchLemmas.{unread}
use Rattle.pos_search.proofs.TellingLemmas.{fails_told, mode_exact, row_at, told_at, told_of}
use Rattle.pos_search.proofs.WalkLemmas.{none_of}

-- ---- the last place of a game

abbrev last_place : List Place → Option Place
last_place places = slice_get places (length places - 1)

abbrev last_ply : ℕ → GameTree → ℕ
last_ply depth game = min depth (plies_of game)

last_is : (depth : ℕ) (game : GameTree) → last_place (places_of depth game) ≡ Some (place_at game (last_ply depth game))
last_is depth game =
    let n : ℕ = last_ply depth game in
    let plies : List ℕ = range_with_len 0 (n + 1) in
    let count : length (places_of depth game) - 1 ≡ n = omega (arith, length-map plies (place_at game), length-range_with_len 0 (n + 1)) in
    let within : n < length plies = omega (arith, length-range_with_len 0 (n + 1)) in
    ap (slice_get (places_of depth game)) count ∙ slice_get-map (place_at game) plies n
    ∙ ap (option_map (place_at game)) (slice_get-get_or plies n 0 within ∙ ap (λ (k : ℕ). Some k) (get_or-range_with_len 0 (n + 1) n 0 (omega arith)))
    ∙ ap (λ (k : ℕ). Some (place_at game k)) (let same : 0 + n ≡ n = omega arith in same)

-- ---- it has no hit

no_ply : (game : GameTree) (found : Option ℕ) → option_map {U = ℕ × Option Move} (λ (k : ℕ). (k, next_at game k)) found ≡ None → found ≡ None
no_ply game None none = refl
no_ply game (Some k) none = absurd (cc)

no_move : (next : Option Move) → is_none next ≡ true → next ≡ None
no_move None none = refl
no_move (Some m) none = absurd (cc)

either_of : (a b : Bool) → (a || b) ≡ true → a ≡ false → b ≡ true
either_of true b or not = absurd (false≢true (sym not))
either_of false b or not = or

module _ (query : PosQuery) (depth : ℕ) (game : GameTree) (board : length query.board ≡ 64) (sound : Sound game.start) (legal : IsLegalGame game)
    (none : hit_told query (places_of depth game) ≡ None) (exact : is_exact query.mode ≡ true) where
  -- No place within the depth is sought.
  none_within : (k : ℕ) → k ≤ last_ply depth game → matches_at query game k ≡ false
  none_within k within =
      let found = no_ply game (find (told_at query game) (range_with_len 0 (last_ply depth game + 1))) (sym (told_of query depth game) ∙ none) in
      fails_told query depth game board sound legal k (mode_exact query.mode exact)
      (found_none (told_at query game) 0 (last_ply depth game + 1) k found (omega arith) (omega (arith, within)))

  -- And none behind it.
  out_main : is_past query (last_place (places_of depth game)) ≡ true → None ≡ first_on_main query game
  out_main past = none_of query game (λ k within.
      elim (cases_lt n k) [
        | inl behind ↦ later k within behind
        | inr before ↦ none_within k before
      ])
    where
      n : ℕ
      n = last_ply depth game

      men : Men
      men = (position_at game n).board

      back : men_of (place_at game n).board.cells ≡ men
      back = given_back men (sound_at game n sound legal (omega arith)).squares

      few : Men → Bool
      few on = nat_lt (sum (counts_of on)) (sum (counts_of query.board))

      here : (is_none (next_at game n) || (few men || not (has_homes query.board men))) ≡ true
      here =
          sym (ap (λ (on : Men). is_none (next_at game n) || (few on || not (has_homes query.board on))) back)
          ∙ sym (ap (is_past query) (last_is depth game)) ∙ past

      later : (k : ℕ) → k ≤ plies_of game → n < k → matches_at query game k ≡ false
      later k within behind = elim (cases_Bool (is_none (next_at game n))) [
        | inl ends ↦ let end = no_next game n (no_move (next_at game n) ends) in absurd (omega (arith, end, within, behind))
        | inr goes ↦
            none_past query game n k sound legal (omega (arith, behind)) within (mode_exact query.mode exact)
            (either_of (is_none (next_at game n)) (few men || not (has_homes query.board men)) here goes)
      ]

no_hit_of : (query : PosQuery) (game : GameTree) → None ≡ first_on_main query game → None ≡ first_if_aside query game → None ≡ hit_of query game
no_hit_of query game main aside = λ j. option_or (option_map (λ (k : ℕ). (k, next_at game k)) (main j)) (option_map hit_aside (aside j))

not_true : (a : Bool) → not a ≡ true → a ≡ false
not_true false h = refl
not_true true h = absurd (false≢true h)

pub out_hit : (query : PosQuery) (depth : ℕ) (game : GameTree) (sig : Sig) → length query.board ≡ 64 → Sound game.start → IsLegalGame game → IsSig game sig
    → hit_told query (places_of depth game) ≡ None → is_out query (places_of depth game) sig ≡ true → hit_of query game ≡ None
out_hit query depth game sig board sound legal is none out =
    let parts = and_parts (is_exact query.mode) (not (looks_into sig query) && is_past query (last_place (places_of depth game))) out in
    let rest = and_parts (not (looks_into sig query)) (is_past query (last_place (places_of depth game))) parts.1 in
    sym (no_hit_of query game (out_main query depth game board sound legal none parts.0 rest.1)
    (sym (unlooked_aside game sig query is (not_true (looks_into sig query) rest.0))))

-- ---- the games of a base

out_none : (query : PosQuery) (sig : Sig) → is_out query [] sig ≡ false
out_none query sig = neither (is_exact query.mode) (not (looks_into sig query))
  where
    neither : (a b : Bool) → (a && (b && false)) ≡ false
    neither true true = refl
    neither true false = refl
    neither false b = refl

opens : (a b : Bool) → (a && not b) ≡ false → a ≡ true → b ≡ true
opens true true h is = refl
opens true false h is = absurd (false≢true (sym h))
opens false b h is = absurd (false≢true is)

-- A game of which an index tells no hit, and that need not be read, has none.
pub unread_out : (told : List ℕ) (extents : List Extent) (sigs : List Sig) (list : List GameTree) (i : ℕ) (sig : Sig) (game : GameTree) (index : Option Index) (query : PosQuery)
    → IndexesAll index list → Holds told extents sigs list → slice_get sigs i ≡ Some sig → slice_get list i ≡ Some game → length query.board ≡ 64
    → hit_told query (places_in (rows_told index) i) ≡ None → (passes sig query && not (is_out query (places_in (rows_told index) i) sig)) ≡ false → None ≡ hit_of query game
unread_out told extents sigs list i sig game index query are holds kept there board none closed = elim (cases_Bool (passes sig query)) [
  | inl passed ↦ out index are none (opens (passes sig query) (is_out query (places_in (rows_told index) i) sig) closed passed)
  | inr fails ↦ unread told extents sigs list i sig game query holds kept there fails
]
  where
    out : (index : Option Index) → IndexesAll index list → hit_told query (places_in (rows_told index) i) ≡ None → is_out query (places_in (rows_told index) i) sig ≡ true → None ≡ hit_of query game
    out None are none is = absurd (false≢true (sym (out_none query sig) ∙ is))
    out (Some index) are none is =
        let held = holds.each i sig game kept there in
        let row : places_in index.rows i ≡ places_of index.depth game =
        ap (λ (rows : List (List Place)). places_in rows i) are ∙ row_at index.depth list i game there in
        sym (out_hit query index.depth game sig board (game_sound _ held.tags game held.is_record) (game_legal _ held.tags game held.is_record) held.is_sig
        (ap (hit_told query) (sym row) ∙ none) (ap (λ (places : List Place). is_out query places sig) (sym row) ∙ is))

-- ---- what is kept of the last places

none_or : (next : Option Move) → not (is_some next) ≡ is_none next
none_or None = refl
none_or (Some m) = refl

turn : (few left ends : Bool) → (few || (left || ends)) ≡ (ends || (few || left))
turn true left true = refl
turn true left false = refl
turn false true true = refl
turn false true false = refl
turn false false true = refl
turn false false false = refl

past_is : (query : PosQuery) (place : Place) → past_by query (last_at place) ≡ is_past query (Some place)
past_is query place =
    let men = men_of place.board.cells in
    turn (nat_lt (sum (counts_of men)) (sum (counts_of query.board))) (not (bit_and (home_set men) (home_set query.board) == home_set query.board)) (not (is_some place.next))
    ∙ λ j. none_or place.next j || (nat_lt (sum (counts_of men)) (sum (counts_of query.board)) || not (values_told query.board men j))

swap : (e l p : Bool) → e ≡ true → (p && not l) ≡ (e && (not l && p))
swap true true true is = refl
swap true true false is = refl
swap true false true is = refl
swap true false false is = refl
swap false l p is = absurd (false≢true is)

out_last : (query : PosQuery) (sig : Sig) (place : Option Place) → is_exact query.mode ≡ true
    → out_by query sig (option_map last_at place) ≡ (is_exact query.mode && (not (looks_into sig query) && is_past query place))
out_last query sig None exact = never (is_exact query.mode) (not (looks_into sig query))
  where
    never : (a b : Bool) → false ≡ (a && (b && false))
    never true true = refl
    never true false = refl
    never false b = refl
out_last query sig (Some place) exact =
    ap (λ (p : Bool). p && not (looks_into sig query)) (past_is query place) ∙ swap (is_exact query.mode) (looks_into sig query) (is_past query (Some place)) exact

last_in : (rows : List (List Place)) (i : ℕ) → get_or (map last_of rows) i None ≡ last_of (get_or rows i [])
last_in [] i = refl
last_in (row ∷ rows) zero = refl
last_in (row ∷ rows) (suc i) = last_in rows i

pub out_told : (query : PosQuery) (rows : List (List Place)) (told : Told) (i : ℕ) (sig : Sig) → told ≡ hits_told query rows
    → out_by query sig (get_or told.lasts i None) ≡ is_out query (places_in rows i) sig
out_told query rows told i sig is = elim (cases_Bool (is_exact query.mode)) [
  | inl exact ↦
      ap (λ (l : List (Option Last)). out_by query sig (get_or l i None)) (kept true exact)
      ∙ ap (out_by query sig) (last_in rows i) ∙ out_last query sig (last_place (places_in rows i)) exact
  | inr other ↦
      ap (λ (l : List (Option Last)). out_by query sig (get_or l i None)) (kept false other)
      ∙ sym (ap (λ (t : Bool). t && (not (looks_into sig query) && is_past query (last_place (places_in rows i)))) other)
]
  where
    kept : (t : Bool) → is_exact query.mode ≡ t → told.lasts ≡ cond t (map last_of rows) []
    kept t e = ap (λ (k : Told). k.lasts) is ∙ ap (λ (b : Bool). cond b (map last_of rows) []) e

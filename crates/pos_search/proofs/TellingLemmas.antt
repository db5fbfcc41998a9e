-- What the places that an index has of a game tell for a query.
use Rattle.std.proofs.Common.{◌≡◌, ℕ, zero, suc, ◌+◌, ◌≤◌, Bool, true, false, cond, ◌&&◌, List, [], ◌∷◌, Option, None, Some, length, map, min, refl, sym, ap, ◌∙◌, subst, arith, inl, inr}
use Rattle.std.specs.Prelude.{IfSome, option_map, slice_get}
use Rattle.std.specs.List.{find, range_with_len}
use Rattle.std.specs.Option.{option_or}
use Rattle.std.proofs.lemmas.Bool.{and_from, and_parts, both_ways, cases_Bool}
use Rattle.std.proofs.lemmas.Option.{get_or_from_slice_get, slice_get-map}
use Rattle.cell_core.specs.declared.step.Move.{Move}
use Rattle.cell_core.specs.Packed.{Packed, cells_of, men_of, packed_of}
use Rattle.cell_core.proofs.Packing.{given_back}
use Rattle.chess_laws.specs.Position.{Sound}
use Rattle.chess_laws.specs.declared.setup.Setup.{Setup}
use Rattle.game_tree.specs.Game.{GameTree}
use Rattle.game_tree.specs.Legal.{IsLegalGame}
use Rattle.game_tree.specs.Replay.{next_at, plies_of, position_at}
use Rattle.pos_index.specs.Hits.{Index, IndexesAll, IsLegalOn, Place, first_on, hits_from, last_of, place_at, places_in, places_of, ply_and_next, row_of, rows_told, same_packed}
use Rattle.pos_index.specs.declared.hit.Hit.{Hit}
use Rattle.pos_index.specs.declared.last.Last.{Last}
use Rattle.pos_index.proofs.KeyLemmas.{same_packed-Decides}
use Rattle.sig_index.specs.Games.{Holds}
use Rattle.sig_index.specs.declared.pos_query.Mode.{Mode}
use Rattle.sig_index.specs.declared.pos_query.Mode.TheVariants.{Exact, Pawns, Files, Material}
use Rattle.sig_index.specs.declared.pos_query.PosQuery.{PosQuery}
use Rattle.sig_index.specs.declared.signature.Sig.{Sig}
use Rattle.base_files.specs.declared.extent.Extent.{Extent}
use Rattle.sig_index.proofs.PrefixLemmas.{sound_at}
use Rattle.sig_index.proofs.Ranges.{find_first, found_first}
use Rattle.sig_index.proofs.RecordLemmas.{game_legal, game_sound}
use Rattle.pos_search.specs.Matching.{IsLegalFrom, first_if_aside, first_on_main, hit_of, hit_on_main, matches, matches_at}
use Rattle.pos_search.specs.Searching.{are_read, hit_told, is_exact, is_read}
use Rattle.pos_search.specs.Telling.{Told, TellsHit, hits_told}
use Rattle.pos_search.proofs.FirstLemmas.{matches_from}
use Rattle.pos_search.proofs.MatchLemmas.{matched}
use Rattle.pos_search.proofs.Words.{hit_aside}

-- ---- one place

-- A place that an index has of a game is one that is sought.
abbrev pub is_told : PosQuery → Place → Bool
is_told query place = is_exact query.mode && same_packed (packed_of query.board query.side) place.board

pub mode_exact : (mode : Mode) → is_exact mode ≡ true → mode ≡ Exact
mode_exact Exact is = refl
mode_exact Pawns is = absurd (cc)
mode_exact Files is = absurd (cc)
mode_exact Material is = absurd (cc)

exact_mode : (mode : Mode) → mode ≡ Exact → is_exact mode ≡ true
exact_mode mode exact = ap is_exact exact

-- The place of a position is told for the queries that it matches.
told_matches : (query : PosQuery) (p : Setup) (board : Packed) → men_of (cells_of query.board) ≡ query.board → men_of (cells_of p.board) ≡ p.board
    → board ≡ packed_of p.board p.side → (is_exact query.mode && same_packed (packed_of query.board query.side) board) ≡ true
    → (query.mode ≡ Exact) × (matches query p ≡ true)
told_matches query p board back back' is told =
    let both = and_parts (is_exact query.mode) (same_packed (packed_of query.board query.side) board) told in
    let exact = mode_exact query.mode both.0 in
    let same : packed_of query.board query.side ≡ packed_of p.board p.side = (same_packed-Decides (packed_of query.board query.side) board).0 both.1 ∙ is in
    (exact, matches_from query p exact (sym back' ∙ ap (λ (k : Packed). men_of k.cells) (sym same) ∙ back) (ap (λ (k : Packed). k.side) (sym same)))

matches_told : (query : PosQuery) (p : Setup) (board : Packed) → board ≡ packed_of p.board p.side → query.mode ≡ Exact → matches query p ≡ true
    → (is_exact query.mode && same_packed (packed_of query.board query.side) board) ≡ true
matches_told query p board is exact holds =
    let m = matched query p holds in
    and_from (is_exact query.mode) (same_packed (packed_of query.board query.side) board) (exact_mode query.mode exact)
    ((same_packed-Decides (packed_of query.board query.side) board).1 ((λ i. packed_of (sym (m.exact exact) i) (sym m.side i)) ∙ sym is))

-- ---- the places of a game

find_map : {X Y : Type 0} (test : Y → Bool) (f : X → Y) (xs : List X) → find test (map f xs) ≡ option_map f (find (λ (x : X). test (f x)) xs)
find_map test f [] = refl
find_map {X} {Y} test f (x ∷ xs) = by (test (f x)) (find_map test f xs)
  where
    by : (t : Bool) → find test (map f xs) ≡ option_map f (find (λ (x : X). test (f x)) xs)
        → cond t (Some (f x)) (find test (map f xs)) ≡ option_map f (cond t (Some x) (find (λ (x : X). test (f x)) xs))
    by true rest = refl
    by false rest = rest

abbrev pub told_at : PosQuery → GameTree → ℕ → Bool
told_at query game k = is_told query (place_at game k)

of_ply : (game : GameTree) (found : Option ℕ) → option_map ply_and_next (option_map (place_at game) found) ≡ option_map (λ (k : ℕ). (k, next_at game k)) found
of_ply game None = refl
of_ply game (Some k) = refl

pub told_of : (query : PosQuery) (depth : ℕ) (game : GameTree)
    → hit_told query (places_of depth game) ≡ option_map (λ (k : ℕ). (k, next_at game k)) (find (told_at query game) (range_with_len 0 (min depth (plies_of game) + 1)))
told_of query depth game =
    ap (option_map ply_and_next) (find_map (is_told query) (place_at game) (range_with_len 0 (min depth (plies_of game) + 1)))
    ∙ of_ply game (find (told_at query game) (range_with_len 0 (min depth (plies_of game) + 1)))

some_ply : (game : GameTree) (found : Option ℕ) (hit : ℕ × Option Move) → option_map (λ (k : ℕ). (k, next_at game k)) found ≡ Some hit → (k : ℕ) × ((found ≡ Some k) × ((k, next_at game k) ≡ hit))
some_ply game None hit is = absurd (cc)
some_ply game (Some k) hit is = (k, (refl, cc))

module _ (query : PosQuery) (depth : ℕ) (game : GameTree) (board : length query.board ≡ 64) (sound : Sound game.start) (legal : IsLegalGame game) where
  told_to : (k : ℕ) → k ≤ plies_of game → told_at query game k ≡ true → (query.mode ≡ Exact) × (matches_at query game k ≡ true)
  told_to k within told =
      told_matches query (position_at game k) (place_at game k).board (given_back query.board board)
      (given_back (position_at game k).board (sound_at game k sound legal within).squares) refl told

  to_told : (k : ℕ) → query.mode ≡ Exact → matches_at query game k ≡ true → told_at query game k ≡ true
  to_told k exact holds = matches_told query (position_at game k) (place_at game k).board refl exact holds

  pub fails_told : (k : ℕ) → query.mode ≡ Exact → told_at query game k ≡ false → matches_at query game k ≡ false
  fails_told k exact fails = elim (cases_Bool (matches_at query game k)) [
    | inl holds ↦ absurd (both_ways (told_at query game k) fails (to_told k exact holds))
    | inr not ↦ not
  ]

  fails_match : (k : ℕ) → k ≤ plies_of game → matches_at query game k ≡ false → told_at query game k ≡ false
  fails_match k within fails = elim (cases_Bool (told_at query game k)) [
    | inl told ↦ absurd (both_ways (matches_at query game k) fails (told_to k within told).1)
    | inr not ↦ not
  ]

  -- What they tell is the hit.
  pub told_main : (hit : ℕ × Option Move) → hit_told query (places_of depth game) ≡ Some hit → (hit_on_main query game ≡ Some hit) × (hit.0 ≤ depth)
  told_main hit told =
      let some = some_ply game (find (told_at query game) (range_with_len 0 (min depth (plies_of game) + 1))) hit (sym (told_of query depth game) ∙ told) in
      let k : ℕ = some.0 in
      let first = found_first (told_at query game) 0 (min depth (plies_of game) + 1) k some.1.0 in
      let within : k ≤ plies_of game = omega (arith, first.within) in
      let deep : k ≤ depth = omega (arith, first.within) in
      let here = told_to k within first.passes in
      let main : first_on_main query game ≡ Some k =
      find_first (matches_at query game) 0 (plies_of game + 1) k (omega arith) (omega (arith, within)) here.1
      (λ j less. fails_told j here.0 (first.before j (omega arith) less)) in (
        ap (option_map (λ (n : ℕ). (n, next_at game n))) main ∙ ap (λ (h : ℕ × Option Move). Some h) some.1.1,
        subst (λ (h : ℕ × Option Move). h.0 ≤ depth) some.1.1 deep,
      )

  pub told_hit : (hit : ℕ × Option Move) → hit_told query (places_of depth game) ≡ Some hit → hit_of query game ≡ Some hit
  told_hit hit told = ap (λ (main : Option (ℕ × Option Move)). option_or main (option_map hit_aside (first_if_aside query game))) (told_main hit told).0

  -- And the hit within the depth is told.
  pub main_told : (ply : ℕ) → query.mode ≡ Exact → first_on_main query game ≡ Some ply → ply ≤ depth → hit_told query (places_of depth game) ≡ Some (ply, next_at game ply)
  main_told ply exact main deep =
      let first = found_first (matches_at query game) 0 (plies_of game + 1) ply main in
      let found : find (told_at query game) (range_with_len 0 (min depth (plies_of game) + 1)) ≡ Some ply =
      find_first (told_at query game) 0 (min depth (plies_of game) + 1) ply (omega arith) (omega (arith, first.within, deep)) (to_told ply exact first.passes)
      (λ j less. fails_match j (omega (arith, less, first.within)) (first.before j (omega arith) less)) in
      told_of query depth game ∙ ap (option_map (λ (n : ℕ). (n, next_at game n))) found

-- ---- the games of a base

pub row_at : (depth : ℕ) (list : List GameTree) (i : ℕ) (game : GameTree) → slice_get list i ≡ Some game → places_in (map (row_of depth) (map Some list)) i ≡ places_of depth game
row_at depth list i game there =
    get_or_from_slice_get (map (row_of depth) (map Some list)) i (places_of depth game) []
    (slice_get-map (row_of depth) (map Some list) i ∙ ap (option_map (row_of depth)) (slice_get-map (λ (g : GameTree). Some g) list i ∙ ap (option_map Some) there))

none_in : (i : ℕ) → places_in [] i ≡ []
none_in i = refl

-- What an index of the games tells of one of them is its hit.
pub tells_hit : (contents : List ℕ) (extents : List Extent) (sigs : List Sig) (list : List GameTree) (i : ℕ) (sig : Sig) (game : GameTree) (index : Option Index) (query : PosQuery)
    → IndexesAll index list → Holds contents extents sigs list → slice_get sigs i ≡ Some sig → slice_get list i ≡ Some game
    → length query.board ≡ 64 → TellsHit query (places_in (rows_told index) i) game
tells_hit contents extents sigs list i sig game None query is holds kept there board hit says = absurd (cc)
tells_hit contents extents sigs list i sig game (Some index) query is holds kept there board hit says =
    let held = holds.each i sig game kept there in
    let row : places_in index.rows i ≡ places_of index.depth game =
    ap (λ (rows : List (List Place)). places_in rows i) is ∙ row_at index.depth list i game there in
    told_hit query index.depth game board (game_sound _ held.tags game held.is_record) (game_legal _ held.tags game held.is_record) hit
    (ap (hit_told query) (sym row) ∙ says)

-- ---- queries that are not exact, and no index

none_told : (query : PosQuery) (places : List Place) → is_exact query.mode ≡ false → hit_told query places ≡ None
none_told query [] not = refl
none_told query (place ∷ places) not =
    ap (λ (t : Bool). option_map ply_and_next (cond (t && same_packed (packed_of query.board query.side) place.board) (Some place) (find (is_told query) places))) not
    ∙ none_told query places not

first_told : (query : PosQuery) (places : List Place) → is_exact query.mode ≡ true → first_on (packed_of query.board query.side) places ≡ hit_told query places
first_told query places exact =
    ap (λ (t : Bool). option_map ply_and_next (find (λ (place : Place). t && same_packed (packed_of query.board query.side) place.board) places)) (sym exact)

pub untold : (query : PosQuery) (places : List Place) → is_exact query.mode ≡ false → None ≡ hit_told query places
untold query places not = sym (none_told query places not)

pub told_first : (query : PosQuery) (places : List Place) (board : Packed) (found : Option (ℕ × Option Move)) → is_exact query.mode ≡ true → board ≡ packed_of query.board query.side
    → found ≡ first_on board places → found ≡ hit_told query places
told_first query places board found exact is first = first ∙ ap (λ (b : Packed). first_on b places) is ∙ first_told query places exact

-- ---- the hits of all games

abbrev pub nothing : Told
nothing = record { hits = []; lasts = [] }

abbrev pub told_as : List Hit → List (Option Last) → Told
told_as hits lasts = record { hits = hits; lasts = lasts }

abbrev told_if : PosQuery → List (List Place) → Bool → Told
told_if query rows t = record { hits = cond t (hits_from (packed_of query.board query.side) 0 rows) []; lasts = cond t (map last_of rows) [] }

no_hits : (query : PosQuery) → nothing ≡ hits_told query []
no_hits query = by (is_exact query.mode)
  where
    by : (t : Bool) → nothing ≡ told_if query [] t
    by true = refl
    by false = refl

pub hits_none : (query : PosQuery) (told : Told) → told ≡ nothing → told ≡ hits_told query []
hits_none query told none = none ∙ no_hits query

pub hits_other : (query : PosQuery) (rows : List (List Place)) (told : Told) → is_exact query.mode ≡ false → told ≡ nothing → told ≡ hits_told query rows
hits_other query rows told not none = none ∙ ap (told_if query rows) (sym not)

pub hits_exact : (query : PosQuery) (rows : List (List Place)) (hits : List Hit) (lasts : List (Option Last)) (board : Packed) → is_exact query.mode ≡ true
    → board ≡ packed_of query.board query.side → hits ≡ hits_from board 0 rows → lasts ≡ map last_of rows → told_as hits lasts ≡ hits_told query rows
hits_exact query rows hits lasts board exact is found kept =
    (λ j. told_as ((found ∙ ap (λ (b : Packed). hits_from b 0 rows) is) j) (kept j)) ∙ ap (told_if query rows) (sym exact)

-- The first of a game among them is what its places tell.
pub first_hit : (query : PosQuery) (rows : List (List Place)) (hits : List Hit) (i : ℕ) (first : Option (ℕ × Option Move)) → hits ≡ (hits_told query rows).hits
    → ((board : Packed) (all : List (List Place)) → hits ≡ hits_from board 0 all → first ≡ first_on board (places_in all i)) → first ≡ hit_told query (places_in rows i)
first_hit query rows hits i first is firsts = elim (cases_Bool (is_exact query.mode)) [
  | inl exact ↦
      firsts (packed_of query.board query.side) rows (is ∙ ap (λ (t : Bool). cond t (hits_from (packed_of query.board query.side) 0 rows) []) exact)
      ∙ first_told query (places_in rows i) exact
  | inr not ↦
      firsts (packed_of query.board query.side) [] (is ∙ ap (λ (t : Bool). cond t (hits_from (packed_of query.board query.side) 0 rows) []) not)
      ∙ untold query (places_in rows i) not
]

-- ---- the move after a match

legal_move : (board : Packed) (next : Option Move) (m : Move) → next ≡ Some m → IfSome next (IsLegalOn board) → IsLegalOn board m
legal_move board None m is from = absurd (cc)
legal_move board (Some n) m is from =
    let same : n ≡ m = cc in
    subst (IsLegalOn board) same from

pub legal_first : (query : PosQuery) (hit : Option (ℕ × Option Move)) → IfSome hit (λ first. IfSome first.1 (IsLegalOn (packed_of query.board query.side)))
    → IsLegalFrom query hit
legal_first query None from ply m exact same = absurd (cc)
legal_first query (Some hit) from ply m exact same =
    let pair : hit ≡ (ply, Some m) = cc in
    legal_move (packed_of query.board query.side) hit.1 m (ap (λ (h : ℕ × Option Move). h.1) pair) from

-- ---- the price

pub read_at : (query : PosQuery) (rows : List (List Place)) (sigs : List Sig) (i : ℕ) (sig : Sig) → slice_get sigs i ≡ Some sig
    → slice_get (are_read query rows sigs) i ≡ Some (is_read query (places_in rows i) sig)
read_at query rows [] i sig there = absurd (cc)
read_at query [] (s ∷ sigs) zero sig there = ap (λ (z : Sig). Some (is_read query [] z)) (let same : s ≡ sig = cc in same)
read_at query [] (s ∷ sigs) (suc i) sig there = read_at query [] sigs i sig there
read_at query (row ∷ rows) (s ∷ sigs) zero sig there = ap (λ (z : Sig). Some (is_read query row z)) (let same : s ≡ sig = cc in same)
read_at query (row ∷ rows) (s ∷ sigs) (suc i) sig there = read_at query rows sigs i sig there

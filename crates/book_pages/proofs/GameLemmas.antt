-- One game after the other.
use Rattle.std.proofs.Common.{◌≡◌, ◌≤◌, ◌+◌, ℕ, zero, suc, List, [], ◌++◌, length, drop, map, take, Option, None, Some, refl, sym, ap, ◌∙◌, subst, arith, add-one, inl, inr}
use Rattle.std.specs.Prelude.{All, Bool, option_map, slice_get, if◌then◌else◌}
use Rattle.std.specs.List.{find, range_with_len}
use Rattle.std.specs.Option.{option_or}
use Rattle.std.proofs.lemmas.Bool.{cases_Bool, cases_eq}
use Rattle.std.proofs.lemmas.List.{append-nil, drop_all, take_all}
use Rattle.std.proofs.lemmas.Option.{get_or_from_slice_get, slice_get-map, slice_get_cases, slice_get_within}
use Rattle.base_files.specs.Told.{Tells}
use Rattle.base_files.specs.declared.extent.Extent.{Extent}
use Rattle.cell_core.specs.Packed.{Packed, men_of}
use Rattle.cell_core.specs.declared.step.Move.{Move}
use Rattle.chess_laws.specs.Position.{start_setup}
use Rattle.game_codec.specs.Record.{IsSomeRecord}
use Rattle.game_tree.specs.Game.{GameTree}
use Rattle.game_tree.specs.Replay.{next_at, plies_of}
use Rattle.game_tree.specs.Tree.{ends}
use Rattle.game_tree.specs.declared.head.Head.{Head}
use Rattle.pos_search.specs.Matching.{matches_at}
use Rattle.sig_index.specs.Games.{HasChanged, extent_in, head_in, record_told}
use Rattle.sig_index.specs.declared.signature.Sig.{Sig}
use Rattle.sig_index.specs.declared.pos_query.PosQuery.{PosQuery}
use Rattle.tree_rows.specs.Hits.{hit_of}
use Rattle.tree_rows.specs.Rows.{rows_of}
use Rattle.tree_rows.specs.MoveText.{IsKey}
use Rattle.tree_rows.specs.declared.hit.GameHit.{GameHit}
use Rattle.tree_rows.specs.declared.row.Row.{Row}
use Rattle.tree_rows.proofs.HitKeys.{keys-hold}
use Rattle.book_pages.specs.Book.{ShowTrees}
use Rattle.book_pages.specs.Asking.{len_if_in, price_below}
use Rattle.book_pages.specs.Hits.{game_in, hit_if_in, hit_of_game, hits_below, listed_hit, ply_in}
use Rattle.book_pages.specs.Keeping.{AreCountedIf, AreMet, AreTallies, HasKeys, HaveCounted, IsBelow, IsMetIf, IsUncounted, Tallied, counted_of, first_before, hit_at, hit_before, query_of}
use Rattle.book_pages.proofs.MeetLemmas.{there}

-- ---- the first match

-- The first of the first n positions is the first that is found among them.
one_first : (test : ℕ → Bool) (a n : ℕ) → find test (range_with_len a (suc n)) ≡ option_or (find test (range_with_len a n)) (if test (a + n) then Some (a + n) else None)
one_first test a zero = by (test a) refl
  where
    by : (t : Bool) → test a ≡ t → (if test a then Some a else None) ≡ (if test (a + 0) then Some (a + 0) else None)
    by t is = let same : a ≡ a + 0 = omega arith in ap (λ (k : ℕ). if test k then Some k else None) same
one_first test a (suc n) = elim (cases_Bool (test a)) [
  | inl holds ↦ rw holds refl
  | inr fails ↦
      let same : a + 1 + n ≡ a + suc n = omega arith in
      rw fails (one_first test (a + 1) n ∙ ap (λ (k : ℕ). option_or (find test (range_with_len (a + 1) n)) (if test k then Some k else None)) same)
]

first_is : (query : PosQuery) (game : GameTree) (n : ℕ) → first_before query game n ≡ find (matches_at query game) (range_with_len 0 n)
first_is query game zero = refl
first_is query game (suc n) =
    ap (λ (o : Option ℕ). option_or o (if matches_at query game n then Some n else None)) (first_is query game n)
    ∙ ap (λ (k : ℕ). option_or (find (matches_at query game) (range_with_len 0 n)) (if matches_at query game k then Some k else None)) (let same : n ≡ 0 + n = omega arith in same)
    ∙ sym (one_first (matches_at query game) 0 n)

-- What is counted of a game is what the tree counts of it.
hit_is : (i : ℕ) (board : Packed) (head : Head) (game : GameTree) → hit_before (counted_of i head) board game (plies_of game + 1) ≡ hit_of_game (query_of board) head game
hit_is i board head game =
    ap (option_map (hit_at (counted_of i head) board.side game)) (first_is (query_of board) game (plies_of game + 1))
    ∙ by (find (matches_at (query_of board) game) (range_with_len 0 (plies_of game + 1)))
  where
    by : (first : Option ℕ) → option_map (hit_at (counted_of i head) board.side game) first
        ≡ option_map (λ (found : ℕ × Option Move). hit_of found.1 board.side head) (option_or (option_map (λ ply. (ply, next_at game ply)) first) None)
    by None = refl
    by (Some ply) = refl

-- ---- one game more

-- A game that is in was counted by its whole main line.
pub counted_in : (boards : List Packed) (i : ℕ) (ply : Option ℕ) (at : ℕ) (head : Head) (game : GameTree) (old new : List Tallied) → ply ≡ Some at
    → AreMet boards (counted_of i head) game (plies_of game + 1) old new → AreCountedIf boards i ply head game old new
counted_in boards i ply at head game old new is met = λ k board before after is_board is_before is_after.
    let same : hit_before (counted_of i head) board game (plies_of game + 1) ≡ hit_if_in (query_of board) ply head game =
    hit_is i board head game ∙ ap (λ (o : Option ℕ). hit_if_in (query_of board) o head game) (sym is) in
    subst (λ (hit : Option GameHit). IsMetIf i hit before after) same (met k board before after is_board is_before is_after)

-- One that is out adds nothing.
pub counted_out : (boards : List Packed) (i : ℕ) (ply : Option ℕ) (head : Head) (game : GameTree) (tallies : List Tallied) → ply ≡ None
    → AreCountedIf boards i ply head game tallies tallies
counted_out boards i ply head game tallies is = λ k board before after is_board is_before is_after.
    subst (λ (o : Option ℕ). IsMetIf i (hit_if_in (query_of board) o head game) before after) (sym is)
    (let same : Some after ≡ Some before = sym is_after ∙ is_before in cc)

one_more : (i : ℕ) (hit : Option GameHit) (hits : List GameHit) (before after : Tallied) → IsMetIf i hit before after → before.rows ≡ rows_of hits
    → after.rows ≡ rows_of (hits ++ listed_hit hit)
one_more i None hits before after same is = ap (λ (t : Tallied). t.rows) same ∙ is ∙ ap rows_of (sym (append-nil hits))
one_more i (Some hit) hits before after met is = met.rows hits is

pub counted_more : (boards : List Packed) (plies : List (Option ℕ)) (heads : List Head) (games : List GameTree) (i : ℕ) (ply : Option ℕ) (game : GameTree) (old new : List Tallied)
    → slice_get plies i ≡ Some ply → slice_get games i ≡ Some game → length new ≡ length old → HaveCounted boards plies heads games i old
    → AreCountedIf boards i ply (head_in heads i) game old new → HaveCounted boards plies heads games (i + 1) new
counted_more boards plies heads games i ply game old new is_ply is_game count had met =
    subst (λ (n : ℕ). HaveCounted boards plies heads games n new) (sym (add-one i))
    (λ k board tally is_board is_tally.
    let was = there old k (omega (arith, slice_get_within new k tally is_tally, count)) in
    let hit : hit_if_in (query_of board) ply (head_in heads i) game ≡ hit_if_in (query_of board) (ply_in plies i) (head_in heads i) (game_in games i) =
    (λ j. hit_if_in (query_of board) (sym (get_or_from_slice_get plies i ply None is_ply) j) (head_in heads i) (sym (get_or_from_slice_get games i game (record { start = start_setup; lead = None; line = ends }) is_game) j)) in
    one_more i _ (hits_below (query_of board) plies heads games i) was.0 tally
    (subst (λ (h : Option GameHit). IsMetIf i h was.0 tally) hit (met k board was.0 tally is_board was.1 is_tally)) (had k board was.0 is_board was.1))

pub none_counted : (boards : List Packed) (plies : List (Option ℕ)) (heads : List Head) (games : List GameTree) (tallies : List Tallied) → All IsUncounted tallies
    → HaveCounted boards plies heads games 0 tallies
none_counted boards plies heads games tallies all = λ k board tally is_board is_tally.
    let within = slice_get_within tallies k tally is_tally in
    ap (λ (t : Tallied). t.rows) (subst IsUncounted (get_or_from_slice_get tallies k tally tally is_tally) (all k tally within))

pub none_kept : (boards : List Packed) (tallies : List Tallied) → length tallies ≡ length boards → All IsUncounted tallies → AreTallies boards 0 tallies
none_kept boards tallies count all = record {
  count = count;
  below = λ k d less. subst (IsBelow 0) (sym (all k d less)) tt;
  keys = λ k board tally is_board is_tally.
      let within = slice_get_within tallies k tally is_tally in
      record {
        hits = [];
        summed = ap (λ (t : Tallied). t.rows) (subst IsUncounted (get_or_from_slice_get tallies k tally tally is_tally) (all k tally within));
        keys = λ j d less. absurd (omega (arith, less));
      };
}

-- ---- what is asked

pub price_next : (plies : List (Option ℕ)) (extents : List Extent) (i : ℕ) (ply : Option ℕ) → slice_get plies i ≡ Some ply
    → price_below plies extents (i + 1) ≡ price_below plies extents i + len_if_in ply (extent_in extents i).len
price_next plies extents i ply is =
    ap (price_below plies extents) (add-one i)
    ∙ ap (λ (o : Option ℕ). price_below plies extents i + len_if_in o (extent_in extents i).len) (get_or_from_slice_get plies i ply None is)

pub price_within : (plies : List (Option ℕ)) (extents : List Extent) (n m : ℕ) → n ≤ m → price_below plies extents n ≤ price_below plies extents m
price_within plies extents n zero less = let same : n ≡ 0 = omega (arith, less) in subst (λ (k : ℕ). price_below plies extents k ≤ 0) (sym same) (omega arith)
price_within plies extents n (suc m) less = elim (cases_eq n (suc m)) [
  | inl same ↦ subst (λ (k : ℕ). price_below plies extents k ≤ price_below plies extents (suc m)) (sym same) (omega arith)
  | inr apart ↦ omega (arith, price_within plies extents n m (omega (arith, less, apart)))
]

-- Bytes that are no record show that the game's record has changed.
pub changed : (games : Option (List ℕ)) (extents : List Extent) (sigs : List Sig) (i : ℕ) (buffer bytes : List ℕ) (len : ℕ) (sig : Sig)
    → len ≡ (extent_in extents i).len → bytes ≡ take len buffer
    → Tells (record_told games (extent_in extents i)) (take len buffer) → slice_get sigs i ≡ Some sig → (IsSomeRecord bytes → ⊥)
    → HasChanged sigs extents games buffer i sig None
changed games extents sigs i buffer bytes len sig has front tells kept none = record {
  is_kept = kept;
  is_told = subst (λ (n : ℕ). Tells (record_told games (extent_in extents i)) (take n buffer)) has tells;
  is_shown = λ is. none (subst IsSomeRecord (sym (front ∙ ap (λ (n : ℕ). take n buffer) has)) is);
  is_other = λ e. absurd (cc);
}

-- ---- the whole book

-- A list that was written whole through a slice of it.
pub written : {X : Type 0} (n : ℕ) (old new : List X) → n ≡ length old → length new ≡ length old → take n (new ++ drop (length new) old) ≡ new
written n old new is same =
    ap (λ (rest : List _). take n (new ++ rest)) (drop_all (length new) old (omega (arith, same))) ∙ ap (take n) (append-nil new)
    ∙ take_all n new (omega (arith, is, same))

pub shown : (boards : List Packed) (plies : List (Option ℕ)) (heads : List Head) (games : List GameTree) (all tallies : List Tallied) → all ≡ tallies
    → HaveCounted boards plies heads games (length plies) tallies → ShowTrees plies heads games (record { boards = boards; rows = map (λ (t : Tallied). t.rows) all })
shown boards plies heads games all tallies is counted = λ number board rows is_board is_rows.
    let here : slice_get (map (λ (t : Tallied). t.rows) tallies) number ≡ Some rows =
    ap (λ (l : List Tallied). slice_get (map (λ (t : Tallied). t.rows) l) number) (sym is) ∙ is_rows in
    let by_tally : option_map (λ (t : Tallied). t.rows) (slice_get tallies number) ≡ Some rows = sym (slice_get-map (λ (t : Tallied). t.rows) tallies number) ∙ here in
    elim (slice_get_cases tallies number).1 [
      | inl at ↦
          let same : Some at.0.rows ≡ Some rows = sym (ap (option_map (λ (t : Tallied). t.rows)) at.2) ∙ by_tally in
          let rows_are : rows ≡ at.0.rows = cc in
          rows_are ∙ counted number board at.0 is_board at.2
      | inr past ↦ let none : None ≡ Some rows = sym (ap (option_map (λ (t : Tallied). t.rows)) past.1) ∙ by_tally in absurd (cc)
    ]

-- The keys of the rows of a board are its legal moves.
pub keys_are : (board : Packed) (tally : Tallied) (rows : List Row) → rows ≡ tally.rows → HasKeys board tally
    → All (λ (row : Row). IsKey (men_of board.cells) board.side row.key) rows
keys_are board tally rows is has =
    subst (All (λ (row : Row). IsKey (men_of board.cells) board.side row.key)) (sym (is ∙ has.summed)) (keys-hold (IsKey (men_of board.cells) board.side) has.hits has.keys)

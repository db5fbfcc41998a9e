-- How many games reach each board, one board and one game after the other.
use Rattle.std.proofs.Common.{◌≡◌, ◌≢◌, ◌<◌, ◌≤◌, ◌+◌, ◌||◌, ℕ, Bool, true, false, cond, eqb, not, List, [], ◌∷◌, ◌++◌, get_or, length, set, Option, None, Some, refl, sym, ap, ◌∙◌, subst, arith, add-one, inl, inr, true≢false}
use Rattle.std.specs.Prelude.{All, if◌then◌else◌, slice_get}
use Rattle.std.specs.List.{IsDistinct, list_any, position_or_len}
use Rattle.std.proofs.Math.Bool.{or-false}
use Rattle.std.proofs.Math.ListN.{get_or-append, get_or-eq_default}
use Rattle.std.proofs.Math.Seq.{set-append_seam}
use Rattle.std.proofs.lemmas.Bool.{cases_Bool, cases_lt}
use Rattle.std.proofs.lemmas.List.{get_or_push, get_or-set_other, get_or-set_same, length_push}
use Rattle.std.proofs.lemmas.List.Elements.{All-push, All-set}
use Rattle.std.proofs.lemmas.List.Folds.{list_any-append, list_any_at, list_any_none, position_or_len_push}
use Rattle.std.proofs.lemmas.List.Sums.{fails_before_first, fold_push, passes_at_first, prefix_len-le-length}
use Rattle.std.proofs.lemmas.Option.{get_or_from_slice_get}
use Rattle.cell_core.specs.Packed.{Packed}
use Rattle.chess_laws.specs.Position.{start_setup}
use Rattle.game_tree.specs.Game.{GameTree}
use Rattle.game_tree.specs.Tree.{ends}
use Rattle.indexmap.specs.IndexSet.{insert_all, insert_key}
use Rattle.book_pages.specs.Book.{has_page, packed_eq}
use Rattle.book_pages.specs.Meeting.{AreCounts, HasReached, HaveReached, HowMany, IsBefore, IsMetBy, Meets, Reaches, how_many, no_game, with_game, with_place}
use Rattle.book_pages.specs.Reached.{reached_by, reached_if_in}
use Rattle.book_pages.specs.declared.reach.Reach.{Reach}
use Rattle.book_pages.proofs.PlaceLemmas.{no_board, packed_eq-Decides}

-- ---- the numbers of boards

abbrev pub place : List Packed → Packed → ℕ
place boards board = position_or_len (packed_eq board) boards

within : (boards : List Packed) (board : Packed) → has_page board boards ≡ true → place boards board < length boards
within boards board there = elim (cases_lt (place boards board) (length boards)) [
  | inl less ↦ less
  | inr past ↦
      absurd (true≢false (sym there ∙ list_any_none (packed_eq board) boards (λ k d less. fails_before_first (packed_eq board) boards k d (omega (arith, less, past)))))
]

last_place : (boards : List Packed) (board : Packed) → has_page board boards ≡ false → place boards board ≡ length boards
last_place boards board none = elim (cases_lt (place boards board) (length boards)) [
  | inl less ↦
      absurd (true≢false (sym (list_any_at (packed_eq board) boards (place boards board) no_board less (passes_at_first (packed_eq board) boards no_board less)) ∙ none))
  | inr past ↦ let most = prefix_len-le-length (λ (b : Packed). not (packed_eq board b)) boards in omega (arith, past, most)
]

-- Other boards have other numbers.
apart : (boards : List Packed) (a b : Packed) → packed_eq a b ≡ false → place boards b < length boards → place boards a ≡ place boards b → ⊥
apart boards a b differ less same =
    let is_a : a ≡ get_or boards (place boards a) no_board =
    (packed_eq-Decides a (get_or boards (place boards a) no_board)).0 (passes_at_first (packed_eq a) boards no_board (omega (arith, less, same))) in
    let is_b : b ≡ get_or boards (place boards b) no_board =
    (packed_eq-Decides b (get_or boards (place boards b) no_board)).0 (passes_at_first (packed_eq b) boards no_board less) in
    true≢false (sym ((packed_eq-Decides a b).1 (is_a ∙ ap (λ (n : ℕ). get_or boards n no_board) same ∙ sym is_b)) ∙ differ)

-- The number of a board behind one more.
at_end : (p n q : ℕ) → p ≡ n → cond (eqb p n) q p ≡ q
at_end p n q same = let is : true ≡ eqb p n = grind (arith, same) in ap (λ (b : Bool). cond b q p) (sym is)

at_front : (p n q : ℕ) → p < n → cond (eqb p n) q p ≡ p
at_front p n q less = let is : false ≡ eqb p n = grind (arith, less) in ap (λ (b : Bool). cond b q p) (sym is)

-- ---- one board more

met_same : (i : ℕ) (here : Bool) (old old' new new' : HowMany) → here ≡ true → old ≡ old' → new ≡ new' → IsMetBy i true old' new' → IsMetBy i here old new
met_same i true old old' new new' is was now' met = subst (λ (m : HowMany). IsMetBy i true m new) (sym was) (subst (IsMetBy i true old') (sym now') met)
met_same i false old old' new new' is was now' met = absurd (true≢false (sym is))

met_other : (i : ℕ) (here : Bool) (old new : HowMany) → here ≡ false → new ≡ old → IsMetBy i here old new
met_other i here old new is same = subst (λ (b : Bool). IsMetBy i b old new) (sym is) same

present : (i : ℕ) (board : Packed) (boards : List Packed) (met : List HowMany) (one : HowMany) → length met ≡ length boards → place boards board < length boards
    → IsMetBy i true (how_many boards met board) one → (other : Packed)
    → IsMetBy i (packed_eq other board) (how_many boards met other) (how_many boards (set met (place boards board) one) other)
present i board boards met one count less is other = elim (cases_Bool (packed_eq other board)) [
  | inl same ↦
      let at : place boards other ≡ place boards board = ap (place boards) ((packed_eq-Decides other board).0 same) in
      met_same i (packed_eq other board) (how_many boards met other) (how_many boards met board) (how_many boards (set met (place boards board) one) other) one same
      (ap (λ (n : ℕ). get_or met n no_game) at)
      (ap (λ (n : ℕ). get_or (set met (place boards board) one) n no_game) at ∙ get_or-set_same met (place boards board) one no_game (omega (arith, less, count))) is
  | inr differ ↦
      met_other i (packed_eq other board) (how_many boards met other) (how_many boards (set met (place boards board) one) other) differ
      (get_or-set_other met (place boards board) (place boards other) one no_game (apart boards other board differ less))
]

-- A new board comes last.
added : (i : ℕ) (board : Packed) (boards : List Packed) (met : List HowMany) (one : HowMany) → length met ≡ length boards → place boards board ≡ length boards
    → IsMetBy i true no_game one → (other : Packed)
    → IsMetBy i (packed_eq other board) (how_many boards met other) (how_many (boards ++ board ∷ []) (met ++ one ∷ []) other)
added i board boards met one count last is other = elim (cases_Bool (packed_eq other board)) [
  | inl same ↦
      let at : place boards other ≡ length boards = ap (place boards) ((packed_eq-Decides other board).0 same) ∙ last in
      let now' : place (boards ++ board ∷ []) other ≡ length boards =
      pushed ∙ at_end (place boards other) (length boards) _ at ∙ (let none : length boards + 0 ≡ length boards = omega arith in ap (λ (b : Bool). length boards + cond b 0 1) same ∙ none) in
      met_same i (packed_eq other board) (how_many boards met other) no_game (how_many (boards ++ board ∷ []) (met ++ one ∷ []) other) one same
      (get_or-eq_default met no_game (omega (arith, at, count))) (get_or_push met one no_game (place (boards ++ board ∷ []) other) (count ∙ sym now')) is
  | inr differ ↦
      met_other i (packed_eq other board) (how_many boards met other) (how_many (boards ++ board ∷ []) (met ++ one ∷ []) other) differ
      (elim (cases_lt (place boards other) (length boards)) [
        | inl less ↦
            let now' : place (boards ++ board ∷ []) other ≡ place boards other = pushed ∙ at_front (place boards other) (length boards) _ less in
            ap (λ (n : ℕ). get_or (met ++ one ∷ []) n no_game) now' ∙ get_or-append met (one ∷ []) no_game (place boards other) (omega (arith, less, count))
        | inr beyond ↦
            let most = prefix_len-le-length (λ (b : Packed). not (packed_eq other b)) boards in
            let at : place boards other ≡ length boards = omega (arith, beyond, most) in
            let now' : place (boards ++ board ∷ []) other ≡ length boards + 1 =
            pushed ∙ at_end (place boards other) (length boards) _ at ∙ ap (λ (b : Bool). length boards + cond b 0 1) differ in
            get_or-eq_default (met ++ one ∷ []) no_game (longer now') ∙ sym (get_or-eq_default met no_game (omega (arith, at, count)))
      ])
]
  where
    pushed : place (boards ++ board ∷ []) other ≡ cond (eqb (place boards other) (length boards)) (length boards + cond (packed_eq other board) 0 1) (place boards other)
    pushed = position_or_len_push (packed_eq other) boards board

    longer : place (boards ++ board ∷ []) other ≡ length boards + 1 → length (met ++ one ∷ []) ≤ place (boards ++ board ∷ []) other
    longer now' = omega (arith, now', count, length_push met one)

pub meets : (i : ℕ) (board : Packed) (boards : List Packed) (met : List HowMany) (number : ℕ) (boards' : List Packed) (room met' : List HowMany) (one : HowMany)
    → length met ≡ length boards → number ≡ place boards board → boards' ≡ insert_key packed_eq boards board
    → room ≡ with_place (has_page board boards) met → met' ≡ set room number one → (old : HowMany) → slice_get room number ≡ Some old → IsMetBy i true old one
    → Meets i board boards met boards' met'
meets i board boards met number boards' room met' one count at is_boards is_room is_met old there is_old = record {
  order = is_boards;
  each = by (has_page board boards) refl;
}
  where
    is : IsMetBy i true (get_or room number no_game) one
    is = subst (λ (m : HowMany). IsMetBy i true m one) (sym (get_or_from_slice_get room number old no_game there)) is_old

    by : (there : Bool) → has_page board boards ≡ there → (other : Packed) → IsMetBy i (packed_eq other board) (how_many boards met other) (how_many boards' met' other)
    by true there other =
        let same : boards' ≡ boards = is_boards ∙ ap (λ (b : Bool). if b then boards else boards ++ board ∷ []) there in
        let room_is : room ≡ met = is_room ∙ ap (λ (b : Bool). with_place b met) there in
        let met_is : met' ≡ set met (place boards board) one = is_met ∙ (λ j. set (room_is j) (at j) one) in
        let one_is : IsMetBy i true (how_many boards met board) one = subst (λ (m : HowMany). IsMetBy i true m one) (λ j. get_or (room_is j) (at j) no_game) is in
        subst (λ (m : HowMany). IsMetBy i (packed_eq other board) (how_many boards met other) m) (λ j. how_many (sym same j) (sym met_is j) other)
        (present i board boards met one count (within boards board there) one_is other)
    by false there other =
        let same : boards' ≡ boards ++ board ∷ [] = is_boards ∙ ap (λ (b : Bool). if b then boards else boards ++ board ∷ []) there in
        let room_is : room ≡ met ++ no_game ∷ [] = is_room ∙ ap (λ (b : Bool). with_place b met) there in
        let last : place boards board ≡ length boards = last_place boards board there in
        let number_is : number ≡ length met = at ∙ last ∙ sym count in
        let met_is : met' ≡ met ++ one ∷ [] = is_met ∙ (λ j. set (room_is j) (number_is j) one) ∙ set-append_seam met no_game [] one in
        let one_is : IsMetBy i true no_game one =
        subst (λ (m : HowMany). IsMetBy i true m one) ((λ j. get_or (room_is j) (number_is j) no_game) ∙ get_or_push met no_game no_game (length met) refl) is in
        subst (λ (m : HowMany). IsMetBy i (packed_eq other board) (how_many boards met other) m) (λ j. how_many (sym same j) (sym met_is j) other)
        (added i board boards met one count last one_is other)

pub places_before : (i : ℕ) (there : Bool) (met : List HowMany) → All (λ (many : HowMany). IsBefore i many.last) met
    → All (λ (many : HowMany). IsBefore i many.last) (with_place there met)
places_before i true met all = all
places_before i false met all = All-push (λ (many : HowMany). IsBefore i many.last) met no_game all tt

-- ---- one game

-- The last game that was counted at a number.
last_before : (i : ℕ) (met : List HowMany) → All (λ (many : HowMany). IsBefore i many.last) met → (n : ℕ) → IsBefore i (get_or met n no_game).last
last_before i met all n = elim (cases_lt n (length met)) [
  | inl less ↦ all n no_game less
  | inr beyond ↦ subst (λ (m : HowMany). IsBefore i m.last) (sym (get_or-eq_default met no_game beyond)) tt
]

not_last : (i : ℕ) (last : Option ℕ) → IsBefore i last → last ≡ Some i → ⊥
not_last i None before e = absurd (cc)
not_last i (Some last) before e = let same : last ≡ i = cc in absurd (omega (arith, before, same))

one_more : (i : ℕ) (seen here : Bool) (old mid new : HowMany) → IsBefore i old.last → HasReached i seen old mid → IsMetBy i here mid new → HasReached i (seen || here) old new
one_more i true true old mid new before is met = met.0 (ap (λ (m : HowMany). m.last) is) ∙ is
one_more i true false old mid new before is same = same ∙ is
one_more i false true old mid new before is met =
    met.1 (λ e. not_last i old.last before (sym (ap (λ (m : HowMany). m.last) is) ∙ e)) ∙ ap (with_game i) is
one_more i false false old mid new before is same = same ∙ is

pub reaches_none : (i : ℕ) (boards : List Packed) (met : List HowMany) → Reaches i [] boards met boards met
reaches_none i boards met = record { order = refl; each = λ board. refl }

pub reaches_more : (i : ℕ) (seen : List Packed) (board : Packed) (boards : List Packed) (met : List HowMany) (boards1 : List Packed) (met1 : List HowMany) (boards' : List Packed) (met' : List HowMany)
    → AreCounts i boards met → Reaches i seen boards met boards1 met1 → Meets i board boards1 met1 boards' met' → Reaches i (seen ++ board ∷ []) boards met boards' met'
reaches_more i seen board boards met boards1 met1 boards' met' kept had met_one = record {
  order = met_one.order ∙ ap (λ (l : List Packed). insert_key packed_eq l board) had.order ∙ sym (fold_push (insert_key packed_eq) boards seen board);
  each = λ other.
      let both : has_page other (seen ++ board ∷ []) ≡ (has_page other seen || packed_eq other board) =
      list_any-append (packed_eq other) seen (board ∷ []) ∙ ap (λ (b : Bool). has_page other seen || b) (or-false (packed_eq other board)) in
      subst (λ (b : Bool). HasReached i b (how_many boards met other) (how_many boards' met' other)) (sym both)
      (one_more i (has_page other seen) (packed_eq other board) (how_many boards met other) (how_many boards1 met1 other) (how_many boards' met' other)
      (last_before i met kept.before (place boards other)) (had.each other) (met_one.each other));
}

pub counts_none : (boards : List Packed) (met : List HowMany) → boards ≡ [] → met ≡ [] → AreCounts 0 boards met
unfolding IsDistinct
counts_none boards met no_boards no_met = subst (λ (l : List Packed). AreCounts 0 l met) (sym no_boards) (subst (AreCounts 0 []) (sym no_met) (record {
  count = refl;
  distinct = tt;
  before = λ k d less. absurd (omega (arith, less));
}))

-- Of games below a number, also of those below the next.
pub kept_next : (i : ℕ) (boards : List Packed) (met : List HowMany) → AreCounts i boards met → AreCounts (i + 1) boards met
kept_next i boards met kept = record {
  count = kept.count;
  distinct = kept.distinct;
  before = λ k d less. later (get_or met k d).last (kept.before k d less);
}
  where
    later : (last : Option ℕ) → IsBefore i last → IsBefore (i + 1) last
    later None before = tt
    later (Some last) before = omega (arith, before)

-- ---- all games

pub have_none : (reach : Reach) (plies : List (Option ℕ)) (games : List GameTree) (boards : List Packed) (met : List HowMany) → boards ≡ [] → met ≡ []
    → HaveReached reach plies games 0 boards met
have_none reach plies games boards met no_boards no_met = record { order = no_boards; each = λ board. (λ j. (how_many (no_boards j) (no_met j) board).games) }

pub have_more : (reach : Reach) (plies : List (Option ℕ)) (games : List GameTree) (i : ℕ) (ply : Option ℕ) (game : GameTree) (boards : List Packed) (met : List HowMany) (boards' : List Packed) (met' : List HowMany)
    → slice_get plies i ≡ Some ply → slice_get games i ≡ Some game → HaveReached reach plies games i boards met → Reaches i (reached_if_in reach ply game) boards met boards' met'
    → HaveReached reach plies games (i + 1) boards' met'
have_more reach plies games i ply game boards met boards' met' is_ply is_game had now' =
    subst (λ (n : ℕ). HaveReached reach plies games n boards' met') (sym (add-one i))
    (record {
      order = now'.order ∙ (λ j. insert_all packed_eq (had.order j) (same j));
      each = λ board.
          one (has_page board (reached_if_in reach ply game)) (how_many boards met board) (how_many boards' met' board) (now'.each board)
          ∙ (λ j. had.each board j + (if has_page board (same j) then 1 else 0));
    })
  where
    same : reached_if_in reach ply game ≡ reached_by reach plies games i
    same = λ j. reached_if_in reach (sym (get_or_from_slice_get plies i ply None is_ply) j) (sym (get_or_from_slice_get games i game (record { start = start_setup; lead = None; line = ends }) is_game) j)

    one : (here : Bool) (old new : HowMany) → HasReached i here old new → new.games ≡ old.games + (if here then 1 else 0)
    one true old new is = ap (λ (m : HowMany). m.games) is
    one false old new is = let none : old.games ≡ old.games + 0 = omega arith in ap (λ (m : HowMany). m.games) is ∙ none

-- What one game adds to the tallies of boards, ply by ply.
use Rattle.std.proofs.Common.{◌≡◌, ◌<◌, ◌≤◌, ◌+◌, ℕ, zero, suc, Bool, true, false, cond, List, [], ◌∷◌, ◌++◌, length, Option, None, Some, refl, sym, ap, ◌∙◌, subst, arith, inl, inr, add-one}
use Rattle.std.specs.Prelude.{◌⊎◌, All, option_map, slice_get}
use Rattle.std.specs.Option.{option_or}
use Rattle.std.proofs.lemmas.Bool.{cases_eq}
use Rattle.std.proofs.lemmas.List.Elements.{All-push}
use Rattle.std.proofs.lemmas.Option.{get_or_from_slice_get, slice_get_cases, slice_get_within}
use Rattle.cell_core.specs.Packed.{Packed, men_of}
use Rattle.game_tree.specs.Game.{GameTree}
use Rattle.game_tree.specs.Replay.{plies_of}
use Rattle.pos_search.specs.Matching.{matches_at}
use Rattle.sig_index.specs.declared.pos_query.PosQuery.{PosQuery}
use Rattle.tree_rows.specs.MoveText.{IsKey}
use Rattle.tree_rows.specs.declared.hit.GameHit.{GameHit}
use Rattle.book_pages.specs.declared.counting.Counted.{Counted}
use Rattle.book_pages.specs.Keeping.{AreMet, AreMetAt, AreMetNoMore, AreTallies, HasKeys, IsBelow, IsHere, IsMet, IsMetIf, IsNone_or_below, Tallied, first_before, hit_at, query_of}

-- The last game is this one or not.
last_is : (last : Option ℕ) (i : ℕ) → (last ≡ Some i) ⊎ (last ≡ Some i → ⊥)
last_is None i = inr (λ e. absurd (cc))
last_is (Some last) i = elim (cases_eq last i) [
  | inl same ↦ inl (ap Some same)
  | inr apart ↦ inr (λ e. let same : last ≡ i = cc in apart same)
]

below_not : (i : ℕ) (last : Option ℕ) → IsNone_or_below i last → last ≡ Some i → ⊥
below_not i None below e = absurd (cc)
below_not i (Some last) below e = let same : last ≡ i = cc in absurd (omega (arith, below, same))

-- ---- one board

abbrev IsFirst : Counted → Packed → GameTree → Option ℕ → Tallied → Tallied → Type 0
IsFirst counted board game first before after = IsMetIf counted.number (option_map (hit_at counted board.side game) first) before after

one : (counted : Counted) (board : Packed) (game : GameTree) (ply : ℕ) (first : Option ℕ) (here : Bool) (before mid after : Tallied)
    → IsBelow counted.number before → IsFirst counted board game first before mid
    → IsHere here counted.number (hit_at counted board.side game ply) mid after
    → IsFirst counted board game (option_or first (cond here (Some ply) None)) before after
one counted board game ply None true before mid after below same met =
    subst (λ (t : Tallied). IsMet counted.number (hit_at counted board.side game ply) t after) same
    (met.1 (λ e. below_not counted.number before.last below (sym (ap (λ (t : Tallied). t.last) same) ∙ e)))
one counted board game ply None false before mid after below same is = is ∙ same
one counted board game ply (Some first) true before mid after below met again =
    subst (IsMet counted.number (hit_at counted board.side game first) before) (sym (again.0 met.last)) met
one counted board game ply (Some first) false before mid after below met is =
    subst (IsMet counted.number (hit_at counted board.side game first) before) (sym is) met

pub there : {X : Type 0} (xs : List X) (k : ℕ) → k < length xs → (x : X) × (slice_get xs k ≡ Some x)
there xs k less = elim (slice_get_cases xs k).1 [
  | inl at ↦ (at.0, at.2)
  | inr past ↦ absurd (omega (arith, past.0, less))
]

-- ---- all boards

pub none_met : (boards : List Packed) (counted : Counted) (game : GameTree) (ply : ℕ) (tallies : List Tallied) → ply ≡ 0 → AreMet boards counted game ply tallies tallies
none_met boards counted game ply tallies start = subst (λ (n : ℕ). AreMet boards counted game n tallies tallies) (sym start)
    (λ k board before after is_board is_before is_after. let same : Some after ≡ Some before = sym is_after ∙ is_before in cc)

pub met_more : (boards : List Packed) (counted : Counted) (game : GameTree) (ply later : ℕ) (old mid new : List Tallied) → later ≡ ply + 1
    → length mid ≡ length old → All (IsBelow counted.number) old → AreMet boards counted game ply old mid → AreMetAt boards counted game ply mid new
    → AreMet boards counted game later old new
met_more boards counted game ply later old mid new is_later count below met here = subst (λ (n : ℕ). AreMet boards counted game n old new) (sym (is_later ∙ add-one ply))
    (λ k board before after is_board is_before is_after.
    let within = slice_get_within old k before is_before in
    let at = there mid k (omega (arith, within, count)) in
    one counted board game ply (first_before (query_of board) game ply) (matches_at (query_of board) game ply) before at.0 after
    (subst (IsBelow counted.number) (get_or_from_slice_get old k before before is_before) (below k before within))
    (met k board before at.0 is_board is_before at.1) (here k board at.0 after is_board at.1 is_after))

-- Positions on no board add nothing.
settled : (query : PosQuery) (game : GameTree) (n e : ℕ) → n ≤ e → ((k : ℕ) → n ≤ k → k < e → matches_at query game k ≡ false)
    → first_before query game e ≡ first_before query game n
settled query game n zero within none = ap (first_before query game) (let same : 0 ≡ n = omega (arith, within) in same)
settled query game n (suc e) within none = elim (cases_eq n (suc e)) [
  | inl same ↦ ap (first_before query game) (sym same)
  | inr apart ↦
      let here : matches_at query game e ≡ false = none e (omega (arith, within, apart)) (omega arith) in
      rw here (or_none (first_before query game e) ∙ settled query game n e (omega (arith, within, apart)) (λ k from less. none k from (omega (arith, less))))
]
  where
    or_none : (o : Option ℕ) → option_or o None ≡ o
    or_none None = refl
    or_none (Some k) = refl

pub met_all : (boards : List Packed) (counted : Counted) (game : GameTree) (ply : ℕ) (old new : List Tallied) → ply ≤ plies_of game
    → AreMetNoMore boards game ply → AreMet boards counted game (ply + 1) old new → AreMet boards counted game (plies_of game + 1) old new
met_all boards counted game ply old new within none met = λ k board before after is_board is_before is_after.
    subst (λ (o : Option ℕ). IsFirst counted board game o before after)
    (sym (settled (query_of board) game (ply + 1) (plies_of game + 1) (omega (arith, within)) (λ later from less. none k later board is_board (omega (arith, from)) (omega (arith, less)))))
    (met k board before after is_board is_before is_after)

-- ---- what is kept

keys_more : (board : Packed) (i : ℕ) (hit : GameHit) (before after : Tallied) → IsMet i hit before after → HasKeys board before
    → IsKey (men_of board.cells) board.side hit.next → HasKeys board after
keys_more board i hit before after met has key = record {
  hits = has.hits ++ hit ∷ [];
  summed = met.rows has.hits has.summed;
  keys = All-push (λ (h : GameHit). IsKey (men_of board.cells) board.side h.next) has.hits hit has.keys key;
}

keys_here : (board : Packed) (i : ℕ) (hit : GameHit) (here : Bool) (before after : Tallied) → IsHere here i hit before after → HasKeys board before
    → (here ≡ true → IsKey (men_of board.cells) board.side hit.next) → HasKeys board after
keys_here board i hit false before after is has key = subst (HasKeys board) (sym is) has
keys_here board i hit true before after is has key = elim (last_is before.last i) [
  | inl same ↦ subst (HasKeys board) (sym (is.0 same)) has
  | inr apart ↦ keys_more board i hit before after (is.1 apart) has (key refl)
]

below_here : (i : ℕ) (hit : GameHit) (here : Bool) (before after : Tallied) → IsHere here i hit before after → IsBelow (i + 1) before → IsBelow (i + 1) after
below_here i hit false before after is below = subst (IsBelow (i + 1)) (sym is) below
below_here i hit true before after is below = elim (last_is before.last i) [
  | inl same ↦ subst (IsBelow (i + 1)) (sym (is.0 same)) below
  | inr apart ↦ subst (IsNone_or_below (i + 1)) (sym (is.1 apart).last) (let less : i < i + 1 = omega arith in less)
]

-- The tallies stay those of the boards where each was met or not.
pub kept_here : (boards : List Packed) (i : ℕ) (hit : GameHit) (here : ℕ → Bool) (old new : List Tallied) → AreTallies boards (i + 1) old → length new ≡ length old
    → ((k : ℕ) (before after : Tallied) → slice_get old k ≡ Some before → slice_get new k ≡ Some after → IsHere (here k) i hit before after)
    → ((k : ℕ) (board : Packed) → slice_get boards k ≡ Some board → here k ≡ true → IsKey (men_of board.cells) board.side hit.next)
    → AreTallies boards (i + 1) new
kept_here boards i hit here old new kept count met key = record {
  count = count ∙ kept.count;
  below = λ k d less.
      let was = there old k (omega (arith, less, count)) in
      let now' = there new k less in
      let before = subst (IsBelow (i + 1)) (get_or_from_slice_get old k was.0 was.0 was.1) (kept.below k was.0 (slice_get_within old k was.0 was.1)) in
      subst (IsBelow (i + 1)) (sym (get_or_from_slice_get new k now'.0 d now'.1))
      (below_here i hit (here k) was.0 now'.0 (met k was.0 now'.0 was.1 now'.1) before);
  keys = λ k board tally is_board is_tally.
      let less = slice_get_within new k tally is_tally in
      let was = there old k (omega (arith, less, count)) in
      keys_here board i hit (here k) was.0 tally (met k was.0 tally was.1 is_tally) (kept.keys k board was.0 is_board was.1) (key k board is_board);
}

-- A tally of games below a number is one of games below the next.
pub kept_next : (boards : List Packed) (i : ℕ) (tallies : List Tallied) → AreTallies boards i tallies → AreTallies boards (i + 1) tallies
kept_next boards i tallies kept = record {
  count = kept.count;
  below = λ k d less. by _ (kept.below k d less);
  keys = kept.keys;
}
  where
    by : (last : Option ℕ) → IsNone_or_below i last → IsNone_or_below (i + 1) last
    by None below = tt
    by (Some last) below = omega (arith, below)

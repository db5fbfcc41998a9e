-- The numbered squares after a legal move are those of the men after it, the kings' first.
use Rattle.move_codec.proofs.Words.{◌≡◌, ℕ, ◌<◌, false, cond, eqb, List, Option, Some, None, length, slice_get, set, inl, inr, refl, sym, ◌∙◌, ap, eqb_tells, get_or_from_slice_get, set-get_or, Colour, White, Black, Kind, King, Rook, Pawn, Man, Move, Men, man_at, put, man, other, is_man, is_of, Setup, Effect, Passing, Castle, Null, rook_home, rook_target, Sound, Case, moved, board_after, effect_of, passed_square, Step, Going, going, passed-stands, length-moved, Goes, length-put, on_board, put-other, put-same, relocate, castle-crossed, castle-rook_goes, castle-squares, Numbers, AreNumbers, number_of, squares_of, went, without, movers_after, capture_square, numbers_by, numbers_after}
use Rattle.move_codec.proofs.Lists.{at, found}
use Rattle.move_codec.proofs.Boards.{Numbering, are_numbers, enemy_man, no_own, numbering_of, own_man, own_of_enemy}
use Rattle.move_codec.proofs.Tracking.{Tracked, Tracked-like, Tracked-went, Tracked-without, Tracks-other, idle, there}

-- a board as a function, after one more man was put on it
put-at : (men : Men) (t : ℕ) (x : Option Man) (s : ℕ) → length men ≡ 64 → t < 64 → man_at (put men t x) s ≡ at (man_at men) t x s
put-at men t x s size within = elim (eqb_tells s t) [
  | inl same ↦ rw same.0 (ap (man_at (put men t x)) same.1 ∙ put-same men t x size within)
  | inr other ↦ rw other.0 (put-other men t s x other.1)
]

-- both sides' squares on a board
abbrev Sides : Colour → Men → List ℕ → List ℕ → Type 0
Sides c men own enemy = Tracked c (man_at men) own × Tracked (other c) (man_at men) enemy

-- a man goes from one square to another
goes : (men : Men) (a b : ℕ) (c : Colour) (k j : Kind) (own enemy : List ℕ) → Goes men a b c k j → Sides c men own enemy
    → Sides c (relocate men a b (Some (man c j))) (went own a b) (without enemy b)
goes men a b c k j own enemy g (mine, theirs) =
    let x : Option Man = Some (man c j) in
    let relocated : (s : ℕ) → man_at (relocate men a b x) s ≡ at (at (man_at men) a None) b x s =
    λ s. put-at (put men a None) b x s (length-put men a None g.squares) g.target
    ∙ ap (λ (o : Option Man). cond (eqb s b) x o) (put-at men a None s g.squares (on_board men a (man c k) g.squares g.from)) in
    let here = there c (man_at men) own mine a None (ap (is_of c) g.from ∙ own_man c k) in
    let gone = Tracked-went c (man_at men) own mine b x a here (λ is. mine.1.first a (ap (is_man c King) g.from ∙ (rw g.same_king at is)))
    (no_own (man_at men b) c g.no_own) (own_man c j) in
    let left = Tracks-other (other c) (man_at men) (slice_get enemy) theirs.1 a None (ap (is_of (other c)) g.from ∙ enemy_man c k) refl in
    let fewer = Tracked-without (other c) (at (man_at men) a None) enemy (theirs.0, left) b x (enemy_man c j) in
    (Tracked-like (went own a b) gone relocated, Tracked-like (without enemy b) fewer relocated)

-- none is taken from an empty square
none-taken : (men : Men) (c : Colour) (own enemy : List ℕ) (s : ℕ) → man_at men s ≡ None → Sides c men own enemy → without enemy s ≡ enemy
none-taken men c own enemy s empty sides = idle (other c) (man_at men) enemy sides.1 s None (ap (is_of (other c)) empty)

-- a man of the other side is taken away
taken : (men : Men) (s : ℕ) (c : Colour) (k : Kind) (own enemy : List ℕ) → length men ≡ 64 → man_at men s ≡ Some (man (other c) k) → Sides c men own enemy
    → Sides c (put men s None) own (without enemy s)
taken men s c k own enemy size stands (mine, theirs) =
    let emptied : (t : ℕ) → man_at (put men s None) t ≡ at (man_at men) s None t = λ t. put-at men s None t size (on_board men s (man (other c) k) size stands) in
    let same = Tracks-other c (man_at men) (slice_get own) mine.1 s None (ap (is_of c) stands ∙ own_of_enemy c k) refl in
    (Tracked-like own (mine.0, same) emptied, Tracked-like (without enemy s) (Tracked-without (other c) (man_at men) enemy theirs s None refl) emptied)

-- Each effect of a legal move

module _ (p : Setup) (m : Move) (own enemy : List ℕ) (sound : Sound p) (before : Sides p.side p.board own enemy) where
  gone : Going p m → Sides p.side (moved p m) (went own m.from m.to) (without enemy m.to)
  gone g = rw g.brings (goes p.board m.from m.to p.side g.kind g.becomes own enemy g.goes before)

  both : (e : Effect) → effect_of p m ≡ e → Case p m e → Sides p.side (board_after p m e) (movers_after p.side m e own) (without enemy (capture_square m e))
  both Passing is c =
      -- the passed pawn is taken away, and none on the target
      taken (moved p m) (passed_square m) p.side Pawn (went own m.from m.to) enemy (length-moved p m sound.squares) (passed-stands p m c)
      (rw (none-taken p.board p.side own enemy m.to c.empty before) at (gone (going p m Passing sound is c (λ n. cc))))
  both (Castle wing) is c =
      -- the rook goes too, to a square that the king has crossed
      let at = castle-squares p m wing c.stands is in
      let king = gone (going p m (Castle wing) sound is c (λ n. cc)) in
      rw (none-taken (moved p m) p.side (went own m.from m.to) (without enemy m.to) (rook_target p.side wing) (castle-crossed p m wing at c) king) at
      (goes (moved p m) (rook_home p.side wing) (rook_target p.side wing) p.side Rook Rook (went own m.from m.to) (without enemy m.to)
      (castle-rook_goes p m wing sound (length-moved p m sound.squares) at c) king)
  both Null is c =
      -- the king keeps his square
      let n : ℕ = number_of own m.from in
      let here : slice_get own n ≡ Some m.from = there p.side (man_at p.board) own before.0 m.from None (ap (is_of p.side) c.stands ∙ own_man p.side King) in
      let stays : set own n m.from ≡ own = sym (ap (set own n) (get_or_from_slice_get own n m.from m.from here)) ∙ set-get_or own n m.from in
      let free : is_of (other p.side) (man_at p.board m.from) ≡ false = ap (is_of (other p.side)) c.stands ∙ enemy_man p.side King in
      rw (c.stays, stays, idle (other p.side) (man_at p.board) enemy before.1 m.from None free) before
  both e is c = gone (going p m e sound is c (λ n. cc))

-- A side's numbered squares and where its king stands, as both definitions say it

tracked : (men : Men) (c : Colour) (squares : List ℕ) → Numbering men c squares → Tracked c (man_at men) squares
tracked men c squares (h, first) = (
  h.few,
  record {
    place = number_of squares;
    numbered = λ n s e. (h.held n s e, h.once (number_of squares s) n s (h.whole s (h.held n s e)) e);
    whole = h.whole;
    first = first;
  },
)

pub numbered : (men : Men) (c : Colour) (squares : List ℕ) → Tracked c (man_at men) squares → Numbering men c squares
numbered men c squares (few, h) = (
  record {
    few = few;
    held = λ n s e. (h.numbered n s e).0;
    once = λ j k s ej ek. sym (h.numbered j s ej).1 ∙ (h.numbered k s ek).1;
    whole = λ s t. found squares (h.place s) s (h.whole s t);
  },
  h.first,
)

-- both lists
both_lists : (men : Men) (m : Move) (e : Effect) (numbers : Numbers) (c : Colour)
    → Sides c men (movers_after c m e (squares_of c numbers)) (without (squares_of (other c) numbers) (capture_square m e)) → AreNumbers men (numbers_by c m e numbers)
both_lists men m e numbers White h = are_numbers _ _ (numbered _ White _ h.0) (numbered _ Black _ h.1)
both_lists men m e numbers Black h = are_numbers _ _ (numbered _ White _ h.1) (numbered _ Black _ h.0)

-- a legal move keeps the numbers those of the men, the kings' first
pub AreNumbers-step : (p : Setup) (m : Move) (q : Setup) (numbers : Numbers) → Sound p → Step p m q → AreNumbers p.board numbers
    → AreNumbers q.board (numbers_after p m numbers)
AreNumbers-step p m q numbers sound step h =
    let e : Effect = effect_of p m in
    let side : (c : Colour) → Tracked c (man_at p.board) (squares_of c numbers) = λ c. tracked p.board c (squares_of c numbers) (numbering_of p.board numbers h c) in
    rw step.becomes (both_lists (board_after p m e) m e numbers p.side
    (both p m (squares_of p.side numbers) (squares_of (other p.side) numbers) sound (side p.side, side (other p.side)) e refl step.allowed))

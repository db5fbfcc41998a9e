-- The list of moves grows in order, and nothing stands between.
use Rattle.chess_laws.proofs.Words.{◌≡◌, ℕ, ◌+◌, ◌*◌, ◌<◌, ◌≤◌, ◌⊎◌, inl, inr, Bool, true, false, ◌&&◌, not, eqb, List, [], ◌∷◌, ◌++◌, Option, Some, None, IsTrue, length, get_or, refl, sym, ◌∙◌, ap, subst, arith, lit<, length-append, All, Contains, slice_index_or, cases_Bool, cases_lt, false≢true, ne_eqb, OnTrue, OnFalse, Decides-and, Decides-eqb, All-push, All-cons, All-weaker, All-nil, Contains-append_left, Contains-push, all_pairs_push, Kind, King, Queen, Rook, Bishop, Knight, Pawn, Move, man_at, man, same_kind, same_kind-Decides, Setup, SquareSet, Effect, Plain, Double, Passing, Castle, Null, king_target, rank_of, Sound, effect_of, Case, CastleCase, GoesPlainly, may_become, last_rank, promotes_rightly, IsMove, promotion_number, place_of, Ascends, ListsMoves, HasMoreMoves, Comes, Has, Known, ListsBelow, MayPromote, goes, IsEquivalence, nat_eq_equiv, Any-from_list_any, list_any_at, IsDistinct-from_apart, length-le_from_is_member}
use Rattle.chess_laws.specs.Targets.{MayTake}
use Rattle.chess_laws.proofs.Boards.{man-kind, on_board}
use Rattle.chess_laws.proofs.Following.{case-on_board}
use Rattle.chess_laws.proofs.Keeping.{castle-squares}
use Rattle.chess_laws.proofs.Running.{is_none-Decides}

-- what promotes: nothing, or a pawn that comes to its last rank
abbrev pub Promotes : Setup → Move → Type 0
Promotes p m = (m.promo ≡ None) ⊎ (MayPromote p m.from m.to × IsTrue (may_become m.promo))

-- what a move besides the null move says of its squares
pub record Fits (p : Setup) (m : Move) : Type 0 where
  pub kind : Kind
  pub stands : man_at p.board m.from ≡ Some (man p.side kind)
  pub comes : Comes p kind m.from m.to
  pub promotes : Promotes p m

plain-comes : (p : Setup) (k : Kind) (m : Move) → GoesPlainly p k m → Comes p k m.from m.to
unfolding MayTake
plain-comes p Pawn m (inl g) = inl g
plain-comes p Pawn m (inr g) = inr (inr (g.0, inl g.1))
plain-comes p King m g = inl g
plain-comes p k m g = g

plain-promotes : (p : Setup) (k : Kind) (m : Move) → man_at p.board m.from ≡ Some (man p.side k) → IsTrue (promotes_rightly p.side k m) → Promotes p m
plain-promotes p k m stands h =
    elim (cases_Bool (same_kind k Pawn && eqb (rank_of m.to) (last_rank p.side))) [
      | inl is ↦
          let (pawn, last) = (Decides-and _ _ (same_kind-Decides k Pawn) (Decides-eqb (rank_of m.to) (last_rank p.side))).0 is in
          inr (record { stands = rw pawn at stands; last = last }, rw is at h)
      | inr not ↦ inl ((is_none-Decides m.promo).0 (rw not at h))
    ]

case-fits : (p : Setup) (m : Move) (e : Effect) → effect_of p m ≡ e → Case p m e → (m.to ≡ m.from → ⊥) → Fits p m
unfolding MayTake
case-fits p m Plain is h leaves = record {
  kind = h.kind;
  stands = h.stands;
  comes = plain-comes p h.kind m h.goes;
  promotes = plain-promotes p h.kind m h.stands h.promotes;
}
case-fits p m Double is h leaves = record { kind = Pawn; stands = h.stands; comes = inr (inl (h.own_rank, (h.walks, h.target))); promotes = inl h.promo }
case-fits p m Passing is h leaves = record { kind = Pawn; stands = h.stands; comes = inr (inr (h.goes, inr h.target)); promotes = inl h.promo }
case-fits p m (Castle wing) is h leaves =
    let at = castle-squares p m wing h.stands is in
    let castles : CastleCase p (goes m.from (king_target p.side wing)) wing =
    record { stands = h.stands; right = h.right; empty = h.empty; safe = h.safe; promo = refl } in
    record { kind = King; stands = h.stands; comes = inr (at.from, (wing, (at.to, castles))); promotes = inl h.promo }
case-fits p m Null is h leaves = absurd (leaves h.stays)

pub move-fits : (p : Setup) (m : Move) → IsMove p m → Fits p m
move-fits p m h = case-fits p m (effect_of p m) refl h.legal.1.allowed h.leaves

pub move-from : (p : Setup) (m : Move) → Sound p → IsMove p m → m.from < 64
move-from p m sound h = let fits = move-fits p m h in on_board p.board m.from (man p.side fits.kind) sound.squares fits.stands

pub move-to : (p : Setup) (m : Move) → Sound p → IsMove p m → m.to < 64
move-to p m sound h = case-on_board p m (effect_of p m) sound refl h.legal.1.allowed

-- the number of a promotion tells it
abbrev promo_at : ℕ → Option Kind
promo_at n = slice_index_or (None ∷ Some King ∷ Some Queen ∷ Some Rook ∷ Some Bishop ∷ Some Knight ∷ Some Pawn ∷ []) n None

promo-number : (x : Option Kind) → promo_at (promotion_number x) ≡ x
promo-number None = refl
promo-number (Some King) = refl
promo-number x = refl

promo-less : (x : Option Kind) → promotion_number x < 7
promo-less x = grind arith

-- moves of one place are one move
one-place : (a b : Move) → a.to < 64 → b.to < 64 → place_of a ≡ place_of b → a ≡ b
one-place a b ta tb same =
    let pa = promo-less a.promo in
    let pb = promo-less b.promo in
    let from : a.from ≡ b.from = omega arith in
    let to : a.to ≡ b.to = omega arith in
    let promo : promotion_number a.promo ≡ promotion_number b.promo = omega arith in
    λ i. record { from = from i; to = to i; promo = (sym (promo-number a.promo) ∙ ap promo_at promo ∙ promo-number b.promo) i }

-- a move that stands between two places
record Between (p : Setup) (n k : ℕ) (m : Move) : Type 0 where
  is : IsMove p m
  low : n ≤ place_of m
  high : place_of m < k
  on_board : m.to < 64
  promo : promotion_number m.promo < 7
  fits : Fits p m

-- where no move stands between, the list is the same
lists-gap : (p : Setup) (room n k : ℕ) (ms : List Move) → Sound p → ListsBelow p room n ms → n ≤ k → ((m : Move) → Between p n k m → ⊥) → ListsBelow p room k ms
lists-gap p room n k ms sound h more empty = record {
  fits = h.fits;
  only = h.only;
  below = All-weaker (λ m. place_of m < n) (λ m. place_of m < k) (λ m less. omega arith) ms h.below;
  all = λ m is less. elim (cases_lt (place_of m) n) [
    | inl before ↦ h.all m is before
    | inr after ↦
        absurd (empty m (record { is = is; low = after; high = less; on_board = move-to p m sound is; promo = promo-less m.promo; fits = move-fits p m is }))
  ];
  in_order = h.in_order;
}

ascends-push : (ms : List Move) (m : Move) → All (λ x. place_of x < place_of m) ms → Ascends ms → Ascends (ms ++ m ∷ [])
ascends-push ms m below h = all_pairs_push (λ a b. place_of a < place_of b) ms m h (λ k d less. below k d less)

-- a move of the next place joins the list
pub lists-push : (p : Setup) (room : ℕ) (ms : List Move) (m : Move) → Sound p → ListsBelow p room (place_of m) ms → length ms < room → IsMove p m → ListsBelow p room (place_of m + 1) (ms ++ m ∷ [])
lists-push p room ms m sound h less is = record {
  fits = omega (arith, length-append ms (m ∷ []));
  only = All-push (IsMove p) ms m h.only is;
  below = All-push (λ x. place_of x < place_of m + 1) ms m (All-weaker (λ x. place_of x < place_of m) (λ x. place_of x < place_of m + 1) (λ x less. omega arith) ms h.below) (omega arith);
  all = λ x it less. elim (cases_lt (place_of x) (place_of m)) [
    | inl before ↦ Contains-append_left ms (m ∷ []) x (h.all x it before)
    | inr after ↦ subst (Contains (ms ++ m ∷ [])) (one-place m x (move-to p m sound is) (move-to p x sound it) (omega arith)) (Contains-push ms m)
  ];
  in_order = ascends-push ms m h.below h.in_order;
}

-- a move of the next place that is none
pub lists-skip : (p : Setup) (room : ℕ) (ms : List Move) (m : Move) → Sound p → m.to < 64 → ListsBelow p room (place_of m) ms → (IsMove p m → ⊥) → ListsBelow p room (place_of m + 1) ms
lists-skip p room ms m sound less h none =
    lists-gap p room (place_of m) (place_of m + 1) ms sound h (omega arith)
    (λ x b. none (subst (IsMove p) (one-place x m b.on_board less (omega (arith, b.low, b.high))) b.is))

-- a move for which there is no room shows that there are more
pub lists-many : (p : Setup) (room : ℕ) (ms : List Move) (m : Move) → ListsBelow p room (place_of m) ms → IsMove p m → length ms ≡ room → HasMoreMoves p room
lists-many p room ms m h is full = record {
  moves = ms ++ m ∷ [];
  only = All-push (IsMove p) ms m h.only is;
  in_order = ascends-push ms m h.below h.in_order;
  many = omega (arith, length-append ms (m ∷ []));
}

-- below the last place there are all
pub lists-all : (p : Setup) (room : ℕ) (ms : List Move) → Sound p → ListsBelow p room (512 * 64) ms → ListsMoves p ms
lists-all p room ms sound h = record {
  only = h.only;
  all = λ m is.
      let f = move-from p m sound is in
      let t = move-to p m sound is in
      let x = promo-less m.promo in
      h.all m is (omega arith);
  in_order = h.in_order;
}

-- no move from f to t has a promotion, where none may
pub lists-plain : (p : Setup) (room f t : ℕ) (ms : List Move) → Sound p → t < 64 → (MayPromote p f t → ⊥) → ListsBelow p room (512 * f + (8 * t + 1)) ms → ListsBelow p room (512 * f + 8 * (t + 1)) ms
lists-plain p room f t ms sound less never h =
    lists-gap p room (512 * f + (8 * t + 1)) (512 * f + 8 * (t + 1)) ms sound h (omega arith)
    (λ m b.
    let from : m.from ≡ f = omega arith in
    let to : m.to ≡ t = omega arith in
    elim b.fits.promotes [ inl none ↦ omega (arith, ap promotion_number none) | inr may ↦ never (rw (from, to) at may.0) ])

-- so a move that is added joins the list, or shows that there are more, and one that is none changes nothing
pub lists_added : (p : Setup) (room n k : ℕ) (ms new : List Move) (m : Move) (done : Bool) → IsMove p m → Sound p → ListsBelow p room n ms →
    OnTrue done (new ≡ ms ++ m ∷ []) → OnTrue done (length ms < room) → n ≡ place_of m → k ≡ place_of m + 1 → OnTrue done (ListsBelow p room k new)
lists_added p room n k ms new m true is sound h added less at next = rw (added, next) (lists-push p room ms m sound (rw at at h) less is)
lists_added p room n k ms new m false is sound h added less at next = tt

pub lists_over : (p : Setup) (room n : ℕ) (ms : List Move) (m : Move) (done : Bool) → IsMove p m → ListsBelow p room n ms →
    OnFalse done (length ms ≡ room) → n ≡ place_of m → OnFalse done (HasMoreMoves p room)
lists_over p room n ms m true is h full at = tt
lists_over p room n ms m false is h full at = lists-many p room ms m (rw at at h) is full

pub lists_none : (p : Setup) (room n k : ℕ) (ms : List Move) (m : Move) → (IsMove p m → ⊥) → Sound p → m.to < 64 → ListsBelow p room n ms →
    n ≡ place_of m → k ≡ place_of m + 1 → ListsBelow p room k ms
lists_none p room n k ms m none sound less h at next = rw next (lists-skip p room ms m sound less (rw at at h) none)

-- and no other move goes from the one square to the other, where this one is known
pub lists_known : (p : Setup) (room a b : ℕ) (e : Effect) (ms : List Move) (done : Bool) → Known p a b e → Sound p → b < 64 →
    OnTrue done (ListsBelow p room (512 * a + (8 * b + 1)) ms) → OnTrue done (ListsBelow p room (512 * a + 8 * (b + 1)) ms)
lists_known p room a b e ms true known sound less h = lists-plain p room a b ms sound less known.plain h
lists_known p room a b e ms false known sound less h = tt

-- none becomes a king
becomes : (x : Option Kind) → IsTrue (may_become x) → 1 < promotion_number x
becomes x h = grind arith

pub lists_no_king : (p : Setup) (room f t : ℕ) (ms : List Move) → Sound p → t < 64 → ListsBelow p room (512 * f + (8 * t + 1)) ms → ListsBelow p room (512 * f + (8 * t + 2)) ms
lists_no_king p room f t ms sound less h =
    lists-gap p room (512 * f + (8 * t + 1)) (512 * f + (8 * t + 2)) ms sound h (omega arith)
    (λ m b. elim b.fits.promotes [ inl none ↦ omega (arith, ap promotion_number none) | inr may ↦ omega (arith, becomes m.promo may.1) ])

-- no move goes to a square that is not among the targets
pub lists_targets : (p : Setup) (room f at t n k : ℕ) (kind : Kind) (ms : List Move) (set : SquareSet) → Sound p → at ≤ t → t ≤ 64 →
    man_at p.board f ≡ Some (man p.side kind) → ((b : ℕ) → Comes p kind f b → Has set b) → ((b : ℕ) → at ≤ b → b < t → Has set b → ⊥) →
    n ≡ 512 * f + 8 * at → k ≡ 512 * f + 8 * t → ListsBelow p room n ms → ListsBelow p room k ms
lists_targets p room f at t n k kind ms set sound more less stands has none low high h =
    lists-gap p room n k ms sound h (omega arith)
    (λ m b.
    let from : m.from ≡ f = omega arith in
    let same : b.fits.kind ≡ kind = man-kind p.side p.side b.fits.kind kind (sym b.fits.stands ∙ ap (man_at p.board) from ∙ stands) in
    none m.to (omega arith) (omega arith) (has m.to (rw (from, same) at b.fits.comes)))

-- and none from squares on which no man of the mover's stands
pub lists_no_man : (p : Setup) (room at t : ℕ) (ms : List Move) → Sound p → at ≤ t → ((a : ℕ) (k : Kind) → at ≤ a → a < t → man_at p.board a ≡ Some (man p.side k) → ⊥) →
    ListsBelow p room (512 * at) ms → ListsBelow p room (512 * t) ms
lists_no_man p room at t ms sound more none h =
    lists-gap p room (512 * at) (512 * t) ms sound h (omega arith) (λ m b. none m.from b.fits.kind (omega arith) (omega arith) b.fits.stands)

-- some move shows that there are more than none
pub more-one : (p : Setup) (m : Move) → IsMove p m → HasMoreMoves p 0
more-one p m is = record {
  moves = m ∷ [];
  only = All-cons (IsMove p) m [] is (All-nil (IsMove p));
  in_order = λ i j d less within. absurd (omega arith);
  many = lit< tt;
}

-- and the other way round
pub one-more : (p : Setup) → HasMoreMoves p 0 → (m : Move) × IsMove p m
one-more p h = let none : Move = record { from = 0; to = 0; promo = None } in (get_or h.moves 0 none, h.only 0 none h.many)

-- whether there is room for none tells whether there is some move
pub some-move : (p : Setup) (none : Bool) → OnTrue none (HasMoreMoves p 0 → ⊥) → OnFalse none (HasMoreMoves p 0) →
    (IsTrue (not none) → (m : Move) × IsMove p m) × (((m : Move) × IsMove p m) → IsTrue (not none))
some-move p true room many = (λ h. absurd (false≢true h), λ s. absurd (room (more-one p s.0 s.1)))
some-move p false room many = (λ h. one-more p many, λ s. refl)

-- moves of one place in the order
abbrev same_place : Move → Move → Bool
same_place a b = eqb (place_of a) (place_of b)

laws : IsEquivalence same_place
laws = record {
  refl = λ a. nat_eq_equiv.refl (place_of a);
  symm = λ a b. nat_eq_equiv.symm (place_of a) (place_of b);
  congr = λ a b c. nat_eq_equiv.congr (place_of a) (place_of b) (place_of c);
}

-- where a list of so many has them all, there are no more
pub no-more : (p : Setup) (room : ℕ) (ms : List Move) → ListsMoves p ms → length ms ≤ room → HasMoreMoves p room → ⊥
no-more p room ms lists fits more =
    let apart = IsDistinct-from_apart same_place more.moves (λ i j d less within. ne_eqb _ _ (λ e. omega (arith, e, more.in_order i j d less within))) in
    let le = length-le_from_is_member laws more.moves ms apart (λ q h.
    let (k, x, less, at, e) = Any-from_list_any (same_place q) more.moves h in
    let (j, within, is) = lists.all x (rw at at (more.only k x less)) in
    list_any_at (same_place q) ms j x within (rw is e)) in
    omega (arith, le, more.many)

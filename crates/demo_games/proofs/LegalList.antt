-- The list of legal moves that is computed is the one that `legal_moves` of a position lists.
use Rattle.std.proofs.Common.{◌≡◌, ℕ, zero, suc, ◌+◌, ◌*◌, ◌<◌, ◌≤◌, ◌⊎◌, inl, inr, Bool, true, ◌==◌, not, List, [], ◌∷◌, ◌++◌, Option, Some, None, filter, flat_map, length, get_or, refl, sym, ◌∙◌, ap, subst, arith, All, Contains, Decides}
use Rattle.std.proofs.lemmas.Bool.{cases_lt, cond_both, false≢true}
use Rattle.std.proofs.lemmas.Bool.Decides.{Decides-and, Decides-not, Decides-eqb}
use Rattle.cell_core.specs.declared.man.Kind.{Kind}
use Rattle.cell_core.specs.declared.man.Kind.TheVariants.{King, Queen, Rook, Bishop, Knight, Pawn}
use Rattle.cell_core.specs.declared.step.Move.{Move}
use Rattle.chess_laws.specs.declared.setup.Setup.{Setup}
use Rattle.chess_laws.specs.LegalNow.{legal_now}
use Rattle.chess_laws.specs.Moves.{Ascends, HasMoreMoves, IsMove, ListsMoves, place_of}
use Rattle.chess_laws.specs.Position.{Sound}
use Rattle.chess_laws.specs.Step.{may_become}
use Rattle.chess_laws.proofs.Deciding.{legal-Decides}
use Rattle.chess_laws.proofs.Listing.{move-fits, move-from, move-to}
use Rattle.std.specs.List.{range_with_len}
use Rattle.demo_games.specs.Moves.{all_moves, is_move, legal_moves, moves_to}

-- ---- lists of moves in order

-- the moves stand in order at places from lo on, below hi
Rises : ℕ → ℕ → List Move → Type 0
Rises lo hi [] = lo ≤ hi
Rises lo hi (m ∷ ms) = (lo ≤ place_of m) × Rises (place_of m + 1) hi ms

Has : {X : Type 0} → List X → X → Type 0
Has [] x = ⊥
Has (y ∷ ys) x = (y ≡ x) ⊎ Has ys x

rises-lower : (a b c : ℕ) (ms : List Move) → a ≤ b → Rises b c ms → Rises a c ms
unfolding Rises
rises-lower a b c [] le h = omega arith
rises-lower a b c (m ∷ ms) le h = (omega (arith, h.0), h.1)

rises-append : (a b c : ℕ) (ms ns : List Move) → Rises a b ms → Rises b c ns → Rises a c (ms ++ ns)
unfolding Rises
rises-append a b c [] ns h k = rises-lower a b c ns h k
rises-append a b c (m ∷ ms) ns h k = (h.0, rises-append (place_of m + 1) b c ms ns h.1 k)

-- blocks of one width, one behind the other
rises-blocks : (f : ℕ → List Move) (base w : ℕ) → ((k : ℕ) → Rises (base + k * w) (base + (k + 1) * w) (f k))
    → (first count : ℕ) → Rises (base + first * w) (base + (first + count) * w) (flat_map f (range_with_len first count))
unfolding Rises
rises-blocks f base w each first zero = omega (arith, ap (λ n. n * w) (same first))
  where
    same : (n : ℕ) → n + 0 ≡ n
    same n = omega arith
rises-blocks f base w each first (suc count) =
    let at : (first + 1) + count ≡ first + suc count = omega arith in
    rises-append (base + first * w) (base + (first + 1) * w) (base + (first + suc count) * w) (f first) (flat_map f (range_with_len (first + 1) count)) (each first)
    (subst (λ n. Rises (base + (first + 1) * w) (base + n * w) (flat_map f (range_with_len (first + 1) count))) at (rises-blocks f base w each (first + 1) count))

rises-to : (from to : ℕ) → Rises (512 * from + to * 8) (512 * from + (to + 1) * 8) (moves_to from to)
unfolding Rises
rises-to from to = (omega arith, (omega arith, (omega arith, (omega arith, (omega arith, omega arith)))))

abbrev moves_from : ℕ → List Move
moves_from from = flat_map (moves_to from) (range_with_len 0 64)

rises-from : (from : ℕ) → Rises (0 + from * 512) (0 + (from + 1) * 512) (moves_from from)
rises-from from =
    let low : 512 * from + 0 * 8 ≡ 0 + from * 512 = omega arith in
    let high : 512 * from + (0 + 64) * 8 ≡ 0 + (from + 1) * 512 = omega arith in
    subst (λ n. Rises n (0 + (from + 1) * 512) (moves_from from)) low
    (subst (λ n. Rises (512 * from + 0 * 8) n (moves_from from)) high (rises-blocks (moves_to from) (512 * from) 8 (rises-to from) 0 64))

rises-all : Rises 0 32768 all_moves
unfolding all_moves
rises-all = rises-blocks moves_from 0 512 rises-from 0 64

rises-filter : (test : Move → Bool) (a b : ℕ) (ms : List Move) → Rises a b ms → Rises a b (filter test ms)
unfolding Rises
rises-filter test a b [] h = h
rises-filter test a b (m ∷ ms) h =
    cond_both (test m) (m ∷ filter test ms) (filter test ms) (Rises a b)
    (λ _. (h.0, rises-filter test (place_of m + 1) b ms h.1))
    (λ _. rises-lower a (place_of m + 1) b (filter test ms) (omega (arith, h.0)) (rises-filter test (place_of m + 1) b ms h.1))

-- ---- lists in order that have the same moves

-- the moves stand in order, from this place on
Up : ℕ → List Move → Type 0
Up lo [] = Unit {0}
Up lo (m ∷ ms) = (lo ≤ place_of m) × Up (place_of m + 1) ms

rises-up : (lo hi : ℕ) (ms : List Move) → Rises lo hi ms → Up lo ms
unfolding Rises Up
rises-up lo hi [] h = tt
rises-up lo hi (m ∷ ms) h = (h.0, rises-up (place_of m + 1) hi ms h.1)

ascends-up : (lo : ℕ) (ms : List Move) → All (λ m. lo ≤ place_of m) ms → Ascends ms → Up lo ms
unfolding Up
ascends-up lo [] low h = tt
ascends-up lo (m ∷ ms) low h = (
  low 0 m (omega arith),
  ascends-up (place_of m + 1) ms
      (λ k d less. let more : place_of m < place_of (get_or ms k d) = h 0 (suc k) d (omega arith) (omega arith) in omega arith)
      (λ i j d less within. h (suc i) (suc j) d (omega arith) (omega arith)),
)

-- a move of the list stands at its place or behind it
has-behind : (lo : ℕ) (ms : List Move) (m : Move) → Up lo ms → Has ms m → lo ≤ place_of m
unfolding Up Has
has-behind lo [] m up h = absurd h
has-behind lo (n ∷ ms) m up (inl same) = subst (λ x. lo ≤ place_of x) same up.0
has-behind lo (n ∷ ms) m up (inr later) = omega (arith, up.0, has-behind (place_of n + 1) ms m up.1 later)

-- what has the first of the other list and stands behind it is later
later-has : (lo : ℕ) (n m : Move) (ns : List Move) → place_of n < place_of m → Has (n ∷ ns) m → Has ns m
unfolding Has
later-has lo n m ns less (inl same) = absurd (omega (arith, ap place_of same))
later-has lo n m ns less (inr later) = later

first-same : (a b : ℕ) (m n : Move) (ms ns : List Move) → Up a (m ∷ ms) → Up b (n ∷ ns) → Has (n ∷ ns) m → Has (m ∷ ms) n → m ≡ n
unfolding Up Has
first-same a b m n ms ns up up' (inl same) k = sym same
first-same a b m n ms ns up up' (inr later) (inl same) = same
first-same a b m n ms ns up up' (inr later) (inr other) =
    absurd (omega (arith, has-behind (place_of n + 1) ns m up'.1 later, has-behind (place_of m + 1) ms n up.1 other))

same-lists : (a b : ℕ) (ms ns : List Move) → Up a ms → Up b ns → ((m : Move) → Has ms m → Has ns m) → ((m : Move) → Has ns m → Has ms m) → ms ≡ ns
unfolding Up Has
same-lists a b [] [] up up' there back = refl
same-lists a b [] (n ∷ ns) up up' there back = absurd (back n (inl refl))
same-lists a b (m ∷ ms) [] up up' there back = absurd (there m (inl refl))
same-lists a b (m ∷ ms) (n ∷ ns) up up' there back =
    let first : m ≡ n = first-same a b m n ms ns up up' (there m (inl refl)) (back n (inl refl)) in
    let rest : ms ≡ ns = same-lists (place_of m + 1) (place_of n + 1) ms ns up.1 up'.1
    (λ x has. later-has b n x ns (omega (arith, ap place_of first, has-behind (place_of m + 1) ms x up.1 has)) (there x (inr has)))
    (λ x has. later-has a m x ms (omega (arith, ap place_of first, has-behind (place_of n + 1) ns x up'.1 has)) (back x (inr has))) in
    ap (λ x. x ∷ ms) first ∙ ap (λ xs. n ∷ xs) rest

-- a list in order that has no other moves is no longer
no-longer : (a b : ℕ) (ns ms : List Move) → Up a ms → Up b ns → ((m : Move) → Has ms m → Has ns m) → length ms ≤ length ns
unfolding Up Has
no-longer a b [] [] up up' there = omega arith
no-longer a b [] (m ∷ ms) up up' there = absurd (there m (inl refl))
no-longer a b (n ∷ ns) [] up up' there = omega arith
no-longer a b (n ∷ ns) (m ∷ ms) up up' there = elim (there m (inl refl)) [
  | inl same ↦
      omega (
        arith,
        no-longer (place_of m + 1) (place_of n + 1) ns ms up.1 up'.1
            (λ x has. later-has b n x ns (omega (arith, ap place_of same, has-behind (place_of m + 1) ms x up.1 has)) (there x (inr has))),
      )
  | inr later ↦
      let behind = has-behind (place_of n + 1) ns m up'.1 later in
      omega (
        arith,
        no-longer (place_of m) (place_of n + 1) ns (m ∷ ms) (omega arith, up.1) up'.1
            (λ x has. later-has b n x ns (omega (arith, behind, has-behind (place_of m) (m ∷ ms) x (omega arith, up.1) has)) (there x has)),
      )
]

-- ---- what the list has

has-from : {X : Type 0} (ms : List X) (m : X) → Contains ms m → Has ms m
unfolding Has
has-from [] m (k, less, at) = absurd (omega (arith, less))
has-from (n ∷ ms) m (zero, less, at) = inl at
has-from (n ∷ ms) m (suc k, less, at) = inr (has-from ms m (k, omega (arith, less), at))

all-has : (P : Move → Type 0) (ms : List Move) (m : Move) → All P ms → Has ms m → P m
unfolding Has
all-has P [] m all h = absurd h
all-has P (n ∷ ms) m all (inl same) = subst P same (all 0 n (omega arith))
all-has P (n ∷ ms) m all (inr later) = all-has P ms m (λ k d less. all (suc k) d (omega arith)) later

has-left : {X : Type 0} (xs ys : List X) (x : X) → Has xs x → Has (xs ++ ys) x
unfolding Has
has-left [] ys x h = absurd h
has-left (y ∷ xs) ys x (inl same) = inl same
has-left (y ∷ xs) ys x (inr later) = inr (has-left xs ys x later)

has-right : {X : Type 0} (xs ys : List X) (x : X) → Has ys x → Has (xs ++ ys) x
unfolding Has
has-right [] ys x h = h
has-right (y ∷ xs) ys x h = inr (has-right xs ys x h)

has-block : (f : ℕ → List Move) (first count k : ℕ) (m : Move) → first ≤ k → k < first + count → Has (f k) m → Has (flat_map f (range_with_len first count)) m
has-block f first zero k m low high h = absurd (omega arith)
has-block f first (suc count) k m low high h = elim (cases_lt first k) [
  | inl more ↦ has-right (f first) (flat_map f (range_with_len (first + 1) count)) m (has-block f (first + 1) count k m (omega arith) (omega arith) h)
  | inr here ↦
      let same : k ≡ first = omega arith in
      has-left (f first) (flat_map f (range_with_len (first + 1) count)) m (subst (λ j. Has (f j) m) same h)
]

has-promotion : (from to : ℕ) (promo : Option Kind) → (promo ≡ None) ⊎ (may_become promo ≡ true) → Has (moves_to from to) (record { from = from; to = to; promo = promo })
unfolding Has
has-promotion from to None h = inl refl
has-promotion from to (Some Queen) h = inr (inl refl)
has-promotion from to (Some Rook) h = inr (inr (inl refl))
has-promotion from to (Some Bishop) h = inr (inr (inr (inl refl)))
has-promotion from to (Some Knight) h = inr (inr (inr (inr (inl refl))))
has-promotion from to (Some King) (inl none) = absurd (cc)
has-promotion from to (Some King) (inr may) = absurd (cc)
has-promotion from to (Some Pawn) (inl none) = absurd (cc)
has-promotion from to (Some Pawn) (inr may) = absurd (cc)

has-all : (m : Move) → m.from < 64 → m.to < 64 → (m.promo ≡ None) ⊎ (may_become m.promo ≡ true) → Has all_moves m
unfolding all_moves
has-all m from to promo =
    has-block moves_from 0 64 m.from m (omega arith) (omega arith)
    (has-block (moves_to m.from) 0 64 m.to m (omega arith) (omega arith) (has-promotion m.from m.to m.promo promo))

has-filter : (test : Move → Bool) (ms : List Move) (m : Move) → Has ms m → test m ≡ true → Has (filter test ms) m
unfolding Has
has-filter test [] m h passes = absurd h
has-filter test (n ∷ ms) m (inl same) passes =
    cond_both (test n) (n ∷ filter test ms) (filter test ms) (λ xs. Has xs m) (λ _. inl same) (λ fails. absurd (false≢true (sym fails ∙ ap test same ∙ passes)))
has-filter test (n ∷ ms) m (inr later) passes =
    cond_both (test n) (n ∷ filter test ms) (filter test ms) (λ xs. Has xs m) (λ _. inr (has-filter test ms m later passes)) (λ _. has-filter test ms m later passes)

filter-passes : (test : Move → Bool) (ms : List Move) (m : Move) → Has (filter test ms) m → test m ≡ true
unfolding Has
filter-passes test [] m h = absurd h
filter-passes test (n ∷ ms) m h =
    cond_both (test n) (n ∷ filter test ms) (filter test ms) (λ xs. Has xs m → test m ≡ true)
    (λ passes k. elim k [ inl same ↦ subst (λ x. test x ≡ true) same passes | inr later ↦ filter-passes test ms m later ])
    (λ _ k. filter-passes test ms m k) h

-- ---- the legal moves

is_move-Decides : (p : Setup) (m : Move) → Decides (is_move p m) (IsMove p m)
unfolding is_move
is_move-Decides p m =
    let both = Decides-and (legal_now p m) (not (m.to == m.from)) (legal-Decides p m) (Decides-not (m.to == m.from) (Decides-eqb m.to m.from)) in (
      (λ h. let is = both.0 h in record { legal = is.0; leaves = is.1 }),
      (λ is. both.1 (is.legal, is.leaves)),
    )

moves-has : (p : Setup) (m : Move) → Sound p → IsMove p m → Has (legal_moves p) m
unfolding legal_moves
moves-has p m sound is = has-filter (is_move p) all_moves m (has-all m (move-from p m sound is) (move-to p m sound is) promo) ((is_move-Decides p m).1 is)
  where
    promo : (m.promo ≡ None) ⊎ (may_become m.promo ≡ true)
    promo = elim (move-fits p m is).promotes [ inl none ↦ inl none | inr may ↦ inr may.1 ]

moves-up : (p : Setup) → Up 0 (legal_moves p)
unfolding legal_moves
moves-up p = rises-up 0 32768 (filter (is_move p) all_moves) (rises-filter (is_move p) 0 32768 all_moves rises-all)

moves-are : (p : Setup) (m : Move) → Has (legal_moves p) m → IsMove p m
unfolding legal_moves
moves-are p m h = (is_move-Decides p m).0 (filter-passes (is_move p) all_moves m h)

-- the list that has every legal move in order is this one
pub lists-moves : (p : Setup) (ms : List Move) → Sound p → ListsMoves p ms → ms ≡ legal_moves p
lists-moves p ms sound lists =
    same-lists 0 0 ms (legal_moves p) (ascends-up 0 ms (λ k d less. omega arith) lists.in_order) (moves-up p)
    (λ m h. moves-has p m sound (all-has (IsMove p) ms m lists.only h))
    (λ m h. has-from ms m (lists.all m (moves-are p m h)))

-- where there are more moves than so many, the list is longer
pub more-moves : (p : Setup) (n : ℕ) → Sound p → HasMoreMoves p n → n < length (legal_moves p)
more-moves p n sound more =
    let long = no-longer 0 0 (legal_moves p) more.moves (ascends-up 0 more.moves (λ k d less. omega arith) more.in_order) (moves-up p) (λ m h. moves-has p m sound (all-has (IsMove p) more.moves m more.only h)) in
    omega (arith, more.many, long)

pub contains-is : (p : Setup) (m : Move) → Contains (legal_moves p) m → IsMove p m
contains-is p m h = moves-are p m (has-from (legal_moves p) m h)

-- The tests of the Laws decide what the Laws say.
use Rattle.chess_laws.proofs.Words.{◌≡◌, ℕ, is_none, nat_eq, zero, suc, ◌<◌, Bool, false, not, ◌&&◌, ◌==◌, IsTrue, Option, Some, None, List, All, Any, rules, refl, sym, ap, subst, Decides, list_all, list_any, Decides-and, Decides-or, Decides-not, Decides-like, Decides-eqb, Decides-below_or, Decides-by_and, and_parts, Any-from_list_any, list_any-from_Any, Colour, Kind, King, Knight, Pawn, Man, Move, Men, man_at, man, other, is_man, is_of, same_colour, same_colour-Decides, Setup, Effect, Plain, Double, Passing, Castle, Null, Offset, shift, forward, pawn_captures, knight_steps, king_steps, Leaps, Walk, Runs, Attacks, IsInCheck, Reaches, slides, king_path, has_right, board_after, effect_of, after, passed_square, promotes_rightly, HasNoOwn, GoesPlainly, Case, Legal, option_eq, option_map_or, reaches_now, goes_plainly_now, case_now}
use Rattle.chess_laws.specs.Castling.{between}
use Rattle.chess_laws.specs.LegalNow.{some_below, leaps_now, walks_now, runs_now, attacks_now, in_check_now, legal_now}
use Rattle.chess_laws.proofs.Running.{is_none-Decides, reach-ends, short-walk}
use Rattle.chess_laws.proofs.Kings.{is_man-Decides}

-- the tests of squares and men
is_square-Decides : (b : ℕ) (x : Option ℕ) → Decides (option_eq nat_eq x (Some b)) (x ≡ Some b)
is_square-Decides b None = (λ h. absurd (cc), λ h. absurd (cc))
is_square-Decides b (Some a) = Decides-like (a == b) (λ h. ap Some h) (λ h. cc) (Decides-eqb a b)

itself : (x : Bool) → Decides x (IsTrue x)
itself x = (λ h. h, λ h. h)

-- some man of the colour stands there, of whose kind this is true
of-Decides : (c : Colour) (x : Option Man) (test : Kind → Bool) (P : Kind → Type 0) → ((k : Kind) → Decides (test k) (P k)) →
    Decides (option_map_or (λ m. same_colour m.colour c && test m.kind) x false) ((k : Kind) × ((x ≡ Some (man c k)) × P k))
of-Decides c None test P each = (λ h. absurd (cc), λ h. let e = h.1.0 in absurd (cc))
of-Decides c (Some m) test P each =
    let both = Decides-and _ _ (same_colour-Decides m.colour c) (each m.kind) in (
      λ h. let (same, p) = both.0 h in (m.kind, ((λ i. Some (record { colour = same i; kind = m.kind })), p)),
      λ h. let (k, (e, p)) = h in let colour : m.colour ≡ c = cc in let kind : k ≡ m.kind = cc in both.1 (colour, rw kind at p),
    )

pub is_of-Decides : (c : Colour) (x : Option Man) → Decides (is_of c x) ((k : Kind) × (x ≡ Some (man c k)))
is_of-Decides c None = (λ h. absurd (cc), λ h. let e = h.1 in absurd (cc))
is_of-Decides c (Some m) = Decides-like (same_colour m.colour c) (λ h. (m.kind, λ i. Some (record { colour = h i; kind = m.kind }))) (λ h. let e = h.1 in cc) (same_colour-Decides m.colour c)

-- lists
pub any-Decides : {X : Type 0} (p : X → Bool) (P : X → Type 0) → ((x : X) → Decides (p x) (P x)) → (xs : List X) → Decides (list_any p xs) (Any P xs)
any-Decides p P each xs = (
  (λ h. let (k, x, less, at, e) = Any-from_list_any p xs h in (k, x, less, at, (each x).0 e)),
  (λ h. let (k, x, less, at, e) = h in list_any-from_Any p xs (k, x, less, at, (each x).1 e)),
)

all-Decides : {X : Type 0} (p : X → Bool) (P : X → Type 0) → ((x : X) → Decides (p x) (P x)) → (xs : List X) → Decides (list_all p xs) (All P xs)
all-Decides p P each xs = Decides-by_and p P (list_all p) each refl (λ x ys. refl) xs

some_below-Decides : (p : ℕ → Bool) (P : ℕ → Type 0) → ((k : ℕ) → Decides (p k) (P k)) → (n : ℕ) → Decides (some_below p n) ((k : ℕ) × (k < n) × P k)
unfolding some_below
some_below-Decides p P each n = Decides-below_or p P (some_below p) each refl (λ k. refl) n

-- steps and walks
pub leaps-Decides : (a b : ℕ) (o : Offset) → Decides (leaps_now a b o) (Leaps a b o)
unfolding leaps_now
leaps-Decides a b o = is_square-Decides b (shift o a)

walks_on-Decides : (men : Men) (o : Offset) (n b a : ℕ) (x : Option ℕ) → shift o a ≡ x → ((c : ℕ) → Decides (walks_now men o b n c) (Walk men o n c b))
    → Decides (option_map_or (λ c. is_none (man_at men c) && walks_now men o b n c) x false) (Walk men o (suc n) a b)
walks_on-Decides men o n b a None at rest = (λ h. absurd (cc), λ h. let e = h.1 in absurd (cc))
walks_on-Decides men o n b a (Some c) at rest =
    let both = Decides-and _ _ (is_none-Decides (man_at men c)) (rest c) in (
      λ h. let (empty, walk) = both.0 h in (c, at, empty, walk),
      λ h. let (d, e, empty, walk) = h in let same : d ≡ c = cc in both.1 (rw same at empty, rw same at walk),
    )

walks-Decides : (men : Men) (o : Offset) (n a b : ℕ) → Decides (walks_now men o b n a) (Walk men o n a b)
unfolding walks_now
walks-Decides men o zero a b = leaps-Decides a b o
walks-Decides men o (suc n) a b = walks_on-Decides men o n b a (shift o a) refl (λ c. walks-Decides men o n c b)

runs-Decides : (men : Men) (a b : ℕ) (o : Offset) → Decides (runs_now men a b o) (Runs men a b o)
unfolding runs_now
runs-Decides men a b o =
    Decides-like (runs_now men a b o) (λ h. (h.0, h.2)) (λ h. short-walk men o a b h)
    (some_below-Decides (λ n. walks_now men o b n a) (λ n. Walk men o n a b) (λ n. walks-Decides men o n a b) 8)

reaches-Decides : (men : Men) (c : Colour) (k : Kind) (a b : ℕ) → Decides (reaches_now men c k a b) (Reaches men c k a b)
reaches-Decides men c King a b = any-Decides (leaps_now a b) (Leaps a b) (leaps-Decides a b) king_steps
reaches-Decides men c Knight a b = any-Decides (leaps_now a b) (Leaps a b) (leaps-Decides a b) knight_steps
reaches-Decides men c Pawn a b = any-Decides (leaps_now a b) (Leaps a b) (leaps-Decides a b) (pawn_captures c)
reaches-Decides men c k a b = any-Decides (runs_now men a b) (Runs men a b) (runs-Decides men a b) (slides k)

-- attacks
pub attacks-Decides : (men : Men) (c : Colour) (s : ℕ) → Decides (attacks_now men c s) (Attacks men c s)
unfolding attacks_now
attacks-Decides men c s =
    Decides-like (attacks_now men c s)
    (λ h. let (a, less, (k, (stands, reaches))) = h in (k, record { from = a; on_board = less; stands = stands; reaches = reaches }))
    (λ h. let (k, f) = h in (f.from, f.on_board, (k, (f.stands, f.reaches))))
    (some_below-Decides (λ a. option_map_or (λ m. same_colour m.colour c && reaches_now men c m.kind a s) (man_at men a) false) _
    (λ a. of-Decides c (man_at men a) (λ k. reaches_now men c k a s) _ (λ k. reaches-Decides men c k a s)) 64)

pub in_check-Decides : (men : Men) (c : Colour) → Decides (in_check_now men c) (IsInCheck men c)
unfolding in_check_now
in_check-Decides men c =
    Decides-like (in_check_now men c)
    (λ h. let (s, less, here) = h in (s, here.0, here.1))
    (λ h. let (s, stands, attacked) = h in (s, reach-ends men (other c) attacked.0 attacked.1.from s attacked.1.reaches, (stands, attacked)))
    (some_below-Decides (λ s. is_man c King (man_at men s) && attacks_now men (other c) s) _
    (λ s. Decides-and _ _ (is_man-Decides c King (man_at men s)) (attacks-Decides men (other c) s)) 64)

-- the cases
no_own-Decides : (men : Men) (c : Colour) (s : ℕ) → Decides (not (is_of c (man_at men s))) (HasNoOwn men c s)
no_own-Decides men c s =
    Decides-like (not (is_of c (man_at men s))) (λ h k e. h (k, e)) (λ h e. h e.0 e.1) (Decides-not _ (is_of-Decides c (man_at men s)))

goes-Decides : (p : Setup) (k : Kind) (m : Move) → Decides (goes_plainly_now p k m) (GoesPlainly p k m)
goes-Decides p Pawn m =
    Decides-or _ _ (Decides-and _ _ (leaps-Decides m.from m.to (forward p.side)) (is_none-Decides (man_at p.board m.to)))
    (Decides-and _ _ (any-Decides _ _ (leaps-Decides m.from m.to) (pawn_captures p.side)) (is_of-Decides (other p.side) (man_at p.board m.to)))
goes-Decides p k m = Decides-and _ _ (reaches-Decides p.board p.side k m.from m.to) (no_own-Decides p.board p.side m.to)

case-Decides : (p : Setup) (m : Move) (e : Effect) → Decides (case_now p m e) (Case p m e)
case-Decides p m Plain =
    Decides-like (case_now p m Plain)
    (λ h. let (k, (stands, (goes, promotes))) = h in record { kind = k; stands = stands; goes = goes; promotes = promotes })
    (λ h. (h.kind, (h.stands, (h.goes, h.promotes))))
    (of-Decides p.side (man_at p.board m.from) (λ k. goes_plainly_now p k m && promotes_rightly p.side k m) _
    (λ k. Decides-and _ _ (goes-Decides p k m) (itself (promotes_rightly p.side k m))))
case-Decides p m Double = search (rules, is_man-Decides, walks-Decides, is_none-Decides, Decides-eqb, and_parts)
case-Decides p m Passing =
    Decides-like (case_now p m Passing)
    (λ h. record { stands = h.0; goes = h.1.0; target = h.1.1.0; empty = h.1.1.1.0; passed = h.1.1.1.1.0; promo = h.1.1.1.1.1 })
    (λ h. (h.stands, (h.goes, (h.target, (h.empty, (h.passed, h.promo))))))
    (Decides-and _ _ (is_man-Decides p.side Pawn (man_at p.board m.from)) (Decides-and _ _ (any-Decides _ _ (leaps-Decides m.from m.to) (pawn_captures p.side))
    (Decides-and _ _ (is_square-Decides m.to p.en_passant) (Decides-and _ _ (is_none-Decides (man_at p.board m.to))
    (Decides-and _ _ (is_man-Decides (other p.side) Pawn (man_at p.board (passed_square m))) (is_none-Decides m.promo))))))
case-Decides p m (Castle wing) =
    Decides-like (case_now p m (Castle wing))
    (λ h. record { stands = h.0; right = h.1.0; empty = h.1.1.0; safe = h.1.1.1.0; promo = h.1.1.1.1 })
    (λ h. (h.stands, (h.right, (h.empty, (h.safe, h.promo)))))
    (Decides-and _ _ (is_man-Decides p.side King (man_at p.board m.from)) (Decides-and _ _ (itself (has_right p.rights p.side wing))
    (Decides-and _ _ (all-Decides _ _ (λ s. is_none-Decides (man_at p.board s)) (between p.side wing))
    (Decides-and _ _ (all-Decides _ _ (λ s. Decides-not _ (attacks-Decides p.board (other p.side) s)) (king_path p.side wing)) (is_none-Decides m.promo)))))
case-Decides p m Null = search (rules, is_man-Decides, Decides-eqb, is_none-Decides, in_check-Decides, Decides-not, and_parts)

-- a move is legal exactly where the test passes
pub legal-Decides : (p : Setup) (m : Move) → Decides (legal_now p m) (Legal p m)
unfolding legal_now
legal-Decides p m =
    Decides-like (legal_now p m)
    (λ h. (after p m (effect_of p m), record { allowed = h.0; becomes = refl; safe = h.1 }))
    (λ h. (h.1.allowed, λ e. h.1.safe (subst (λ (q : Setup). IsInCheck q.board p.side) (sym h.1.becomes) e)))
    (Decides-and _ _ (case-Decides p m (effect_of p m)) (Decides-not _ (in_check-Decides (board_after p m (effect_of p m)) p.side)))

-- One man less makes one less of the ten counts.
use Rattle.chess_laws.proofs.Words.{◌≡◌, ℕ, ◌+◌, ◌-◌, ◌&&◌, is_none, Bool, true, false, cond, List, [], ◌∷◌, Option, Some, None, refl, sym, ◌∙◌, ap, arith, Colour, White, Black, Kind, King, Queen, Rook, Bishop, Knight, Pawn, Man, Move, Men, man_at, man, is_man, counts_of, count_of, fewer, OnTrue, OnFalse, and_parts, nat_tests, Setup, Effect, Passing, Castle, Null, takes_target, Sound, rook_home, rook_target, Case, Legal, effect_of, board_after, moved, count_by-le-length, ones-set_of}
use Rattle.chess_laws.proofs.Boards.{Goes, Goes-count, one_if, relocate}
use Rattle.chess_laws.proofs.Keeping.{castle-crossed, castle-rook_goes, castle-squares, length-moved}
use Rattle.chess_laws.proofs.Following.{Going, going}
use Rattle.chess_laws.proofs.Running.{is_none-Decides}
use Rattle.chess_laws.proofs.MovedKings.{legal-allowed}

-- ten counts, each by its colour and kind
abbrev ten : (Colour → Kind → ℕ) → List ℕ
ten f =
    f White Queen ∷ f White Rook ∷ f White Bishop ∷ f White Knight ∷ f White Pawn
    ∷ f Black Queen ∷ f Black Rook ∷ f Black Bishop ∷ f Black Knight ∷ f Black Pawn
    ∷ []

ten-fewer : (f : Colour → Kind → ℕ) (x : Option Man) → ten (λ c k. cond (is_man c k x) (f c k - 1) (f c k)) ≡ fewer (ten f) x
ten-fewer f None = refl
ten-fewer f (Some m) = by-man m.colour m.kind
  where
    by-man : (c : Colour) (k : Kind) → ten (λ d j. cond (is_man d j (Some (man c k))) (f d j - 1) (f d j)) ≡ fewer (ten f) (Some (man c k))
    by-man White King = refl
    by-man Black King = refl
    by-man c k = refl

one-fewer : (b : Bool) (one n before : ℕ) → n + one + one_if b ≡ before + one → n ≡ cond b (before - 1) before
one-fewer b one n before h = grind (arith, nat_tests)

-- a man that goes elsewhere and stays what it is takes one man from the counts at most
goes-counts : (men : Men) (a b : ℕ) (c : Colour) (k : Kind) → Goes men a b c k k → counts_of (relocate men a b (Some (man c k))) ≡ fewer (counts_of men) (man_at men b)
goes-counts men a b c k goes =
    let new = relocate men a b (Some (man c k)) in
    let each : (d : Colour) (j : Kind) → count_of new d j ≡ cond (is_man d j (man_at men b)) (count_of men d j - 1) (count_of men d j) =
    λ d j. one-fewer (is_man d j (man_at men b)) (one_if (is_man d j (Some (man c k)))) (count_of new d j) (count_of men d j) (Goes-count men a b c k k goes (is_man d j) refl) in
    (λ i. ten (λ d j. each d j i)) ∙ ten-fewer (count_of men) (man_at men b)

gone-counts : (p : Setup) (m : Move) → m.promo ≡ None → Going p m → counts_of (moved p m) ≡ fewer (counts_of p.board) (man_at p.board m.to)
gone-counts p m none g = rw (g.brings, g.stays none) (goes-counts p.board m.from m.to p.side g.kind (rw (g.stays none) at g.goes))

calm-counts : (p : Setup) (m : Move) (e : Effect) → Sound p → effect_of p m ≡ e → takes_target e ≡ true → m.promo ≡ None → Case p m e →
    counts_of (board_after p m e) ≡ fewer (counts_of p.board) (man_at p.board m.to)
calm-counts p m Passing sound is quiet none case = absurd (cc)
calm-counts p m (Castle wing) sound is quiet none case =
    let at = castle-squares p m wing case.stands is in
    let rook = castle-rook_goes p m wing sound (length-moved p m sound.squares) at case in
    goes-counts (moved p m) (rook_home p.side wing) (rook_target p.side wing) p.side Rook rook
    ∙ ap (fewer (counts_of (moved p m))) (castle-crossed p m wing at case)
    ∙ gone-counts p m none (going p m (Castle wing) sound is case (λ n. cc))
calm-counts p m Null sound is quiet none case = absurd (cc)
calm-counts p m e sound is quiet none case = gone-counts p m none (going p m e sound is case (λ n. cc))

-- the counts after a legal move: those before without the man on its target, or those of the board
pub counts-after : (p : Setup) (m : Move) (alone : Bool) (new : List ℕ) → Sound p → Legal p m → alone ≡ (takes_target (effect_of p m) && is_none m.promo) →
    OnTrue alone (new ≡ fewer (counts_of p.board) (man_at p.board m.to)) → OnFalse alone (new ≡ counts_of (board_after p m (effect_of p m))) →
    new ≡ counts_of (board_after p m (effect_of p m))
counts-after p m true new sound legal is one all =
    let both = and_parts (takes_target (effect_of p m)) (is_none m.promo) (sym is) in
    one ∙ sym (calm-counts p m (effect_of p m) sound refl both.0 ((is_none-Decides m.promo).0 both.1) (legal-allowed p m legal))
counts-after p m false new sound legal is one all = all

pub ruleset ones = (ones-set_of, count_by-le-length)

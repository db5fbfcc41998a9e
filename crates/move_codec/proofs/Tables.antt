-- Tests of all squares, and of all that steps lead to: what computing settles once for every board.
use Rattle.move_codec.proofs.Words.{◌≡◌, ℕ, zero, suc, ◌<◌, Bool, true, false, ◌&&◌, List, ◌∷◌, ◌++◌, Option, Some, None, inl, inr, sym, ◌∙◌, ap, subst, Any, list_all, agree_below, agree_below_at, and_parts, AllPass-from_list_all, Colour, Kind, King, Queen, Rook, Bishop, Knight, Pawn, Move, Men, Setup, Offset, shift, Leaps, Runs, Walk, king_steps, knight_steps, rook_steps, bishop_steps, forward, pawn_captures, GoesPlainly}

-- a test of every number below n
abbrev pub all_below : (ℕ → Bool) → ℕ → Bool
all_below test n = agree_below test (λ k. true) n

pub below : (test : ℕ → Bool) (n k : ℕ) → all_below test n ≡ true → k < n → test k ≡ true
below test n k all h = agree_below_at test (λ k. true) n k all h

-- what holds at some element of a list, all of which pass a test, holds at one that passes it
any_passes : (P : Offset → Type 0) (test : Offset → Bool) (os : List Offset) → list_all test os ≡ true → Any P os
    → (o : Offset) × ((test o ≡ true) × P o)
any_passes P test os all (k, o, less, at, p) = (o, (subst (λ (x : Offset). test x ≡ true) at (AllPass-from_list_all test os all k o less), p))

-- a test of the square that a step leads to, if it stays on the board
abbrev pub at_square : (ℕ → Bool) → Option ℕ → Bool
at_square test None = true
at_square test (Some b) = test b

-- a step from every square
unfoldable pub leaps_pass : (ℕ → ℕ → Bool) → Offset → Bool
leaps_pass test o = all_below (λ a. at_square (test a) (shift o a)) 64

pub leap-passes : (test : ℕ → ℕ → Bool) (o : Offset) (a b : ℕ) → leaps_pass test o ≡ true → a < 64 → Leaps a b o → test a b ≡ true
unfolding leaps_pass
leap-passes test o a b all h step = ap (at_square (test a)) (sym step) ∙ below (λ a. at_square (test a) (shift o a)) 64 a all h

leaps-pass : (test : ℕ → ℕ → Bool) (steps : List Offset) (a b : ℕ) → list_all (leaps_pass test) steps ≡ true → a < 64
    → Any (Leaps a b) steps → test a b ≡ true
leaps-pass test steps a b all h any =
    let some = any_passes (Leaps a b) (leaps_pass test) steps all any in
    leap-passes test some.0 a b some.1.0 h some.1.1

-- equal steps from a square to the edge, which is less than n of them away
abbrev pub goes_on : (ℕ → Bool) → (ℕ → Bool) → Option ℕ → Bool
goes_on test next None = true
goes_on test next (Some b) = test b && next b

unfoldable pub ray_passes : (ℕ → Bool) → Offset → ℕ → ℕ → Bool
ray_passes test o zero a = false
ray_passes test o (suc n) a = goes_on test (ray_passes test o n) (shift o a)

walk-passes : (test : ℕ → Bool) (men : Men) (o : Offset) (n far a b : ℕ) → Walk men o n a b → ray_passes test o far a ≡ true → test b ≡ true
unfolding ray_passes
walk-passes test men o n zero a b walk all = absurd (cc)
walk-passes test men o zero (suc far) a b walk all =
    (and_parts (test b) (ray_passes test o far b) (ap (goes_on test (ray_passes test o far)) (sym walk) ∙ all)).0
walk-passes test men o (suc n) (suc far) a b walk all =
    walk-passes test men o n far walk.0 b walk.3
    (and_parts (test walk.0) (ray_passes test o far walk.0) (ap (goes_on test (ray_passes test o far)) (sym walk.1) ∙ all)).1

unfoldable pub rays_pass : (ℕ → ℕ → Bool) → Offset → Bool
rays_pass test o = all_below (λ a. ray_passes (test a) o 8 a) 64

runs-pass : (test : ℕ → ℕ → Bool) (steps : List Offset) (men : Men) (a b : ℕ) → list_all (rays_pass test) steps ≡ true → a < 64
    → Any (Runs men a b) steps → test a b ≡ true
unfolding rays_pass
runs-pass test steps men a b all h any =
    let some = any_passes (Runs men a b) (rays_pass test) steps all any in
    walk-passes (test a) men some.0 some.1.1.0 8 a b some.1.1.1 (below (λ a. ray_passes (test a) some.0 8 a) 64 a some.1.0 h)

-- a plain move of a man of a kind from every square
unfoldable pub plain_pass : Colour → Kind → (ℕ → ℕ → Bool) → Bool
plain_pass side King test = list_all (leaps_pass test) king_steps
plain_pass side Queen test = list_all (rays_pass test) (rook_steps ++ bishop_steps)
plain_pass side Rook test = list_all (rays_pass test) rook_steps
plain_pass side Bishop test = list_all (rays_pass test) bishop_steps
plain_pass side Knight test = list_all (leaps_pass test) knight_steps
plain_pass side Pawn test = list_all (leaps_pass test) (forward side ∷ pawn_captures side)

pub across-passes : (side : Colour) (m : Move) (test : ℕ → ℕ → Bool) → plain_pass side Pawn test ≡ true → m.from < 64
    → Any (Leaps m.from m.to) (pawn_captures side) → test m.from m.to ≡ true
unfolding plain_pass
across-passes side m test all h any = leaps-pass test (pawn_captures side) m.from m.to (and_parts _ _ all).1 h any

pub plain-passes : (p : Setup) (kind : Kind) (m : Move) (test : ℕ → ℕ → Bool) → plain_pass p.side kind test ≡ true → m.from < 64
    → GoesPlainly p kind m → test m.from m.to ≡ true
unfolding plain_pass
plain-passes p King m test all h goes = leaps-pass test king_steps m.from m.to all h goes.0
plain-passes p Queen m test all h goes = runs-pass test (rook_steps ++ bishop_steps) p.board m.from m.to all h goes.0
plain-passes p Rook m test all h goes = runs-pass test rook_steps p.board m.from m.to all h goes.0
plain-passes p Bishop m test all h goes = runs-pass test bishop_steps p.board m.from m.to all h goes.0
plain-passes p Knight m test all h goes = leaps-pass test knight_steps m.from m.to all h goes.0
plain-passes p Pawn m test all h (inl ahead) = leap-passes test (forward p.side) m.from m.to (and_parts _ _ all).0 h ahead.0
plain-passes p Pawn m test all h (inr takes) = across-passes p.side m test all h takes.0

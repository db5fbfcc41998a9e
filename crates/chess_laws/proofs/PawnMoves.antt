-- A pawn that goes neither in passing nor to be promoted makes a plain move or a double step to each of its targets.
use Rattle.chess_laws.proofs.Words.{◌≡◌, ℕ, suc, inl, inr, Bool, true, false, ◌&&◌, is_none, Some, refl, sym, ap, arith, Any, ne_eqb, nat_tests, Colour, White, Black, Pawn, Plain, Men, man_at, man, other, Setup, Offset, rank_of, forward, pawn_captures, Leaps, Walk, changes_file, effect_as, option_map_or, goes_two, last_rank, promotes_rightly, Case, Known, PawnComes, PawnGoes, goes}
use Rattle.chess_laws.specs.Targets.{MayTake}
use Rattle.chess_laws.proofs.Boards.{man-colour}
use Rattle.chess_laws.proofs.Keeping.{other-apart}
use Rattle.chess_laws.proofs.Shifts.{shift-Some}

-- a pawn goes one rank forward, but two by a double step
one-rank : (c : Colour) (o : Offset) (a b : ℕ) → o.up ≡ (forward c).up → o.down ≡ (forward c).down → Leaps a b o → goes_two c (goes a b) ≡ false
one-rank White o a b up down h = let d = shift-Some o a b h in grind (arith, nat_tests)
one-rank Black o a b up down h = let d = shift-Some o a b h in grind (arith, nat_tests)

capture-two : (c : Colour) (a b : ℕ) → Any (Leaps a b) (pawn_captures c) → goes_two c (goes a b) ≡ false
capture-two White a b (suc (suc k), o, less, is, leap) = absurd (omega arith)
capture-two Black a b (suc (suc k), o, less, is, leap) = absurd (omega arith)
capture-two c a b (k, o, less, is, leap) = one-rank c o a b (ap (λ (x : Offset). x.up) (sym is)) (ap (λ (x : Offset). x.down) (sym is)) leap

double-two : (c : Colour) (men : Men) (a b : ℕ) → Walk men (forward c) 1 a b → goes_two c (goes a b) ≡ true
double-two White men a b (s, one, empty, two) = let d = shift-Some (forward White) a s one in let e = shift-Some (forward White) s b two in grind (arith, nat_tests)
double-two Black men a b (s, one, empty, two) = let d = shift-Some (forward Black) a s one in let e = shift-Some (forward Black) s b two in grind (arith, nat_tests)

-- forward it stays on its file
step-file : (c : Colour) (a b : ℕ) → Leaps a b (forward c) → changes_file (goes a b) ≡ false
step-file White a b h = let d = shift-Some (forward White) a b h in grind (arith, nat_tests)
step-file Black a b h = let d = shift-Some (forward Black) a b h in grind (arith, nat_tests)

and-second : (x y : Bool) → y ≡ false → (x && y) ≡ false
and-second x y h = grind (arith, nat_tests)

-- it names no promotion
no-promotion : (p : Setup) (a b : ℕ) → (rank_of b ≡ last_rank p.side → ⊥) → promotes_rightly p.side Pawn (goes a b) ≡ true
no-promotion p a b inside = rw (ne_eqb (rank_of b) (last_rank p.side) inside) refl

-- so the rules of its kind allow what it is
pawn-allowed : (p : Setup) (a b : ℕ) → man_at p.board a ≡ Some (man p.side Pawn) → PawnGoes p b → PawnComes p a b → Case p (goes a b) (effect_as Pawn p (goes a b))
unfolding MayTake
pawn-allowed p a b stands h (inl step) =
    rw (one-rank p.side (forward p.side) a b refl refl step.0, step-file p.side a b step.0)
    (record { kind = Pawn; stands = stands; goes = inl step; promotes = no-promotion p a b h.inside })
pawn-allowed p a b stands h (inr (inl (own, (walk, empty)))) =
    rw (double-two p.side p.board a b walk) (record { stands = stands; own_rank = own; walks = walk; target = empty; promo = refl })
pawn-allowed p a b stands h (inr (inr (capture, inl enemy))) =
    rw (capture-two p.side a b capture, and-second (changes_file (goes a b)) (is_none (man_at p.board b)) (ap is_none enemy.1))
    (record { kind = Pawn; stands = stands; goes = inr (capture, enemy); promotes = no-promotion p a b h.inside })
pawn-allowed p a b stands h (inr (inr (capture, inr passing))) = absurd (h.apart passing)

pawn-leaves : (p : Setup) (a b : ℕ) → man_at p.board a ≡ Some (man p.side Pawn) → PawnGoes p b → PawnComes p a b → b ≡ a → ⊥
unfolding MayTake
pawn-leaves p a b stands h (inl (leap, empty)) same = cc
pawn-leaves p a b stands h (inr (inl (own, (walk, empty)))) same = cc
pawn-leaves p a b stands h (inr (inr (capture, inl (k, enemy)))) same = other-apart p.side (sym (man-colour (other p.side) p.side k Pawn cc))
pawn-leaves p a b stands h (inr (inr (capture, inr passing))) same = h.apart passing

pub pawn-known : (p : Setup) (a b : ℕ) → man_at p.board a ≡ Some (man p.side Pawn) → PawnGoes p b → PawnComes p a b → Known p a b (effect_as Pawn p (goes a b))
pawn-known p a b stands h comes = record {
  effect = sym (ap (λ o. option_map_or (λ m. effect_as m.kind p (goes a b)) o Plain) stands);
  allowed = pawn-allowed p a b stands h comes;
  leaves = pawn-leaves p a b stands h comes;
  plain = λ may. h.inside may.last;
}

-- A walk over empty squares is at most seven steps long.
use Rattle.chess_laws.proofs.Words.{◌≡◌, ℕ, zero, suc, ◌+◌, ◌-◌, ◌<◌, ◌≤◌, inl, inr, Option, Some, None, is_none, refl, arith, Decides, cases_order, Colour, Kind, King, Knight, Pawn, Men, man_at, Offset, file_of, rank_of, shift, Walk, Runs, Reaches}
use Rattle.chess_laws.proofs.Shifts.{shift-Some}

pub is_none-Decides : {A : Type 0} (x : Option A) → Decides (is_none x) (x ≡ None)
is_none-Decides None = (λ h. refl, λ h. refl)
is_none-Decides (Some s) = (λ h. absurd (cc), λ h. absurd (cc))

-- a walk ends on the board
pub walk-ends : (men : Men) (o : Offset) (n a b : ℕ) → Walk men o n a b → b < 64
walk-ends men o zero a b walk = (shift-Some o a b walk).on_board
walk-ends men o (suc n) a b walk = walk-ends men o n walk.0 b walk.3

pub reach-ends : (men : Men) (c : Colour) (k : Kind) (a b : ℕ) → Reaches men c k a b → b < 64
reach-ends men c King a b (n, o, less, at, leap) = walk-ends men o zero a b leap
reach-ends men c Knight a b (n, o, less, at, leap) = walk-ends men o zero a b leap
reach-ends men c Pawn a b (n, o, less, at, leap) = walk-ends men o zero a b leap
reach-ends men c k a b (n, o, less, at, (m, walk)) = walk-ends men o m a b walk

-- a number that rises at each step of a walk, up to 8, so that the walk is short
rises : (men : Men) (o : Offset) (height : ℕ → ℕ) → ((x y : ℕ) → shift o x ≡ Some y → (height x < height y) × (height y ≤ 8)) →
    (n a b : ℕ) → Walk men o n a b → (height a + n < height b) × (height b ≤ 8)
rises men o height step zero a b walk = let one = step a b walk in (omega arith, one.1)
rises men o height step (suc n) a b walk =
    let one = step a walk.0 walk.1 in
    let rest = rises men o height step n walk.0 b walk.3 in
    (omega arith, rest.1)

-- steps that lead nowhere stay, and are found at once
still : (men : Men) (o : Offset) (n a b : ℕ) → o.left ≡ o.right → o.down ≡ o.up → Walk men o n a b → shift o a ≡ Some b
still men o zero a b files ranks walk = walk
still men o (suc n) a b files ranks (c, step, empty, walk) =
    let d = shift-Some o a c step in
    let same : c ≡ a = omega arith in
    rw same at (still men o n c b files ranks walk)

-- a walk over empty squares has fewer than eight squares between
pub short-walk : (men : Men) (o : Offset) (a b : ℕ) → Runs men a b o → (n : ℕ) × (n < 8) × Walk men o n a b
short-walk men o a b (n, walk) = elim (cases_order o.left o.right) [
  | inl files ↦ elim (cases_order o.down o.up) [
    | inl ranks ↦ (zero, omega arith, still men o n a b files ranks walk)
    | inr (inl net) ↦ (n, (let far = rises men o (λ x. rank_of x) (λ x y h. let d = shift-Some o x y h in (omega arith, omega arith)) n a b walk in omega arith), walk)
    | inr (inr net) ↦ (n, (let far = rises men o (λ x. 8 - rank_of x) (λ x y h. let d = shift-Some o x y h in (omega arith, omega arith)) n a b walk in omega arith), walk)
  ]
  | inr (inl net) ↦ (n, (let far = rises men o (λ x. file_of x) (λ x y h. let d = shift-Some o x y h in (omega arith, omega arith)) n a b walk in omega arith), walk)
  | inr (inr net) ↦ (n, (let far = rises men o (λ x. 8 - file_of x) (λ x y h. let d = shift-Some o x y h in (omega arith, omega arith)) n a b walk in omega arith), walk)
]

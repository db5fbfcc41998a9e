-- A step is two linear equations, of the files and of the ranks.
use Rattle.chess_laws.proofs.Words.{◌≡◌, ℕ, ◌+◌, ◌<◌, ◌≤◌, Option, Some, None, refl, sym, ap, arith, nat_tests, White, Black, Offset, forward, file_of, rank_of, square, line_at, option_and_then, option_map}
use Rattle.chess_laws.specs.Geometry.{shift}

-- a step leads from a to b where the files and the ranks differ by it
pub record Differ (o : Offset) (a b : ℕ) : Type 0 where
  pub files : file_of b + o.left ≡ file_of a + o.right
  pub ranks : rank_of b + o.down ≡ rank_of a + o.up
  pub on_board : b < 64

line_at-Some : (line up down : ℕ) (to : ℕ) → line_at line up down ≡ Some to → (to + down ≡ line + up) × (to < 8)
line_at-Some line up down to h = grind (arith, nat_tests)

line_at-on_board : (line up down to : ℕ) → to + down ≡ line + up → to < 8 → line_at line up down ≡ Some to
line_at-on_board line up down to h less = grind (arith, nat_tests)

square_at-Some : (file rank : Option ℕ) (b : ℕ) → option_and_then (λ f. option_map (square f) rank) file ≡ Some b → (f : ℕ) × (r : ℕ) × (file ≡ Some f) × (rank ≡ Some r) × (b ≡ square f r)
square_at-Some None rank b h = absurd (cc)
square_at-Some (Some f) None b h = absurd (cc)
square_at-Some (Some f) (Some r) b h = (f, r, refl, refl, cc)

-- what a step that stays on the board says
pub shift-Some : (o : Offset) (a b : ℕ) → shift o a ≡ Some b → Differ o a b
unfolding shift
shift-Some o a b h =
    let parts = square_at-Some (line_at (file_of a) o.right o.left) (line_at (rank_of a) o.up o.down) b h in
    let file = line_at-Some (file_of a) o.right o.left parts.0 parts.2 in
    let rank = line_at-Some (rank_of a) o.up o.down parts.1 parts.3 in
    let f : file_of b ≡ parts.0 = omega arith in
    let r : rank_of b ≡ parts.1 = omega arith in
    record { files = omega arith; ranks = omega arith; on_board = omega arith }

-- and that those equations are enough
pub shift-Differ : (o : Offset) (a b : ℕ) → Differ o a b → shift o a ≡ Some b
unfolding shift
shift-Differ o a b h =
    let file = line_at-on_board (file_of a) o.right o.left (file_of b) h.files (omega arith) in
    let rank = line_at-on_board (rank_of a) o.up o.down (rank_of b) h.ranks (omega arith) in
    rw (file, rank) (ap Some (omega arith))

-- A pawn's way: eight squares up the board or down, as far as it goes
none-such : (x : Option ℕ) → ((b : ℕ) → x ≡ Some b → ⊥) → None ≡ x
none-such None none = refl
none-such (Some b) none = absurd (none b refl)

pub ahead_up : (a : ℕ) → a < 56 → Some (a + 8) ≡ shift (forward White) a
ahead_up a less = sym (shift-Differ (forward White) a (a + 8) (record { files = omega arith; ranks = omega arith; on_board = omega arith }))

pub ahead_down : (a b : ℕ) → a < 64 → b + 8 ≡ a → Some b ≡ shift (forward Black) a
ahead_down a b less is = sym (shift-Differ (forward Black) a b (record { files = omega arith; ranks = omega arith; on_board = omega arith }))

pub edge_up : (a : ℕ) → 56 ≤ a → None ≡ shift (forward White) a
edge_up a far = none-such (shift (forward White) a) (λ b e. let d = shift-Some (forward White) a b e in omega arith)

pub edge_down : (a : ℕ) → a < 8 → None ≡ shift (forward Black) a
edge_down a near = none-such (shift (forward Black) a) (λ b e. let d = shift-Some (forward Black) a b e in omega arith)

-- The table of lines, which the code reads. No public contract cites these words.
use Rattle.std.specs.Prelude.{ℕ, ◌==◌, ◌&&◌, ◌||◌, not, nat_lt, Bool, true, false, List, Option, Some, None}
use Rattle.std.specs.Int.{bit_at}
use Rattle.std.proofs.lemmas.Bool.{agree_below}
use Rattle.chess_laws.specs.Geometry.{shift}
use Rattle.chess_laws.specs.LegalTests.{glides, line}
use Rattle.cell_core.specs.declared.man.Kind.{Kind}
use Rattle.chess_laws.specs.Leaps.{squares_of}
use Rattle.chess_laws.specs.Rays.{entry, offset_at}

-- Whether a table has, for each square, all on the lines by which a man of this kind slides.
abbrev pub is_seen : Kind → ℕ → Option ℕ → ℕ → Bool
is_seen slider squares None b = true
is_seen slider squares (Some row) b = not (glides slider row) || (bit_at squares b == 1)

unfoldable pub names_seen : List ℕ → Kind → Bool
names_seen table kind = agree_below (λ a. agree_below (λ b. is_seen kind (squares_of table a) (line a b) b) (λ b. true) 64) (λ a. true) 64

-- Whether the steps of a row lead to squares of greater numbers, and whether they come to a before b.
abbrev pub rises : ℕ → Bool
rises row = (row == 0) || ((row == 2) || ((row == 4) || (row == 5)))

abbrev pub before : Bool → ℕ → ℕ → Bool
before true a b = nat_lt a b
before false a b = nat_lt b a

-- Whether a word has a square.
abbrev pub has : ℕ → ℕ → Bool
has word s = bit_at word s == 1

-- Whether the step leads on, and whether a square is the next one or lies behind it.
abbrev pub is_after : Bool → ℕ → Option ℕ → Bool
is_after up a None = true
is_after up a (Some c) = before up a c

abbrev pub on_next : (ℕ → ℕ) → ℕ → Option ℕ → Bool
on_next ray b None = false
on_next ray b (Some c) = (c == b) || has (ray c) b

-- Whether a table has the squares to which steps of a row lead: the next one and those behind it, and of them behind each those
-- that come after it.
abbrev pub is_ray : List (List ℕ) → ℕ → ℕ → Bool
is_ray table row a =
    (nat_lt (entry table row a) 18446744073709551616 && is_after (rises row) a (shift (offset_at row) a))
    && (agree_below (has (entry table row a)) (λ b. on_next (entry table row) b (shift (offset_at row) a)) 64
    && agree_below (λ b. not (has (entry table row a) b) || agree_below (has (entry table row b)) (λ c. has (entry table row a) c && before (rises row) b c) 64) (λ b. true) 64)

unfoldable pub names_rays : List (List ℕ) → Bool
names_rays table = agree_below (λ row. agree_below (is_ray table row) (λ a. true) 64) (λ row. true) 8

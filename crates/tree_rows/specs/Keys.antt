-- The moves of a tree, and their order (this project's own).
use Rattle.std.specs.Prelude.{ℕ, ◌+◌, ◌*◌, Bool, List, [], ◌∷◌, Option, Some, None}
use Rattle.std.specs.declared.cmp.Ordering.{Ordering}
use Rattle.std.specs.Ordering.{nat_cmp, is_eq}
use Rattle.std.specs.Cmp.Lexicographic.{slice_cmp}
use Rattle.cell_core.specs.declared.step.Move.{Move}
use Rattle.chess_laws.specs.Moves.{promotion_number}

-- The key of a row is its move, or none for the row `end`. As numbers: 0, the two squares and the place of the promotion for a move,
-- and 1 for `end`, which stands after every move.
abbrev pub key_numbers : Option Move → List ℕ
key_numbers (Some m) = 0 ∷ m.from ∷ m.to ∷ promotion_number m.promo ∷ []
key_numbers None = 1 ∷ 0 ∷ 0 ∷ 0 ∷ []

-- Keys stand by the first square, then the target, then the promotion.
unfoldable pub key_cmp : Option Move → Option Move → Ordering
key_cmp a b = slice_cmp nat_cmp (key_numbers a) (key_numbers b)

-- The four numbers as the bytes of one. Only a private function cites this.
abbrev pub key_word : Option Move → ℕ
key_word (Some m) = 256 * (256 * m.from + m.to) + promotion_number m.promo
key_word None = 16777216

-- Whether two keys are the same.
abbrev pub same_key : Option Move → Option Move → Bool
same_key a b = is_eq (key_cmp a b)

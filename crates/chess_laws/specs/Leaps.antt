-- The tables of where men leap, which the code reads. No public contract cites these words.
use Rattle.std.specs.Prelude.{ℕ, ◌==◌, ◌&&◌, nat_lt, Bool, List, slice_index_or}
use Rattle.std.specs.Int.{bit_at}
use Rattle.std.specs.List.{list_any}
use Rattle.std.proofs.Common.{true}
use Rattle.std.proofs.lemmas.Bool.{agree_below}
use Rattle.chess_laws.specs.Geometry.{Offset}
use Rattle.chess_laws.specs.LegalNow.{leaps_now}

-- What a table says of a square.
abbrev pub squares_of : List ℕ → ℕ → ℕ
squares_of table a = slice_index_or table a 0

-- Whether a table has the squares to which one of the steps leads from each square, as bits.
unfoldable pub names_leaps : List ℕ → List Offset → Bool
names_leaps table steps =
    agree_below
    (λ a. nat_lt (squares_of table a) 18446744073709551616 && agree_below (λ b. bit_at (squares_of table a) b == 1) (λ b. list_any (leaps_now a b) steps) 64)
    (λ a. true) 64

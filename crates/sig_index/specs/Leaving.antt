-- Which pawns at home a move takes off their own squares, as the functions of this crate go through them.
use Rattle.std.specs.Prelude.{◌≡◌, ℕ, ◌+◌, ◌-◌, ◌==◌, ◌&&◌, ◌||◌, not, true, false, nat_le, nat_lt, if◌then◌else◌, All, Bool, List, [], ◌∷◌, slice_index_or}
use Rattle.std.specs.List.{filter}
use Rattle.cell_core.specs.declared.step.Move.{Move}
use Rattle.chess_laws.specs.Castling.{touches}
use Rattle.chess_laws.specs.Counts.{home_square, is_home}
use Rattle.chess_laws.specs.declared.setup.Setup.{Setup}
use Rattle.sig_index.specs.Signature.{all_homes}

-- The move neither begins nor ends at the own square of this value.
abbrev pub stays : Move → ℕ → Bool
stays m value = not (touches m (home_square value))

-- The values among some whose pawns stay by a move, and the others.
unfoldable pub staying : Move → List ℕ → List ℕ
staying m homes = filter (stays m) homes

unfoldable pub gone : Move → List ℕ → List ℕ
gone m homes = filter (λ value. not (stays m value)) homes

-- The pawns of all these values are at home.
abbrev pub AreHome : Setup → List ℕ → Type 0
AreHome p homes = All (λ value. is_home p.board value ≡ true) homes

-- The own squares of all these values are marked.
abbrev pub AreMarked : List Bool → List ℕ → Type 0
AreMarked marks homes = All (λ value. slice_index_or marks (home_square value) false ≡ true) homes

-- The values whose own squares are marked, in rising order.
unfoldable pub marked_homes : List Bool → List ℕ
marked_homes marks = filter (λ value. slice_index_or marks (home_square value) false) all_homes

-- Whether it is the own square of some pawn, and its value.
abbrev pub is_own : ℕ → Bool
is_own square = (nat_le 8 square && nat_lt square 16) || (nat_le 48 square && nat_lt square 56)

abbrev pub value_of : ℕ → ℕ
value_of square = if nat_lt square 16 then 23 - square else 55 - square

-- Own squares alone are marked, where the marks begin with that of this square.
abbrev pub are_own : ℕ → List Bool → Bool
are_own square [] = true
are_own square (mark ∷ marks) = (not mark || is_own square) && are_own (square + 1) marks

-- The values among some with this own square, and the others.
unfoldable pub at_square : ℕ → List ℕ → List ℕ
at_square square homes = filter (λ value. square == home_square value) homes

unfoldable pub off_square : ℕ → List ℕ → List ℕ
off_square square homes = filter (λ value. not (square == home_square value)) homes

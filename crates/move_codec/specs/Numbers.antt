-- Men's numbers (this project's own): a man's number is its place in the list of its side's squares.
use Rattle.std.specs.Prelude.{◌≡◌, ℕ, ◌+◌, ◌*◌, ◌≤◌, ◌==◌, nat_lt, if◌then◌else◌, IsTrue, List, [], ◌∷◌, ◌++◌, Some, length, slice_get, slice_set}
use Rattle.std.specs.List.{flat_map, fold, position_or_len, range_with_len, swap_remove}
use Rattle.cell_core.specs.declared.man.Colour.{Colour}
use Rattle.cell_core.specs.declared.man.Colour.TheVariants.{White, Black}
use Rattle.cell_core.specs.declared.man.Kind.TheVariants.{King}
use Rattle.cell_core.specs.declared.step.Move.{Move}
use Rattle.cell_core.specs.Board.{Men, man_at}
use Rattle.cell_core.specs.Man.{is_man, is_of, same_colour}
use Rattle.chess_laws.specs.declared.setup.Setup.{Setup}
use Rattle.chess_laws.specs.declared.effect.Effect.{Effect}
use Rattle.chess_laws.specs.declared.effect.Effect.TheVariants.{Passing, Castle}
use Rattle.chess_laws.specs.Castling.{rook_home, rook_target}
use Rattle.chess_laws.specs.Step.{effect_of, passed_square}
use Rattle.move_codec.specs.declared.numbers.Numbers.{Numbers}

-- A position with the numbered squares of both sides.
pub record Numbered : Type 0 where
  pub position : Setup
  pub numbers : Numbers

-- The numbered squares of a side.
abbrev pub squares_of : Colour → Numbers → List ℕ
squares_of White numbers = numbers.white
squares_of Black numbers = numbers.black

-- The number of the man on a square, or how many men there are if none of them stands there.
abbrev pub number_of : List ℕ → ℕ → ℕ
number_of squares square = position_or_len (λ s. s == square) squares

-- The numbers on two ranks that begin with these squares. The king on file e is 0, the men on the files a, b, c, d, f,
-- g, h of its rank are 1 to 7, and the pawns from file a to file h are 8 to 15.
abbrev pub start_ranks : ℕ → ℕ → List ℕ
start_ranks back pawns =
    (back + 4) ∷ back ∷ (back + 1) ∷ (back + 2) ∷ (back + 3) ∷ (back + 5) ∷ (back + 6) ∷ (back + 7)
    ∷ pawns ∷ (pawns + 1) ∷ (pawns + 2) ∷ (pawns + 3) ∷ (pawns + 4) ∷ (pawns + 5) ∷ (pawns + 6) ∷ (pawns + 7) ∷ []

-- The numbers at the standard start.
abbrev pub standard_numbers : Numbers
standard_numbers = record { white = start_ranks 0 8; black = start_ranks 56 48 }

-- All squares in the order of a FEN's placement: the eighth rank first, and each rank from file a.
abbrev pub text_squares : List ℕ
text_squares = flat_map (λ rank. range_with_len (8 * rank) 8) (7 ∷ 6 ∷ 5 ∷ 4 ∷ 3 ∷ 2 ∷ 1 ∷ 0 ∷ [])

-- A king is added: it takes the number 0, and the man that had it takes the next number.
abbrev pub with_king : List ℕ → ℕ → List ℕ
with_king [] square = square ∷ []
with_king (first ∷ rest) square = square ∷ (rest ++ first ∷ [])

-- What stands on the next square of the text is added, if it is of the side; any other man takes the next number.
abbrev pub with_square : Men → Colour → List ℕ → ℕ → List ℕ
with_square men side squares square =
    if is_man side King (man_at men square) then with_king squares square
    else if is_of side (man_at men square) then squares ++ square ∷ []
    else squares

-- The numbers of a side from a FEN, and of both sides.
unfoldable pub text_numbers_of : Men → Colour → List ℕ
text_numbers_of men side = fold (with_square men side) [] text_squares

abbrev pub text_numbers : Men → Numbers
text_numbers men = record { white = text_numbers_of men White; black = text_numbers_of men Black }

-- A man goes from a square to another, and keeps its number.
abbrev pub went : List ℕ → ℕ → ℕ → List ℕ
went squares from to = slice_set squares (number_of squares from) to

-- The man on a square is captured: the last man of the list takes its number.
abbrev pub without : List ℕ → ℕ → List ℕ
without squares captured =
    if nat_lt (number_of squares captured) (length squares)
    then swap_remove squares (number_of squares captured) captured
    else squares

-- The mover's squares after a move: castling takes the rook along.
abbrev pub movers_after : Colour → Move → Effect → List ℕ → List ℕ
movers_after side m (Castle wing) squares = went (went squares m.from m.to) (rook_home side wing) (rook_target side wing)
movers_after side m _ squares = went squares m.from m.to

-- The square on which a move captures, if it captures.
abbrev pub capture_square : Move → Effect → ℕ
capture_square m Passing = passed_square m
capture_square m _ = m.to

-- The squares of a colour after a move of this side: the mover's, or those of whom it captures.
abbrev pub squares_after : Colour → Colour → Move → Effect → List ℕ → List ℕ
squares_after colour side m effect squares =
    if same_colour colour side then movers_after side m effect squares else without squares (capture_square m effect)

-- The numbers after a move.
abbrev pub numbers_by : Colour → Move → Effect → Numbers → Numbers
numbers_by side m effect numbers =
    record {
      white = squares_after White side m effect numbers.white;
      black = squares_after Black side m effect numbers.black;
    }

abbrev pub numbers_after : Setup → Move → Numbers → Numbers
numbers_after p m numbers = numbers_by p.side m (effect_of p m) numbers

-- The list has the squares of a side's men, each once.
pub record IsNumbering (men : Men) (colour : Colour) (squares : List ℕ) : Type 0 where
  pub few : length squares ≤ 16
  pub held : (number square : ℕ) → slice_get squares number ≡ Some square → IsTrue (is_of colour (man_at men square))
  pub once : (first second square : ℕ) → slice_get squares first ≡ Some square → slice_get squares second ≡ Some square
      → first ≡ second
  pub whole : (square : ℕ) → IsTrue (is_of colour (man_at men square))
      → slice_get squares (number_of squares square) ≡ Some square

-- The king has the number 0.
abbrev pub HasKingFirst : Men → Colour → List ℕ → Type 0
HasKingFirst men colour squares =
    (square : ℕ) → IsTrue (is_man colour King (man_at men square)) → slice_get squares 0 ≡ Some square

-- Both lists have exactly the squares of their side's men, the king's first.
pub record AreNumbers (men : Men) (numbers : Numbers) : Type 0 where
  pub white : IsNumbering men White numbers.white
  pub black : IsNumbering men Black numbers.black
  pub white_king : HasKingFirst men White numbers.white
  pub black_king : HasKingFirst men Black numbers.black

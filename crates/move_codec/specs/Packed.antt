-- Packed moves (this project's own): a byte with the man's number in the high nibble and a value in the low one, and for
-- a queen's diagonal move a second byte.
use Rattle.std.specs.Prelude.{◌≡◌, ℕ, ◌+◌, ◌-◌, ◌*◌, ◌/◌, ◌%◌, ◌≤◌, ◌==◌, ◌&&◌, ◌||◌, not, nat_lt, nat_le, if◌then◌else◌, Bool, List, [], ◌∷◌, Option, Some, None, option_and_then, Result, Ok, Err, slice_get}
use Rattle.std.specs.List.{find, position_or_len}
use Rattle.cell_core.specs.declared.man.Colour.{Colour}
use Rattle.cell_core.specs.declared.man.Colour.TheVariants.{White, Black}
use Rattle.cell_core.specs.declared.man.Kind.{Kind}
use Rattle.cell_core.specs.declared.man.Kind.TheVariants.{King, Queen, Rook, Bishop, Knight, Pawn}
use Rattle.cell_core.specs.declared.man.Man.{Man}
use Rattle.cell_core.specs.declared.step.Move.{Move}
use Rattle.cell_core.specs.Board.{man_at}
use Rattle.chess_laws.specs.Geometry.{file_of, rank_of, square}
use Rattle.chess_laws.specs.Step.{Legal}
use Rattle.chess_laws.specs.LegalNow.{legal_now}
use Rattle.move_codec.specs.Numbers.{Numbered, squares_of, number_of}
use Rattle.move_codec.specs.declared.fault.MoveFault.{MoveFault}
use Rattle.move_codec.specs.declared.fault.MoveFault.TheVariants.{Short, NoMan, Value, Illegal}

-- The square that a value names.

-- A difference is written 64 + difference, since it may be below zero: the square whose number is greater by it, or none
-- if no square has that number.
abbrev pub at_difference : ℕ → ℕ → Option ℕ
at_difference from difference =
    if nat_le 64 (from + difference) && nat_lt (from + difference) 128 then Some (from + difference - 64) else None

-- King: 0 is the null move, -9, -8, -7, -1, 1, 7, 8, 9 are 1 to 8, and castling by -2 and 2 is 9 and 10.
abbrev pub king_differences : List ℕ
king_differences = 64 ∷ 55 ∷ 56 ∷ 57 ∷ 63 ∷ 65 ∷ 71 ∷ 72 ∷ 73 ∷ 62 ∷ 66 ∷ []

-- Knight: -17, -15, -10, -6, 6, 10, 15, 17 are 1 to 8; 0 is none (a difference of -64).
abbrev pub knight_differences : List ℕ
knight_differences = 0 ∷ 47 ∷ 49 ∷ 54 ∷ 58 ∷ 70 ∷ 74 ∷ 79 ∷ 81 ∷ []

-- The square that a value names by its difference.
abbrev pub by_difference : List ℕ → ℕ → ℕ → Option ℕ
by_difference differences from value = option_and_then (λ difference. at_difference from difference) (slice_get differences value)

-- A square of this file and rank, or none if the rank is none or the square is the man's own.
abbrev pub other_square : ℕ → ℕ → ℕ → Option ℕ
other_square from file rank =
    if nat_lt rank 8 && not (square file rank == from) then Some (square file rank) else None

-- Rook, and queen along a line: the target's file if the rank stays, else 8 + the target's rank.
abbrev pub on_line : ℕ → ℕ → Option ℕ
on_line from value =
    if nat_lt value 8 then other_square from value (rank_of from) else other_square from (file_of from) (value - 8)

-- The square of this file whose rank is the one number less the other, by the same rules.
abbrev pub on_file : ℕ → ℕ → ℕ → ℕ → Option ℕ
on_file from file sum less = if nat_le less sum then other_square from file (sum - less) else None

-- Bishop: the target's file if rank less file stays, or 8 + the target's file if rank plus file stays.
abbrev pub on_diagonal : ℕ → ℕ → Option ℕ
on_diagonal from value =
    if nat_lt value 8
    then on_file from value (rank_of from + value) (file_of from)
    else on_file from (value - 8) (rank_of from + file_of from) (value - 8)

-- Pawn: a difference in the side's direction, up the board for White and down for Black.
abbrev pub ahead : Colour → ℕ → ℕ → Option ℕ
ahead White from difference = at_difference from (64 + difference)
ahead Black from difference = at_difference from (64 - difference)

-- 0, 1, 2 are the differences 7, 8, 9, with 3, 6, 9 and 12 more for a promotion; 15 is two squares.
abbrev pub pawn_square : Colour → ℕ → ℕ → Option ℕ
pawn_square side from value = if value == 15 then ahead side from 16 else ahead side from (7 + value % 3)

-- What a promotion adds to a pawn's value.
abbrev pub promotion_value : Option Kind → ℕ
promotion_value (Some Queen) = 3
promotion_value (Some Rook) = 6
promotion_value (Some Bishop) = 9
promotion_value (Some Knight) = 12
promotion_value _ = 0

-- The man that a pawn becomes: 3 to 5 a queen, 6 to 8 a rook, 9 to 11 a bishop, 12 to 14 a knight.
abbrev pub promotion : ℕ → Option Kind
promotion value = find (λ kind. 3 * (value / 3) == promotion_value (Some kind)) (Queen ∷ Rook ∷ Bishop ∷ Knight ∷ [])

-- The second byte of a queen's diagonal move: 64 + the target, which is another square of one of its diagonals.
abbrev pub gap : ℕ → ℕ → ℕ
gap a b = (a - b) + (b - a)

abbrev pub is_diagonal : ℕ → ℕ → Bool
is_diagonal from to = not (to == from) && (gap (file_of from) (file_of to) == gap (rank_of from) (rank_of to))

abbrev pub diagonal_square : ℕ → ℕ → Option ℕ
diagonal_square from byte =
    if nat_le 64 byte && nat_lt byte 128 && is_diagonal from (byte - 64) then Some (byte - 64) else None

-- The move that bytes name.

-- A move to the square that a value names, with the number of its bytes, or the fault if the value names none.
abbrev pub to_square : ℕ → Option Kind → ℕ → Option ℕ → Result (Move × ℕ) MoveFault
to_square from promo bytes None = Err Value
to_square from promo bytes (Some to) = Ok (record { «from» = from; to = to; promo = promo }, bytes)

-- A queen's diagonal move, by the bytes after its first.
abbrev pub diagonal_move : ℕ → List ℕ → Result (Move × ℕ) MoveFault
diagonal_move from [] = Err Short
diagonal_move from (byte ∷ rest) = to_square from None 2 (diagonal_square from byte)

-- The move of a man of this kind and side on a square, by its value and the bytes after it. A queen's value that is its
-- own file opens a diagonal move.
unfoldable pub named_value : Kind → Colour → ℕ → ℕ → List ℕ → Result (Move × ℕ) MoveFault
named_value King side from value rest = to_square from None 1 (by_difference king_differences from value)
named_value Queen side from value rest =
    if value == file_of from then diagonal_move from rest else to_square from None 1 (on_line from value)
named_value Rook side from value rest = to_square from None 1 (on_line from value)
named_value Bishop side from value rest = to_square from None 1 (on_diagonal from value)
named_value Knight side from value rest = to_square from None 1 (by_difference knight_differences from value)
named_value Pawn side from value rest = to_square from (promotion value) 1 (pawn_square side from value)

abbrev pub named_by : Option Man → Colour → ℕ → ℕ → List ℕ → Result (Move × ℕ) MoveFault
named_by None side from value rest = Err NoMan
named_by (Some man) side from value rest = named_value man.kind side from value rest

-- The move of the man with a number, by its square.
abbrev pub named_from : Numbered → Option ℕ → ℕ → List ℕ → Result (Move × ℕ) MoveFault
named_from n None value rest = Err NoMan
named_from n (Some from) value rest = named_by (man_at n.position.board from) n.position.side from value rest

-- The move that the first bytes of a list name, and how many they are, or why they name none: legality apart.
abbrev pub named : Numbered → List ℕ → Result (Move × ℕ) MoveFault
named n [] = Err Short
named n (byte ∷ rest) = named_from n (slice_get (squares_of n.position.side n.numbers) (byte / 16)) (byte % 16) rest

-- What the first bytes of a list decode to: the legal move that they name and their number, or the first fault.
abbrev pub Decodes : Numbered → List ℕ → Result (Move × ℕ) MoveFault → Type 0
Decodes n bytes (Ok decoded) = (named n bytes ≡ Ok decoded) × Legal n.position decoded.0
Decodes n bytes (Err Short) = named n bytes ≡ Err Short
Decodes n bytes (Err NoMan) = named n bytes ≡ Err NoMan
Decodes n bytes (Err Value) = named n bytes ≡ Err Value
Decodes n bytes (Err Illegal) =
    (decoded : Move × ℕ) × ((named n bytes ≡ Ok decoded) × (Legal n.position decoded.0 → ⊥))

-- The same, computed: a move that the bytes name counts if it is legal.
abbrev pub judged : Numbered → Result (Move × ℕ) MoveFault → Result (Move × ℕ) MoveFault
judged n (Ok decoded) = if legal_now n.position decoded.0 then Ok decoded else Err Illegal
judged n (Err fault) = Err fault

unfoldable pub decoded : Numbered → List ℕ → Result (Move × ℕ) MoveFault
decoded n bytes = judged n (named n bytes)

-- If two of these bytes are a move, the second is at least 64, as no first byte need be.
abbrev pub HasHighSecond : List ℕ → ℕ → Type 0
HasHighSecond bytes size = (byte : ℕ) → size ≡ 2 → slice_get bytes 1 ≡ Some byte → 64 ≤ byte

-- The bytes of a move.

-- The value of a difference.
abbrev pub difference_value : List ℕ → Move → ℕ
difference_value differences m = position_or_len (λ difference. difference == 64 + m.to - m.from) differences

-- Along a line: the target's file if the rank stays, else 8 + the target's rank.
abbrev pub line_value : Move → ℕ
line_value m = if rank_of m.to == rank_of m.from then file_of m.to else 8 + rank_of m.to

-- Along a diagonal: the target's file if rank less file stays, else 8 + the target's file.
abbrev pub diagonal_value : Move → ℕ
diagonal_value m = if rank_of m.to + file_of m.from == rank_of m.from + file_of m.to then file_of m.to else 8 + file_of m.to

abbrev pub pawn_value : Move → ℕ
pawn_value m = if gap m.from m.to == 16 then 15 else gap m.from m.to - 7 + promotion_value m.promo

-- Whether a queen goes along a line.
abbrev pub is_line : Move → Bool
is_line m = (rank_of m.to == rank_of m.from) || (file_of m.to == file_of m.from)

-- The value of the first byte, and the bytes after it.
unfoldable pub value_of : Kind → Move → ℕ
value_of King m = difference_value king_differences m
value_of Queen m = if is_line m then line_value m else file_of m.from
value_of Rook m = line_value m
value_of Bishop m = diagonal_value m
value_of Knight m = difference_value knight_differences m
value_of Pawn m = pawn_value m

unfoldable pub rest_of : Kind → Move → List ℕ
rest_of Queen m = if is_line m then [] else (64 + m.to) ∷ []
rest_of _ m = []

abbrev pub encoding_by : Option Man → ℕ → Move → List ℕ
encoding_by None number m = []
encoding_by (Some man) number m = (16 * number + value_of man.kind m) ∷ rest_of man.kind m

-- The bytes of a move.
abbrev pub encoding : Numbered → Move → List ℕ
encoding n m = encoding_by (man_at n.position.board m.from) (number_of (squares_of n.position.side n.numbers) m.from) m

-- Bytes that no packed move begins with: number 0 is the king's, whose values end at 10. Records use them as marks.
abbrev pub is_mark : ℕ → Bool
is_mark byte = nat_le 11 byte && nat_le byte 15

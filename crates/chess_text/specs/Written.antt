-- The written form of Forsyth-Edwards Notation: one text for each position (PGN standard, 16.1).
use Rattle.std.specs.Prelude.{ℕ, zero, suc, ◌+◌, ◌*◌, List, [], ◌∷◌, ◌++◌, Option, Some, None, take, drop, cond, Bool}
use Rattle.std.specs.Option.{option_map_or}
use Rattle.std.specs.Char.{IsAsciiDigit}
use Rattle.cell_core.specs.Board.{Men}
use Rattle.chess_laws.specs.declared.setup.Rights.{Rights}
use Rattle.chess_laws.specs.declared.setup.Setup.{Setup}
use Rattle.chess_text.specs.Letters.{letter_of}
use Rattle.chess_text.specs.Fields.{or_word, side_text}
use Rattle.chess_text.specs.Squares.{square_text}

-- A run of so many empty squares as one digit, and nothing for none.
abbrev pub run_text : ℕ → List ℕ
run_text zero = []
run_text (suc n) = (48 + suc n) ∷ []

-- A row of squares behind so many empty ones: each longest run of empty squares is one digit (PGN standard, 16.1.3.1).
abbrev pub row_text : ℕ → Men → List ℕ
row_text empty [] = run_text empty
row_text empty (None ∷ squares) = row_text (suc empty) squares
row_text empty (Some man ∷ squares) = run_text empty ++ letter_of man ∷ row_text 0 squares

-- The ranks from rank n + 1 down to the first, with / between them.
unfoldable pub ranks_text : ℕ → Men → List ℕ
ranks_text zero board = row_text 0 (take 8 board)
ranks_text (suc n) board = row_text 0 (take 8 (drop (8 * suc n) board)) ++ 47 ∷ ranks_text n board

-- The placement: eight ranks from the eighth down.
abbrev pub placement_text : Men → List ℕ
placement_text board = ranks_text 7 board

-- A letter if the right is there.
abbrev pub letter_where : Bool → ℕ → List ℕ
letter_where right letter = cond right (letter ∷ []) []

-- The castling rights in the order K, Q, k, q, or a dash for none (PGN standard, 16.1.3.3).
unfoldable pub rights_text : Rights → List ℕ
rights_text rights =
    or_word (letter_where rights.white_king_side 75 ++ (letter_where rights.white_queen_side 81
    ++ (letter_where rights.black_king_side 107 ++ letter_where rights.black_queen_side 113))) (45 ∷ [])

-- The en passant square, or a dash for none (PGN standard, 16.1.3.4).
abbrev pub en_passant_text : Option ℕ → List ℕ
en_passant_text square = option_map_or square_text square (45 ∷ [])

-- All six fields with one space between two of them; the counters are 0 and 1.
unfoldable pub fen_text : Setup → List ℕ
fen_text p =
    placement_text p.board ++ 32 ∷ (side_text p.side ++ 32 ∷ (rights_text p.rights ++ 32 ∷ (en_passant_text p.en_passant
    ++ 32 ∷ 48 ∷ 32 ∷ 49 ∷ [])))

-- A byte and the one behind it are not both digits.
abbrev pub NotBothDigits : ℕ → List ℕ → Type 0
NotBothDigits byte [] = Unit {0}
NotBothDigits byte (next ∷ text) = IsAsciiDigit byte → IsAsciiDigit next → ⊥

-- No two digits stand side by side: each run of empty squares is written whole.
abbrev pub HasDigitsApart : List ℕ → Type 0
HasDigitsApart [] = Unit {0}
HasDigitsApart (byte ∷ text) = NotBothDigits byte text × HasDigitsApart text

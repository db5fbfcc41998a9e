-- What the reader of a placement answers (PGN standard, 16.1.3.1).
use Rattle.std.specs.Prelude.{ℕ, ◌+◌, ◌-◌, ◌*◌, ◌==◌, ◌&&◌, List, [], ◌∷◌, Option, Some, None, cond, nat_lt, nat_le, option_and_then, slice_set, replicate}
use Rattle.cell_core.specs.declared.man.Man.{Man}
use Rattle.cell_core.specs.Board.{Men}
use Rattle.chess_text.specs.LetterReading.{man_named}

-- A board that is being filled from the eighth rank down, and the square that comes next: file 8 is the end of a rank.
pub record Place : Type 0 where
  pub rank : ℕ
  pub file : ℕ
  pub board : Men

-- After n empty squares, if they fit into the rank.
unfoldable pub after_empty : ℕ → Place → Option Place
after_empty n place = cond (nat_le (place.file + n) 8) (Some (record place { file = place.file + n })) None

-- After a man, if the rank has a square for it.
unfoldable pub after_man : Man → Place → Option Place
after_man man place =
    cond (nat_lt place.file 8)
    (Some (record place { file = place.file + 1; board = slice_set place.board (8 * place.rank + place.file) (Some man) }))
    None

-- After the end of a rank, if the rank is full and there is a rank below.
unfoldable pub after_slash : Place → Option Place
after_slash place = cond (place.file == 8 && nat_lt 0 place.rank) (Some (record place { rank = place.rank - 1; file = 0 })) None

-- After a byte that may be a man's letter.
abbrev pub after_letter : Option Man → ℕ → Place → Option Place
after_letter (Some man) byte place = after_man man place
after_letter None byte place = cond (nat_lt 48 byte && nat_lt byte 57) (after_empty (byte - 48) place) None

-- After one byte of the text.
unfoldable pub after : ℕ → Place → Option Place
after byte place = cond (byte == 47) (after_slash place) (after_letter (man_named byte) byte place)

-- The board after the whole text, if all eight ranks are full.
abbrev pub filled : List ℕ → Place → Option Men
filled [] place = cond (place.rank == 0 && place.file == 8) (Some place.board) None
filled (byte ∷ text) place = option_and_then (filled text) (after byte place)

-- The board that a text fills from the eighth rank down.
unfoldable pub board_named : List ℕ → Option Men
board_named text = filled text (record { rank = 7; file = 0; board = replicate 64 None })

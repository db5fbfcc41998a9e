-- Where those fields of an entry stand that are cited more than once; the others are said where an entry is read (Scid's format si4,
-- version 400; the codes this project's own). `bits byte skipped count` are bits of what begins at a byte, from its highest bit on.
use Rattle.std.specs.Prelude.{ℕ, ◌*◌, List}
use Rattle.index_entry.specs.Bits.{bits}

-- 6: bit 6 is spare, bits 0 to 5 are the custom marks.
unfoldable pub spare : List ℕ
spare = bits 6 1 1

-- 21, 22: the counts. Bits 12 to 15 are the result.
unfoldable pub outcome : List ℕ
outcome = bits 21 0 4

-- 23, 24: the ECO code.
unfoldable pub eco : List ℕ
eco = bits 23 0 16

-- The dates: the high 12 bits are the event date, 3 bits for its year, 4 for the month, 5 for the day.
unfoldable pub event_code : List ℕ
event_code = bits 25 0 3

unfoldable pub event_month : List ℕ
event_month = bits 25 3 4

unfoldable pub event_day : List ℕ
event_day = bits 25 7 5

-- 29, 30: White's rating. The high 4 bits are its kind, the low 12 its value.
unfoldable pub white_kind : List ℕ
white_kind = bits 29 0 4

unfoldable pub white_value : List ℕ
white_value = bits 29 4 12

-- 31, 32: Black's rating.
unfoldable pub black_kind : List ℕ
black_kind = bits 31 0 4

unfoldable pub black_value : List ℕ
black_value = bits 31 4 12

-- 33: the code of a stored line, which is not used.
unfoldable pub stored_line : List ℕ
stored_line = bits 33 0 8

-- 38: the number of home values in bits 0 to 5.
unfoldable pub home_count : List ℕ
home_count = bits 38 2 6

-- 39 to 46: a home value in each nibble, the high nibble first.
unfoldable pub home_value : ℕ → List ℕ
home_value i = bits 39 (4 * i) 4

-- Places in a text: lines from 1 by line feeds, columns from 1 by bytes (this project's own).
use Rattle.std.specs.Prelude.{ℕ, ◌+◌, ◌-◌, ◌^◌, ◌==◌, if◌then◌else◌, min}
use Rattle.pgn_read.specs.declared.place.Place.{Place}

-- The next number of a line or a column, which stands still at the greatest of 32 bits.
abbrev pub next_number : ℕ → ℕ
next_number number = min (number + 1) (2 ^ 32 - 1)

-- The place behind a byte: a line feed ends its line.
abbrev pub next_place : Place → ℕ → Place
next_place place byte =
    if byte == 10 then record { line = next_number place.line; column = 1 } else record { line = place.line; column = next_number place.column }

-- The place of a text's first byte.
abbrev pub first_place : Place
first_place = record { line = 1; column = 1 }

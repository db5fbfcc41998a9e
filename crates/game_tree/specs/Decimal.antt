-- Numbers in decimal digits, with leading zeros or without (PGN standard, 8.1.1.3 and 9.1.2, for dates and ratings).
use Rattle.std.specs.Prelude.{◌≡◌, ℕ, ◌+◌, ◌-◌, ◌*◌, ◌&&◌, nat_le, if◌then◌else◌, List, ◌++◌, length, replicate, fold, Option, Some, None}
use Rattle.std.specs.List.{list_all}
use Rattle.std.specs.Char.{is_ascii_digit}
use Rattle.std.specs.Fmt.{decimal}

-- The number that decimal digits write.
abbrev pub decimal_value : List ℕ → ℕ
decimal_value digits = fold (λ number digit. 10 * number + (digit - 48)) 0 digits

-- The number that a text reads as: one digit or more, and a number of at most the limit.
unfoldable pub decimal_read : ℕ → List ℕ → Option ℕ
decimal_read limit text =
    if nat_le 1 (length text) && list_all is_ascii_digit text && nat_le (decimal_value text) limit
    then Some (decimal_value text)
    else None

-- The text is that of the number behind some zeros.
abbrev pub IsPadded : List ℕ → ℕ → Type 0
IsPadded text number = (zeros : ℕ) × (text ≡ replicate zeros 48 ++ decimal number)

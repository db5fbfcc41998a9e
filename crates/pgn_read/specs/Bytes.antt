-- The kinds of bytes of which tokens are made, and runs of them (PGN standard, 7).
use Rattle.std.specs.Prelude.{ℕ, ◌==◌, nat_le, Bool, true, false, not, ◌&&◌, ◌||◌, if◌then◌else◌, List, [], ◌∷◌}
use Rattle.std.specs.List.{list_any}
use Rattle.std.specs.Char.{is_ascii_alphabetic, is_ascii_digit}
use Rattle.game_tree.specs.TagName.{is_tag_byte}
use Rattle.pgn_read.specs.declared.run.Run.{Run}
use Rattle.pgn_read.specs.declared.run.Run.TheVariants as run

-- White space: the bytes 9 to 13 and 32.
abbrev pub is_white : ℕ → Bool
is_white byte = (byte == 32) || (nat_le 9 byte && nat_le byte 13)

-- A byte of a move's text: a letter, a digit, or one of `+ # = - :` (PGN standard, 8.2.3, and this project's own).
abbrev pub is_move_byte : ℕ → Bool
is_move_byte byte =
    is_ascii_alphabetic byte || is_ascii_digit byte
    || (byte == 43) || (byte == 35) || (byte == 61) || (byte == 45) || (byte == 58)

-- A byte of a suffix: `!` or `?` (PGN standard, 8.2.3.8).
abbrev pub is_glyph : ℕ → Bool
is_glyph byte = (byte == 33) || (byte == 63)

abbrev pub has_zero : List ℕ → Bool
has_zero text = list_any (λ byte. byte == 0) text

-- The longest run of such bytes at a text's beginning, and what stands behind it.
abbrev pub front : (ℕ → Bool) → List ℕ → List ℕ
front test [] = []
front test (byte ∷ text) = if test byte then byte ∷ front test text else []

abbrev pub behind : (ℕ → Bool) → List ℕ → List ℕ
behind test [] = []
behind test (byte ∷ text) = if test byte then behind test text else byte ∷ text

-- Whether the text begins with this form.
abbrev pub begins : List ℕ → List ℕ → Bool
begins [] text = true
begins (first ∷ form) [] = false
begins (first ∷ form) (byte ∷ text) = (byte == first) && begins form text

-- The bytes of a run.
abbrev pub is_of : Run → ℕ → Bool
is_of run.White = is_white
is_of run.TagName = is_tag_byte
is_of run.Digits = is_ascii_digit
is_of run.Dots = λ byte. byte == 46
is_of run.Glyphs = is_glyph
is_of run.Move = is_move_byte
is_of run.ToBrace = λ byte. not (byte == 125)
is_of run.ToFeed = λ byte. not (byte == 10)
is_of run.ToZero = λ byte. not (byte == 0)

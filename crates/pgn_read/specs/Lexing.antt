-- The token at a place of a text: each is told by its first byte, but for what begins with a digit (PGN standard, 7 and 8.2).
use Rattle.std.specs.Prelude.{ℕ, ◌-◌, ◌==◌, Bool, not, if◌then◌else◌, List, [], ◌∷◌, length, drop, option_map, codes}
use Rattle.std.specs.List.{position_from}
use Rattle.std.specs.Str.Lines.{strip_carriage_return}
use Rattle.std.specs.Option.{unwrap_or}
use Rattle.std.specs.Str.{bytes_eq}
use Rattle.std.specs.Char.{is_ascii_digit}
use Rattle.game_tree.specs.declared.head.Outcome.TheVariants.{White, Black, Draw, Unknown}
use Rattle.game_tree.specs.Decimal.{decimal_read}
use Rattle.pgn_read.specs.Bytes.{is_move_byte, is_glyph, has_zero, front, behind, begins}
use Rattle.pgn_read.specs.Token.{Token, comment, open_comment, nag, opens, closes, ending, number, move, bad, the_end, Lexed, lexed_as}
use Rattle.pgn_read.specs.TagText.{tag_from}

-- A run of such bytes makes a token.
abbrev pub run_from : (ℕ → Bool) → (List ℕ → Token) → List ℕ → Lexed
run_from test make text = lexed_as (make (front test text)) (behind test text)

-- No byte of a comment is zero.
abbrev pub comment_of : List ℕ → Token
comment_of text = if has_zero text then bad else comment text

-- A comment in braces, from behind the opening one: it goes to the next closing brace (PGN standard, 5).
abbrev pub braced : List ℕ → List ℕ → Lexed
braced text [] = lexed_as open_comment []
braced text (brace ∷ rest) = lexed_as (comment_of text) rest

abbrev pub brace_from : List ℕ → Lexed
brace_from text = braced (front (λ byte. not (byte == 125)) text) (behind (λ byte. not (byte == 125)) text)

-- The suffixes that stand for the first six NAGs, in their order (PGN standard, 8.2.3.8 and 10).
abbrev pub suffixes : List (List ℕ)
suffixes = codes "!" ∷ codes "?" ∷ codes "!!" ∷ codes "??" ∷ codes "!?" ∷ codes "?!" ∷ []

unfoldable pub suffix_of : List ℕ → Token
suffix_of glyphs = unwrap_or (option_map nag (position_from (bytes_eq glyphs) 1 suffixes)) bad

-- A number of a move with any dots, or dots alone (PGN standard, 8.2.2).
abbrev pub number_from : List ℕ → Lexed
number_from text = lexed_as number (behind (λ byte. byte == 46) (behind is_ascii_digit text))

-- What begins with a digit: the longest end mark that fits (PGN standard, 8.2.6; `1/2` is this project's own), castling in
-- digits, or a number.
unfoldable pub digit_from : List ℕ → Lexed
digit_from text =
    if begins (codes "1-0") text then lexed_as (ending White) (drop 3 text)
    else if begins (codes "0-1") text then lexed_as (ending Black) (drop 3 text)
    else if begins (codes "1/2-1/2") text then lexed_as (ending Draw) (drop 7 text)
    else if begins (codes "1/2") text then lexed_as (ending Draw) (drop 3 text)
    else if begins (codes "0-0") text then run_from is_move_byte move text
    else number_from text

-- What begins with one of many bytes.
abbrev pub by_kind : ℕ → List ℕ → List ℕ → Lexed
by_kind byte text behind_it =
    if is_glyph byte then run_from is_glyph suffix_of text
    else if is_ascii_digit byte then digit_from text
    else if is_move_byte byte then run_from is_move_byte move text
    else lexed_as bad behind_it

-- The token at the beginning of a text. Behind a semicolon a comment goes to the end of its line, without a last
-- carriage return (PGN standard, 5). Behind a dollar sign stands a NAG, which is a number of 0 to 255 (8.2.4). What
-- begins with a letter is the text of a move (8.2.3).
unfoldable pub lexed : List ℕ → Lexed
lexed [] = lexed_as the_end []
lexed (byte ∷ text) =
    if byte == 91 then tag_from text
    else if byte == 123 then brace_from text
    else if byte == 59 then run_from (λ byte. not (byte == 10)) (λ line. comment_of (strip_carriage_return line)) text
    else if byte == 36 then run_from is_ascii_digit (λ digits. unwrap_or (option_map nag (decimal_read 255 digits)) bad) text
    else if byte == 40 then lexed_as opens text
    else if byte == 41 then lexed_as closes text
    else if byte == 42 then lexed_as (ending Unknown) text
    else if byte == 46 then number_from (byte ∷ text)
    else by_kind byte (byte ∷ text) text

-- How many bytes it has.
abbrev pub size : List ℕ → ℕ
size text = length text - length (lexed text).rest

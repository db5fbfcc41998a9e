-- How the tokens of a movetext are laid on lines (PGN standard, 8.2.1: export format has lines of at most 79 bytes).
use Rattle.std.specs.Prelude.{ℕ, ◌+◌, ◌==◌, nat_le, Bool, true, false, not, ◌||◌, if◌then◌else◌, List, [], ◌∷◌, ◌++◌, flat_map, fold, map}
use Rattle.std.specs.List.{prefix_len}
use Rattle.pgn_write.specs.Token.{Token, number, opens, closes, token_text}

-- Tokens that have what follows them in their unit: a number has its move, an opening bracket the first unit of its variation.
abbrev pub holds_next : Token → Bool
holds_next (number n side) = true
holds_next opens = true
holds_next _ = false

-- A closing bracket stands in the last unit of its variation.
abbrev pub begins_closing : List Token → Bool
begins_closing (closes ∷ tokens) = true
begins_closing _ = false

-- A token as the first of the first of these units, or as a unit of its own.
abbrev pub joined : Token → List (List Token) → List (List Token)
joined token [] = (token ∷ []) ∷ []
joined token (unit ∷ units) = (token ∷ unit) ∷ units

-- The units of tokens that nothing comes between: a token stands in one unit with the next one if it holds it, or if
-- that is a closing bracket. A variation without moves is the unit `()`.
abbrev pub units : List Token → List (List Token)
units [] = []
units (token ∷ tokens) =
    if holds_next token || begins_closing tokens then joined token (units tokens) else (token ∷ []) ∷ units tokens

-- The length of the last line after a text that begins behind a line of so many bytes.
abbrev pub column_after : ℕ → List ℕ → ℕ
column_after column text = fold (λ length byte. if byte == 10 then 0 else length + 1) column text

-- Whether a line of so many bytes has room for a space and a unit, up to the unit's first line feed: 79 bytes in all.
abbrev pub has_room : ℕ → List ℕ → Bool
has_room column unit = nat_le (column + 1 + prefix_len (λ byte. not (byte == 10)) unit) 79

-- Units behind a line of so many bytes: each is led by a space if the line has room for it, and else by a line feed.
abbrev pub laid_behind : ℕ → List (List ℕ) → List ℕ
laid_behind column [] = []
laid_behind column (unit ∷ units) =
    let led = (if has_room column unit then 32 else 10) ∷ unit in led ++ laid_behind (column_after column led) units

-- Units from the beginning of a line.
abbrev pub laid : List (List ℕ) → List ℕ
laid [] = []
laid (unit ∷ units) = unit ++ laid_behind (column_after 0 unit) units

-- The text of these tokens.
unfoldable pub layout : List Token → List ℕ
layout tokens = laid (map (flat_map token_text) (units tokens))

-- A text as a list of tokens, each where it stands (PGN standard, 7).
use Rattle.std.specs.Prelude.{ℕ, zero, suc, ◌+◌, ◌-◌, ◌*◌, ◌==◌, nat_lt, Bool, false, not, ◌&&◌, ◌||◌, if◌then◌else◌, List, [], ◌∷◌, length, take, drop, fold}
use Rattle.pgn_read.specs.declared.place.Place.{Place}
use Rattle.pgn_read.specs.Place.{next_place}
use Rattle.pgn_read.specs.Bytes.{is_white, begins}
use Rattle.pgn_read.specs.Lexing.{size}

-- Where reading stands: the place, how many bytes of the greatest length of a game's text are left, and the bytes from here on.
pub record At : Type 0 where
  pub place : Place
  pub room : ℕ
  pub bytes : List ℕ

abbrev pub here : Place → ℕ → List ℕ → At
here place room bytes = record { place = place; room = room; bytes = bytes }

-- The greatest length of a game's text (this project's own).
abbrev pub longest : ℕ
longest = 1048576

-- The most bytes that a reader has read and not yet used: twice the longest game's text, and 20,494 bytes (this project's own).
abbrev pub most_ahead : ℕ
most_ahead = 2 * longest + 20494

-- So many bytes further.
abbrev pub passed : ℕ → At → At
passed n a = here (fold next_place a.place (take n a.bytes)) (a.room - n) (drop n a.bytes)

-- Whether a byte is on a line that is skipped: one whose first byte is `%` (PGN standard, 6).
abbrev pub on_remark : Bool → Place → ℕ → Bool
on_remark inside place byte = inside || ((place.column == 1) && (byte == 37))

-- Behind white space and skipped lines. It may begin inside a line that is skipped.
abbrev pub behind_gap : Bool → Place → ℕ → List ℕ → At
behind_gap inside place room [] = here place room []
behind_gap inside place room (byte ∷ bytes) =
    if on_remark inside place byte || is_white byte
    then behind_gap (on_remark inside place byte && not (byte == 10)) (next_place place byte) (room - 1) bytes
    else here place room (byte ∷ bytes)

-- Three bytes at the beginning of a text are skipped: the mark of the order of bytes (Unicode, 23.8).
abbrev pub behind_mark : At → At
behind_mark a = if ((a.place.line == 1) && (a.place.column == 1)) && begins (239 ∷ 187 ∷ 191 ∷ []) a.bytes then passed 3 a else a

-- From here on, behind white space and skipped lines.
abbrev pub skipped : At → At
skipped a = behind_gap false a.place a.room a.bytes

-- Behind the token that stands here.
abbrev pub behind_token : At → At
behind_token a = passed (size a.bytes) a

-- Where at most so many tokens stand, the first of them here. The last one is the end of the text.
unfoldable pub spots : ℕ → At → List At
spots zero a = []
spots (suc n) a = a ∷ (if nat_lt 0 (length a.bytes) then spots n (skipped (behind_token a)) else [])

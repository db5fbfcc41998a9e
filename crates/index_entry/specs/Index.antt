-- The index file: a header and an entry of 47 bytes for each game (Scid's format si4, version 400; the limit of the games this project's own).
use Rattle.std.specs.Prelude.{◌≤◌, ◌<◌, ◌^◌, ◌+◌, ◌*◌, ℕ, not, nat_eq, nat_lt, if◌then◌else◌, List, [], ◌∷◌, ◌++◌, length, take, drop, codes, Result, Ok, Err}
use Rattle.std.specs.Str.{bytes_eq}
use Rattle.byteorder.specs.Endian.{big_number, big_bytes}
use Rattle.cell_core.specs.Steps.{◌>>=◌}
use Rattle.index_entry.specs.declared.index.IndexHead.{IndexHead}
use Rattle.index_entry.specs.declared.fault.IndexFault.{IndexFault}
use Rattle.index_entry.specs.declared.fault.IndexFault.TheVariants.{Short, Magic, Version, Games, Length}

-- `Scid.si` and a zero byte.
abbrev pub magic : List ℕ
magic = codes "Scid.si" ++ 0 ∷ []

-- The number of so many bytes at a place.
abbrev pub number_in : ℕ → ℕ → List ℕ → ℕ
number_in place width bytes = big_number width (drop place bytes)

-- The header's fields. The magic is in bytes 0 to 7, the version in 8 and 9, the base type in 10 to 13, and the number
-- of games in 14 to 16. The autoload game is in 17 to 19, the description in 20 to 127, and six names of custom marks
-- in 128 to 181.
unfoldable pub head_in : List ℕ → IndexHead
head_in bytes = record {
  kind = number_in 10 4 bytes;
  games = number_in 14 3 bytes;
  autoload = number_in 17 3 bytes;
  description = take 108 (drop 20 bytes);
  custom = take 54 (drop 128 bytes);
}

-- The header of an index, of which entries may be cut off, or the first fault of it.
unfoldable pub header_read : List ℕ → Result IndexHead IndexFault
header_read bytes =
    if nat_lt (length bytes) 182 then Err (Short (length bytes))
    else if not (bytes_eq (take 8 bytes) magic) then Err Magic
    else if not (nat_eq (number_in 8 2 bytes) 400) then Err (Version (number_in 8 2 bytes))
    else if nat_lt 16777214 (number_in 14 3 bytes) then Err (Games (number_in 14 3 bytes))
    else Ok (head_in bytes)

-- The header of an index of so many bytes, unless entries are cut off.
abbrev pub with_entries : ℕ → IndexHead → Result IndexHead IndexFault
with_entries len head = if nat_lt len (182 + 47 * head.games) then Err (Length len) else Ok head

-- The first fault of an index, or else its header.
unfoldable pub index_read : List ℕ → Result IndexHead IndexFault
index_read bytes = header_read bytes >>= with_entries (length bytes)

-- The 47 bytes of a game's entry.
abbrev pub entry_bytes : List ℕ → ℕ → List ℕ
entry_bytes index game = take 47 (drop (182 + 47 * game) index)

-- A header that can be written.
pub record IsIndexHead (h : IndexHead) : Type 0 where
  pub games : h.games ≤ 16777214
  pub autoload : h.autoload < 2 ^ 24

-- The one written form of a header and its entries.
unfoldable pub index_bytes : IndexHead → List ℕ → List ℕ
index_bytes h entries =
    magic
    ++ (big_bytes 2 400
    ++ (big_bytes 4 h.kind
    ++ (big_bytes 3 h.games
    ++ (big_bytes 3 h.autoload
    ++ (h.description
    ++ (h.custom
    ++ entries))))))

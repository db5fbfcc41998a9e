-- What the first bytes of a record's tags are, byte by byte: the next tag, the end of the tags, or the first fault
-- (this project's own). A bad byte of a name or a value counts even if the record ends before that part is whole.
use Rattle.std.specs.Prelude.{◌≡◌, ℕ, ◌+◌, ◌-◌, ◌*◌, ◌/◌, ◌%◌, ◌==◌, ◌&&◌, not, nat_lt, nat_le, if◌then◌else◌, Bool, List, [], ◌∷◌, Option, Some, None, Result, Ok, Err, length, take, drop, slice_index_or, codes}
use Rattle.std.specs.List.{list_all}
use Rattle.game_tree.specs.Date.{date_of, date_text}
use Rattle.game_tree.specs.TagName.{is_tag_byte}
use Rattle.game_tree.specs.declared.head.Tag.{Tag}
use Rattle.game_codec.specs.TagSpelling.{coded_names}
use Rattle.game_codec.specs.declared.fault.RecordWhat.{RecordWhat}
use Rattle.game_codec.specs.declared.fault.RecordWhat.TheVariants.{TagCode, TagName, TagValue, Short}

-- A text and the bytes behind it.
abbrev pub Part : Type 0
Part = List ℕ × List ℕ

-- The first n bytes, each of which passes a test.
unfoldable pub part_at : (ℕ → Bool) → RecordWhat → ℕ → List ℕ → Result Part RecordWhat
part_at good what n bytes =
    if not (list_all good (take n bytes)) then Err what
    else if nat_lt (length bytes) n then Err Short
    else Ok (take n bytes, drop n bytes)

abbrev pub is_value_byte : ℕ → Bool
is_value_byte byte = not (byte == 0)

-- A value behind its length.
unfoldable pub value_at : List ℕ → Result Part RecordWhat
value_at [] = Err Short
value_at (n ∷ bytes) = part_at is_value_byte TagValue n bytes

-- The tag of this name and the value that follows.
abbrev pub with_value : List ℕ → Result Part RecordWhat → Result (Option (Tag × List ℕ)) RecordWhat
with_value name (Err what) = Err what
with_value name (Ok part) = Ok (Some (record { name = name; value = part.0 }, part.1))

abbrev pub with_name : Result Part RecordWhat → Result (Option (Tag × List ℕ)) RecordWhat
with_name (Err what) = Err what
with_name (Ok part) = with_value part.0 (value_at part.1)

-- The tag EventDate with the date of three bytes.
abbrev pub dated : ℕ → List ℕ → Result (Option (Tag × List ℕ)) RecordWhat
dated number rest =
    if nat_le (number / 512) 2047 && nat_le (number / 32 % 16) 12
    then Ok (Some (record { name = codes "EventDate"; value = date_text (date_of number) }, rest))
    else Err TagValue

unfoldable pub date_at : List ℕ → Result (Option (Tag × List ℕ)) RecordWhat
date_at (a ∷ b ∷ c ∷ rest) = dated (65536 * a + 256 * b + c) rest
date_at _ = Err Short

-- The next tag and the bytes behind it, none at the zero byte that ends the tags, or the first fault.
unfoldable pub tag_at : List ℕ → Result (Option (Tag × List ℕ)) RecordWhat
tag_at [] = Err Short
tag_at (code ∷ bytes) =
    if code == 0 then Ok None
    else if nat_le code 240 then with_name (part_at is_tag_byte TagName code bytes)
    else if nat_le code 250 then with_value (slice_index_or coded_names (code - 241) []) (value_at bytes)
    else if nat_le code 254 then Err TagCode
    else date_at bytes

-- The bytes begin with the tag, and these bytes follow it.
abbrev pub BeginsTag : List ℕ → Tag → List ℕ → Type 0
BeginsTag bytes tag later = tag_at bytes ≡ Ok (Some (tag, later))

-- The bytes begin with the tags in their order and the zero byte behind them, and these bytes follow.
abbrev pub BeginsTags : List ℕ → List Tag → List ℕ → Type 0
BeginsTags bytes [] rest = bytes ≡ 0 ∷ rest
BeginsTags bytes (tag ∷ tags) rest = (later : List ℕ) × BeginsTag bytes tag later × BeginsTags later tags rest

-- The bytes begin with these tags, and what follows from there on is no tag but has this fault.
abbrev pub BreaksTags : List ℕ → List Tag → List ℕ → RecordWhat → Type 0
BreaksTags bytes [] rest what = (rest ≡ bytes) × (tag_at bytes ≡ Err what)
BreaksTags bytes (tag ∷ tags) rest what = (later : List ℕ) × BeginsTag bytes tag later × BreaksTags later tags rest what

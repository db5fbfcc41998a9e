-- How a text stands in HTML, and how HTML is read (HTML standard, 13.1.4, character references).
use Rattle.std.specs.Prelude.{ℕ, zero, suc, ◌+◌, ◌-◌, ◌*◌, ◌==◌, ◌&&◌, ◌||◌, nat_lt, not, if◌then◌else◌, Bool, List, [], ◌∷◌, ◌++◌, Option, Some, None, option_map, codes, length, take, drop, slice_index}
use Rattle.std.specs.Char.{is_ascii_digit}
use Rattle.std.specs.Fmt.{decimal}
use Rattle.std.specs.List.{flat_map}
use Rattle.std.specs.Str.{bytes_eq}
use Rattle.bstr.specs.Utf8.{decoded}

-- The character in front of a text, and how many bytes it takes: one of UTF-8, or else the first byte as one of Latin-1.
abbrev pub char_or_byte : Option ℕ → ℕ → ℕ → ℕ × ℕ
char_or_byte (Some char) size byte = (char, size)
char_or_byte None size byte = (byte, 1)

unfoldable pub front : List ℕ → ℕ × ℕ
front text = char_or_byte (decoded text).char (decoded text).size (slice_index text 0)

-- What is shown of a character: a sign (U+2400 to U+2421, U+FFFD) in the place of a control character.
abbrev pub shown : ℕ → ℕ
shown char =
    if nat_lt char 32 then 0x2400 + char
    else if char == 127 then 0x2421
    else if nat_lt 127 char && nat_lt char 160 then 0xFFFD
    else char

-- The characters that are shown of a text behind so many bytes.
unfoldable pub characters_behind : ℕ → List ℕ → List ℕ
characters_behind skip [] = []
characters_behind (suc skip) (byte ∷ text) = characters_behind skip text
characters_behind zero (byte ∷ text) = shown (front (byte ∷ text)).0 ∷ characters_behind ((front (byte ∷ text)).1 - 1) text

abbrev pub characters : List ℕ → List ℕ
characters text = characters_behind 0 text

-- What is written for a character: a reference for <, >, & and " and for all beyond ASCII, and any other as it is.
unfoldable pub written_char : ℕ → List ℕ
written_char char =
    if char == 60 then codes "&lt;"
    else if char == 62 then codes "&gt;"
    else if char == 38 then codes "&amp;"
    else if char == 34 then codes "&quot;"
    else if nat_lt char 128 then char ∷ []
    else codes "&#" ++ (decimal char ++ codes ";")

abbrev pub written : List ℕ → List ℕ
written text = flat_map written_char (characters text)

-- The character of a reference, whose name stands here behind its &, and how many bytes the name has.
abbrev pub begins : List ℕ → List ℕ → Bool
begins word html = bytes_eq (take (length word) html) word

-- The number of a reference, whose digits so far, with what stands before them, are so many bytes; a semicolon ends it.
unfoldable pub number_behind : ℕ → ℕ → List ℕ → Option (ℕ × ℕ)
number_behind number len [] = None
number_behind number len (byte ∷ html) =
    if byte == 59 then (if len == 1 then None else Some (number, len + 1))
    else if is_ascii_digit byte then number_behind (10 * number + (byte - 48)) (len + 1) html
    else None

abbrev pub reference_at : List ℕ → Option (ℕ × ℕ)
reference_at html =
    if begins (codes "lt;") html then Some (60, 3)
    else if begins (codes "gt;") html then Some (62, 3)
    else if begins (codes "amp;") html then Some (38, 4)
    else if begins (codes "quot;") html then Some (34, 5)
    else if begins (codes "#") html then number_behind 0 1 (drop 1 html)
    else None

-- Whether a byte stands for itself: one of ASCII that is no control character and none of <, > and ".
abbrev pub is_plain : ℕ → Bool
is_plain byte = nat_lt 31 byte && (nat_lt byte 127 && not ((byte == 60) || ((byte == 62) || (byte == 34))))

-- The character that HTML shows for a byte, with what stands behind it, and how many bytes of that belong to it. There is none if an &
-- begins no reference, and if another byte does not stand for itself.
abbrev pub shown_at : ℕ → List ℕ → Option (ℕ × ℕ)
shown_at byte html = if byte == 38 then reference_at html else if is_plain byte then Some (byte, 0) else None

-- The characters that HTML shows, of which so many bytes are passed first.
abbrev pub with_first : Option (ℕ × ℕ) → (ℕ → Option (List ℕ)) → Option (List ℕ)
with_first None rest = None
with_first (Some found) rest = option_map (λ text. found.0 ∷ text) (rest found.1)

unfoldable pub read_behind : ℕ → List ℕ → Option (List ℕ)
read_behind skip [] = Some []
read_behind (suc skip) (byte ∷ html) = read_behind skip html
read_behind zero (byte ∷ html) = with_first (shown_at byte html) (λ skip. read_behind skip html)

abbrev pub html_read : List ℕ → Option (List ℕ)
html_read html = read_behind 0 html

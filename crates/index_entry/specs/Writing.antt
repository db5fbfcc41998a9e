-- The bytes of an entry, as the functions of this crate write them.
use Rattle.std.specs.Prelude.{◌+◌, ◌-◌, ◌*◌, ◌/◌, ◌%◌, ◌^◌, ℕ, Bool, if◌then◌else◌, List, [], ◌∷◌, ◌++◌, slice_index}
use Rattle.game_tree.specs.Date.{is_unknown, date_number}
use Rattle.game_tree.specs.declared.date.Date.{Date}
use Rattle.game_tree.specs.declared.head.Outcome.{Outcome}
use Rattle.game_tree.specs.declared.head.Outcome.TheVariants.{Unknown, White, Black, Draw}
use Rattle.game_tree.specs.declared.head.Rating.{Rating}
use Rattle.index_entry.specs.declared.entry.Entry.{Entry}

-- The byte of a number above so many lower bits.
abbrev pub byte_of : ℕ → ℕ → ℕ
byte_of number lower = number / 2 ^ lower % 256

-- A test as a bit.
abbrev pub bit_of : Bool → ℕ
bit_of test = if test then 1 else 0

abbrev pub code_of : Outcome → ℕ
code_of Unknown = 0
code_of White = 1
code_of Black = 2
code_of Draw = 3

-- The low twelve marks and the four tests.
unfoldable pub flags_of : Entry → ℕ
flags_of e = e.marks % 4096 * 16 + bit_of e.deleted * 8 + bit_of e.under * 4 + bit_of e.promo * 2 + bit_of e.own_start

unfoldable pub counts_of : Entry → ℕ
counts_of e = code_of e.result * 4096 + e.nags * 256 + e.comments * 16 + e.vars

-- The bits of an event date: 3 for the year, by its distance from the game's, 4 for the month, 5 for the day.
unfoldable pub event_number : Date → Date → ℕ
event_number event game = if is_unknown event then 0 else ((event.year + 4) - game.year) * 512 + event.month * 32 + event.day

unfoldable pub dates_word : Entry → ℕ
dates_word e = event_number e.event_date e.date * 1048576 + date_number e.date

unfoldable pub rating_word : Rating → ℕ
rating_word rating = rating.kind * 4096 + rating.value

-- Bytes 0 to 8: the record's place and length, the marks and the tests.
unfoldable pub place_bytes : Entry → List ℕ
place_bytes e =
    byte_of e.offset 24 ∷ byte_of e.offset 16 ∷ byte_of e.offset 8 ∷ byte_of e.offset 0
    ∷ byte_of e.len 8 ∷ byte_of e.len 0
    ∷ (e.len / 65536 * 128 + e.marks / 4096)
    ∷ byte_of (flags_of e) 8 ∷ byte_of (flags_of e) 0
    ∷ []

-- Bytes 9 to 20: the ids of the names.
unfoldable pub id_bytes : Entry → List ℕ
id_bytes e =
    (e.white / 65536 * 16 + e.black / 65536)
    ∷ byte_of e.white 8 ∷ byte_of e.white 0
    ∷ byte_of e.black 8 ∷ byte_of e.black 0
    ∷ (e.event / 65536 * 32 + e.site / 65536 * 4 + e.round / 65536)
    ∷ byte_of e.event 8 ∷ byte_of e.event 0
    ∷ byte_of e.site 8 ∷ byte_of e.site 0
    ∷ byte_of e.round 8 ∷ byte_of e.round 0
    ∷ []

-- Bytes 21 to 32: the counts, the ECO code, the dates, the ratings.
unfoldable pub game_bytes : Entry → List ℕ
game_bytes e =
    byte_of (counts_of e) 8 ∷ byte_of (counts_of e) 0
    ∷ byte_of e.eco 8 ∷ byte_of e.eco 0
    ∷ byte_of (dates_word e) 24 ∷ byte_of (dates_word e) 16 ∷ byte_of (dates_word e) 8 ∷ byte_of (dates_word e) 0
    ∷ byte_of (rating_word e.white_rating) 8 ∷ byte_of (rating_word e.white_rating) 0
    ∷ byte_of (rating_word e.black_rating) 8 ∷ byte_of (rating_word e.black_rating) 0
    ∷ []

-- Four bits of each of two numbers in one byte.
abbrev pub two_of : List ℕ → ℕ → ℕ
two_of values i = slice_index values i * 16 + slice_index values (i + 1)

-- Bytes 33 to 46: nothing, the final counts, the half-moves, the home values.
unfoldable pub last_bytes : Entry → List ℕ
last_bytes e =
    0
    ∷ (slice_index e.material 0 * 64 + slice_index e.material 1 * 16 + slice_index e.material 2 * 4 + slice_index e.material 3)
    ∷ (slice_index e.material 4 * 16 + slice_index e.material 5 * 4 + slice_index e.material 6)
    ∷ (slice_index e.material 7 * 64 + slice_index e.material 8 * 16 + slice_index e.material 9)
    ∷ byte_of e.plies 0
    ∷ (e.plies / 256 * 64 + e.home_count)
    ∷ two_of e.home 0 ∷ two_of e.home 2 ∷ two_of e.home 4 ∷ two_of e.home 6
    ∷ two_of e.home 8 ∷ two_of e.home 10 ∷ two_of e.home 12 ∷ two_of e.home 14
    ∷ []

-- All 47.
unfoldable pub written : Entry → List ℕ
written e = place_bytes e ++ (id_bytes e ++ (game_bytes e ++ last_bytes e))

-- The names file as it is written. This project's own choice among the files that spell the same names.
use Rattle.std.specs.Prelude.{◌≡◌, ◌≤◌, ◌<◌, ◌+◌, ◌^◌, ℕ, nat_eq, List, [], ◌∷◌, ◌++◌, Option, Some, None, max, length, drop}
use Rattle.std.specs.Ordering.{nat_cmp}
use Rattle.std.specs.List.{common_prefix_len, All}
use Rattle.std.specs.List.Sorted.{IsPermutation, IsSortedByKey}
use Rattle.std.specs.Cmp.Lexicographic.{slice_cmp}
use Rattle.byteorder.specs.Endian.{big_bytes}
use Rattle.name_base.specs.declared.header.Shape.{Shape}
use Rattle.name_base.specs.declared.header.Header.{Header}
use Rattle.name_base.specs.NameLists.{NameLists}
use Rattle.name_base.specs.NamesFile.{Stored, shared_byte, frequency_width, kind_bytes, header_bytes, player_shape, event_shape, site_shape, round_shape}

-- A name of a base, with how often the base uses it.
pub record Row : Type 0 where
  pub id : ℕ
  pub frequency : ℕ
  pub name : List ℕ

-- The names of a kind from this id on, each with its frequency.
abbrev pub rows_from : ℕ → List (List ℕ) → List ℕ → List Row
rows_from id [] frequencies = []
rows_from id (name ∷ names) [] = []
rows_from id (name ∷ names) (frequency ∷ frequencies) = record { id = id; frequency = frequency; name = name } ∷ rows_from (id + 1) names frequencies

-- The rows are the names of a kind with their frequencies, in the order of the names' bytes.
pub record IsOrderOf (names : List (List ℕ)) (frequencies : List ℕ) (rows : List Row) : Type 0 where
  pub same : IsPermutation (rows_from 0 names frequencies) rows
  pub sorted : IsSortedByKey (λ r. r.name) (slice_cmp nat_cmp) rows

-- The length of the longest prefix that a name shares with the name before it.
abbrev pub shared_len : Option (List ℕ) → List ℕ → ℕ
shared_len None name = 0
shared_len (Some before) name = common_prefix_len nat_eq before name

-- A name as it is stored after another.
abbrev pub stored_row : ℕ → Option (List ℕ) → Row → Stored
stored_row width before r =
    record { id = r.id; frequency = big_bytes width r.frequency; shared = shared_len before r.name; own = drop (shared_len before r.name) r.name }

-- Names as they are stored one after the other.
abbrev pub stored_rows : ℕ → Option (List ℕ) → List Row → List Stored
stored_rows width before [] = []
stored_rows width before (r ∷ rows) = stored_row width before r ∷ stored_rows width (Some r.name) rows

-- The greatest of some numbers, or 0.
abbrev pub greatest_of : List ℕ → ℕ
greatest_of [] = 0
greatest_of (n ∷ ns) = max n (greatest_of ns)

-- The frequencies of the names of each kind by id.
pub record Frequencies : Type 0 where
  pub players : List ℕ
  pub events : List ℕ
  pub sites : List ℕ
  pub rounds : List ℕ

-- There is a frequency for each name, and three bytes hold it.
pub record AreFrequencies (names : List (List ℕ)) (frequencies : List ℕ) : Type 0 where
  pub count : length frequencies ≡ length names
  pub small : All (λ n. n < 2 ^ 24) frequencies

-- The header of the written file.
abbrev pub header_of : NameLists → Frequencies → Header
header_of lists f = record {
  counts = record { players = length lists.players; events = length lists.events; sites = length lists.sites; rounds = length lists.rounds };
  greatest = record { players = greatest_of f.players; events = greatest_of f.events; sites = greatest_of f.sites; rounds = greatest_of f.rounds };
}

-- The bytes of the names of a kind, and what follows them.
abbrev pub rows_bytes : Shape → List Row → List ℕ → List ℕ
rows_bytes shape rows rest = kind_bytes shape None (stored_rows (frequency_width shape.greatest) None rows) rest

-- The bytes are the written form of the lists with these frequencies: a time stamp of zeros, the names of each kind in byte order, and
-- of each the longest shared prefix.
pub record IsNamesText (lists : NameLists) (f : Frequencies) (bytes : List ℕ) : Type 0 where
  pub players : List Row
  pub events : List Row
  pub sites : List Row
  pub rounds : List Row
  pub player_order : IsOrderOf lists.players f.players players
  pub event_order : IsOrderOf lists.events f.events events
  pub site_order : IsOrderOf lists.sites f.sites sites
  pub round_order : IsOrderOf lists.rounds f.rounds rounds
  pub text : bytes ≡ header_bytes (0 ∷ 0 ∷ 0 ∷ 0 ∷ []) (header_of lists f)
      (rows_bytes (player_shape (header_of lists f)) players (rows_bytes (event_shape (header_of lists f)) events
      (rows_bytes (site_shape (header_of lists f)) sites (rows_bytes (round_shape (header_of lists f)) rounds []))))

-- The bytes of a name after another, and what follows them: its length, the length of the shared prefix, its own bytes.
abbrev pub name_bytes : Option (List ℕ) → List ℕ → List ℕ → List ℕ
name_bytes before name rest = length name ∷ (shared_byte before (shared_len before name) ++ (drop (shared_len before name) name ++ rest))

-- A row that the fields of a kind of this shape hold.
pub record FitsShape (shape : Shape) (r : Row) : Type 0 where
  pub id : r.id < shape.count
  pub frequency : r.frequency ≤ shape.greatest
  pub name : length r.name ≤ 255

-- The names file: which bytes spell which lists of names. The layout is that of Scid's si4 edition; the limits are this project's own.
use Rattle.std.specs.Prelude.{◌≡◌, ◌≤◌, ◌<◌, ◌+◌, ◌^◌, ℕ, nat_eq, nat_lt, List, [], ◌∷◌, ◌++◌, Option, Some, None, unwrap_or, if◌then◌else◌, length, take, map, slice_get}
use Rattle.std.specs.List.{AllByRecursion, IsDistinct}
use Rattle.std.specs.Str.{bytes_eq}
use Rattle.byteorder.specs.Endian.{big_bytes}
use Rattle.name_base.specs.declared.header.Shape.{Shape}
use Rattle.name_base.specs.declared.header.PerKind.{PerKind}
use Rattle.name_base.specs.declared.header.Header.{Header}
use Rattle.name_base.specs.declared.kind.NameKind.TheVariants.{Player, Event, Site, Round}
use Rattle.name_base.specs.NameLists.{NameLists, IsName, limit_of}

-- A name as it stands in the file: its id, the bytes of its frequency, how many bytes it shares with the name before, and its own bytes.
pub record Stored : Type 0 where
  pub id : ℕ
  pub frequency : List ℕ
  pub shared : ℕ
  pub own : List ℕ

-- A name with its id.
pub record Entry : Type 0 where
  pub id : ℕ
  pub name : List ℕ

-- How many bytes an id has, by the number of names of its kind.
abbrev pub id_width : ℕ → ℕ
id_width count = if nat_lt count 65536 then 2 else 3

-- How many bytes a frequency has, by the greatest of its kind.
abbrev pub frequency_width : ℕ → ℕ
frequency_width greatest = if nat_lt greatest 256 then 1 else if nat_lt greatest 65536 then 2 else 3

-- The name that a stored one spells: a prefix of the name before it, and its own bytes.
abbrev pub name_after : Option (List ℕ) → Stored → List ℕ
name_after before s = take s.shared (unwrap_or before []) ++ s.own

-- The byte for the length of the shared prefix, which the first name of a kind lacks.
abbrev pub shared_byte : Option (List ℕ) → ℕ → List ℕ
shared_byte None shared = []
shared_byte (Some before) shared = shared ∷ []

-- The bytes of a stored name, and what follows it: id, frequency, whole length, length of the shared prefix, own bytes.
unfoldable pub stored_bytes : Shape → Option (List ℕ) → Stored → List ℕ → List ℕ
stored_bytes shape before s rest =
    big_bytes (id_width shape.count) s.id
    ++ (s.frequency ++ ((s.shared + length s.own) ∷ (shared_byte before s.shared ++ (s.own ++ rest))))

-- The bytes of the stored names of a kind, and what follows them; `before` is the name before the first, if there is one.
abbrev pub kind_bytes : Shape → Option (List ℕ) → List Stored → List ℕ → List ℕ
kind_bytes shape before [] rest = rest
kind_bytes shape before (s ∷ stored) rest = stored_bytes shape before s (kind_bytes shape (Some (name_after before s)) stored rest)

-- The names that stored ones spell, each with its id.
abbrev pub entries : Option (List ℕ) → List Stored → List Entry
entries before [] = []
entries before (s ∷ stored) = record { id = s.id; name = name_after before s } ∷ entries (Some (name_after before s)) stored

-- What holds of a stored name.
pub record Fits (shape : Shape) (before : Option (List ℕ)) (s : Stored) : Type 0 where
  pub id : s.id < shape.count
  pub frequency : length s.frequency ≡ frequency_width shape.greatest
  pub shared : s.shared ≤ length (unwrap_or before [])
  pub name : IsName (name_after before s)

-- It holds of each.
abbrev pub AllFit : Shape → Option (List ℕ) → List Stored → Type 0
AllFit shape before [] = Unit {0}
AllFit shape before (s ∷ stored) = Fits shape before s × AllFit shape (Some (name_after before s)) stored

-- The entries hold each id and each name once, and the list has each name at the place of its id.
pub record Arranges (es : List Entry) (names : List (List ℕ)) : Type 0 where
  pub ids : IsDistinct nat_eq (map (λ e. e.id) es)
  pub once : IsDistinct bytes_eq (map (λ e. e.name) es)
  pub count : length names ≡ length es
  pub placed : AllByRecursion (λ e. slice_get names e.id ≡ Some e.name) es

-- Stored names of this shape spell the names of a kind.
pub record StoresKind (shape : Shape) (stored : List Stored) (names : List (List ℕ)) : Type 0 where
  pub count : length stored ≡ shape.count
  pub each : AllFit shape None stored
  pub arranged : Arranges (entries None stored) names

-- `Scid.sn` and a zero byte.
abbrev pub magic : List ℕ
magic = 83 ∷ 99 ∷ 105 ∷ 100 ∷ 46 ∷ 115 ∷ 110 ∷ 0 ∷ []

-- A number for each kind in three bytes, and what follows them.
unfoldable pub four_bytes : PerKind → List ℕ → List ℕ
four_bytes n rest = big_bytes 3 n.players ++ (big_bytes 3 n.events ++ (big_bytes 3 n.sites ++ (big_bytes 3 n.rounds ++ rest)))

-- The bytes of the header, and what follows it: the magic, the time stamp, the four counts, the four greatest frequencies.
unfoldable pub header_bytes : List ℕ → Header → List ℕ → List ℕ
header_bytes stamp h rest = magic ++ (stamp ++ four_bytes h.counts (four_bytes h.greatest rest))

-- Counts within the limits.
pub record AreCounts (n : PerKind) : Type 0 where
  pub players : n.players ≤ limit_of Player
  pub events : n.events ≤ limit_of Event
  pub sites : n.sites ≤ limit_of Site
  pub rounds : n.rounds ≤ limit_of Round

-- Numbers that three bytes hold.
pub record AreSmall (n : PerKind) : Type 0 where
  pub players : n.players < 2 ^ 24
  pub events : n.events < 2 ^ 24
  pub sites : n.sites < 2 ^ 24
  pub rounds : n.rounds < 2 ^ 24

-- What a header says of a kind.
abbrev pub player_shape : Header → Shape
player_shape h = record { count = h.counts.players; greatest = h.greatest.players }

abbrev pub event_shape : Header → Shape
event_shape h = record { count = h.counts.events; greatest = h.greatest.events }

abbrev pub site_shape : Header → Shape
site_shape h = record { count = h.counts.sites; greatest = h.greatest.sites }

abbrev pub round_shape : Header → Shape
round_shape h = record { count = h.counts.rounds; greatest = h.greatest.rounds }

-- The bytes are a names file with these lists: a header, the stored names of the four kinds, and then whatever bytes.
pub record NameFile (bytes : List ℕ) (lists : NameLists) : Type 0 where
  pub stamp : List ℕ
  pub header : Header
  pub players : List Stored
  pub events : List Stored
  pub sites : List Stored
  pub rounds : List Stored
  pub rest : List ℕ
  pub spelled : bytes ≡ header_bytes stamp header
      (kind_bytes (player_shape header) None players (kind_bytes (event_shape header) None events
      (kind_bytes (site_shape header) None sites (kind_bytes (round_shape header) None rounds rest))))
  pub stamped : length stamp ≡ 4
  pub counts : AreCounts header.counts
  pub greatest : AreSmall header.greatest
  pub player_names : StoresKind (player_shape header) players lists.players
  pub event_names : StoresKind (event_shape header) events lists.events
  pub site_names : StoresKind (site_shape header) sites lists.sites
  pub round_names : StoresKind (round_shape header) rounds lists.rounds

-- Reading a names file from left to right, with the first fault that is met. This project's own order of checks.
use Rattle.std.specs.Prelude.{◌≡◌, ◌-◌, ℕ, zero, suc, nat_eq, nat_lt, nat_le, Bool, ◌||◌, List, [], ◌∷◌, ◌++◌, Option, Some, None, unwrap_or, Result, Ok, Err, if◌then◌else◌, length, take, drop, map, slice_get, slice_set, replicate}
use Rattle.std.specs.List.{list_any}
use Rattle.std.specs.Str.{bytes_eq}
use Rattle.byteorder.specs.Endian.{big_number}
use Rattle.name_base.specs.declared.header.Shape.{Shape}
use Rattle.name_base.specs.declared.header.PerKind.{PerKind}
use Rattle.name_base.specs.declared.header.Header.{Header}
use Rattle.name_base.specs.declared.kind.NameKind.{NameKind}
use Rattle.name_base.specs.declared.kind.NameKind.TheVariants.{Player, Event, Site, Round}
use Rattle.name_base.specs.declared.fault.NameWhat.{NameWhat}
use Rattle.name_base.specs.declared.fault.NameWhat.TheVariants.{Short, Magic, Count, IdRange, IdTwice, Prefix, Zero, Repeated}
use Rattle.name_base.specs.declared.fault.NameFault.{NameFault}
use Rattle.name_base.specs.declared.fault.NamesError.{NamesError}
use Rattle.name_base.specs.declared.fault.NamesError.TheVariants.{Bad, Memory}
use Rattle.name_base.specs.NameLists.{NameLists, is_in, has_zero, limit_of}
use Rattle.name_base.specs.NamesFile.{Entry, id_width, frequency_width, magic, player_shape, event_shape, site_shape, round_shape}

infixl 10 ◌>>=◌
-- The second step, unless the first has a fault.
abbrev pub ◌>>=◌ : {A B E : Type 0} → Result A E → (A → Result B E) → Result B E
(Ok x) >>= f = f x
(Err e) >>= f = Err e

-- What a call answered, seen by `view`, is what reading gives.
abbrev pub Gives : {X Y E : Type 0} → (X → Y) → Result X E → Result Y E → Type 0
Gives view (Ok x) read = read ≡ Ok (view x)
Gives view (Err e) read = read ≡ Err e

-- The error is the fault that reading gives, or want of memory.
abbrev pub Fails : {Y : Type 0} → NamesError → Result Y NameFault → Type 0
Fails Memory read = Unit {0}
Fails (Bad fault) read = read ≡ Err fault

-- What a call answered, seen by `view`, is what reading gives, unless memory ran out.
abbrev pub Answers : {X Y : Type 0} → (X → Y) → Result X NamesError → Result Y NameFault → Type 0
Answers view (Ok x) read = read ≡ Ok (view x)
Answers view (Err e) read = Fails e read

-- A number of so many bytes, and the bytes after it.
unfoldable pub number_at : ℕ → List ℕ → Result (ℕ × List ℕ) NameWhat
number_at width bytes = if nat_lt (length bytes) width then Err Short else Ok (big_number width bytes, drop width bytes)

-- So many bytes, whatever they are, passed over.
unfoldable pub skip_at : ℕ → List ℕ → Result (List ℕ) NameWhat
skip_at n bytes = if nat_lt (length bytes) n then Err Short else Ok (drop n bytes)

-- A byte, and the bytes after it.
unfoldable pub byte_at : List ℕ → Result (ℕ × List ℕ) NameWhat
byte_at [] = Err Short
byte_at (byte ∷ bytes) = Ok (byte, bytes)

-- ---- the header.

-- The magic, passed over.
unfoldable pub magic_at : List ℕ → Result (List ℕ) NameWhat
magic_at bytes = if nat_lt (length bytes) 8 then Err Short else if bytes_eq (take 8 bytes) magic then Ok (drop 8 bytes) else Err Magic

-- The number of names of a kind, which has a limit.
unfoldable pub count_at : NameKind → List ℕ → Result (ℕ × List ℕ) NameWhat
count_at kind bytes = do
  count ← number_at 3 bytes
  if nat_lt (limit_of kind) count.0 then Err Count else Ok count

-- A number of each kind, one after the other.
unfoldable pub per_kind_at : (NameKind → List ℕ → Result (ℕ × List ℕ) NameWhat) → List ℕ → Result (PerKind × List ℕ) NameWhat
per_kind_at one bytes = do
  players ← one Player bytes
  events ← one Event players.1
  sites ← one Site events.1
  rounds ← one Round sites.1
  Ok (record { players = players.0; events = events.0; sites = sites.0; rounds = rounds.0 }, rounds.1)

-- The header, with the numbers of names and the greatest frequencies, and the bytes after it.
unfoldable pub header_at : List ℕ → Result (Header × List ℕ) NameWhat
header_at bytes = do
  stamp ← magic_at bytes
  rest ← skip_at 4 stamp
  counts ← per_kind_at count_at rest
  greatest ← per_kind_at (λ _. number_at 3) counts.1
  Ok (record { counts = counts.0; greatest = greatest.0 }, greatest.1)

-- ---- one name, after those of its kind that were met before it.

-- Whether an id was met.
abbrev pub has_id : List Entry → ℕ → Bool
has_id met id = list_any (λ e. nat_eq id e.id) met

-- The names that were met.
abbrev pub names_of : List Entry → List (List ℕ)
names_of met = map (λ e. e.name) met

-- The name that was met last.
abbrev pub last_name : List Entry → Option (List ℕ)
last_name met = slice_get (names_of met) (length met - 1)

-- An id, which is below the count and new.
unfoldable pub id_at : ℕ → List Entry → List ℕ → Result (ℕ × List ℕ) NameWhat
id_at count met bytes = do
  id ← number_at (id_width count) bytes
  if nat_le count id.0 then Err IdRange else if has_id met id.0 then Err IdTwice else Ok id

-- The length of the prefix that a name of this length shares with the name before it.
unfoldable pub shared_at : Option (List ℕ) → ℕ → List ℕ → Result (ℕ × List ℕ) NameWhat
shared_at None len bytes = Ok (0, bytes)
shared_at (Some before) len bytes = do
  shared ← byte_at bytes
  if nat_lt len shared.0 || nat_lt (length before) shared.0 then Err Prefix else Ok shared

-- So many bytes of a name; a zero byte that is there comes before an early end.
unfoldable pub own_at : ℕ → List ℕ → Result (List ℕ × List ℕ) NameWhat
own_at n bytes = if has_zero (take n bytes) then Err Zero else if nat_lt (length bytes) n then Err Short else Ok (take n bytes, drop n bytes)

-- The parts of a name, and the bytes after it.
pub record Piece : Type 0 where
  pub id : ℕ
  pub shared : ℕ
  pub own : List ℕ
  pub rest : List ℕ

unfoldable pub piece_at : Shape → List Entry → List ℕ → Result Piece NameWhat
piece_at shape met bytes = do
  id ← id_at shape.count met bytes
  after ← skip_at (frequency_width shape.greatest) id.1
  len ← byte_at after
  shared ← shared_at (last_name met) len.0 len.1
  own ← own_at (len.0 - shared.0) shared.1
  Ok (record { id = id.0; shared = shared.0; own = own.0; rest = own.1 })

-- The name that its parts make after the last one.
abbrev pub name_of_piece : List Entry → Piece → List ℕ
name_of_piece met p = take p.shared (unwrap_or (last_name met) []) ++ p.own

-- The names met with one more, and the bytes after it.
unfoldable pub entry_at : Shape → List Entry → List ℕ → Result (List Entry × List ℕ) NameWhat
entry_at shape met bytes = do
  p ← piece_at shape met bytes
  if is_in (names_of met) (name_of_piece met p) then Err Repeated else Ok (met ++ record { id = p.id; name = name_of_piece met p } ∷ [], p.rest)

-- ---- a kind, and the whole file.

-- A fault, with its place.
abbrev pub blamed : {A : Type 0} → Option NameKind → ℕ → Result A NameWhat → Result A NameFault
blamed kind index (Ok x) = Ok x
blamed kind index (Err what) = Err (record { kind = kind; index = index; what = what })

-- So many names more, after those that were met.
unfoldable pub entries_at : NameKind → Shape → ℕ → List Entry → List ℕ → Result (List Entry × List ℕ) NameFault
entries_at kind shape zero met bytes = Ok (met, bytes)
entries_at kind shape (suc n) met bytes = do
  more ← blamed (Some kind) (length met) (entry_at shape met bytes)
  entries_at kind shape n more.0 more.1

-- The names with each entry's name put at the place of its id.
abbrev pub put_names : List Entry → List (List ℕ) → List (List ℕ)
put_names [] names = names
put_names (e ∷ es) names = slice_set (put_names es names) e.id e.name

-- The names of so many entries by id.
unfoldable pub by_id : ℕ → List Entry → List (List ℕ)
by_id count es = put_names es (replicate count [])

-- The names of a kind by id, and the bytes after them.
unfoldable pub kind_at : NameKind → Shape → List ℕ → Result (List (List ℕ) × List ℕ) NameFault
kind_at kind shape bytes = do
  es ← entries_at kind shape shape.count [] bytes
  Ok (by_id shape.count es.0, es.1)

-- The names of a file, or its first fault in the order of the bytes. Bytes after the last name do not count.
unfoldable pub names_at : List ℕ → Result NameLists NameFault
names_at bytes = do
  header ← blamed None 0 (header_at bytes)
  players ← kind_at Player (player_shape header.0) header.1
  events ← kind_at Event (event_shape header.0) players.1
  sites ← kind_at Site (site_shape header.0) events.1
  rounds ← kind_at Round (round_shape header.0) sites.1
  Ok (record { players = players.0; events = events.0; sites = sites.0; rounds = rounds.0 })

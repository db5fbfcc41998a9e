-- The names of a names file as far as it goes: those that stand before its first fault (this project's own).
use Rattle.std.specs.Prelude.{◌≡◌, ℕ, zero, suc, Bool, true, false, List, [], ◌∷◌, length, map, slice_get, Option, Some, None, Result, Ok, Err}
use Rattle.std.specs.List.{range_with_len}
use Rattle.name_base.specs.declared.header.Shape.{Shape}
use Rattle.name_base.specs.declared.header.Header.{Header}
use Rattle.name_base.specs.declared.kind.NameKind.{NameKind}
use Rattle.name_base.specs.declared.kind.NameKind.TheVariants.{Player, Event, Site, Round}
use Rattle.name_base.specs.declared.fault.NameWhat.{NameWhat}
use Rattle.name_base.specs.NameLists.{IsName, NameLists, limit_of}
use Rattle.name_base.specs.NamesFile.{Entry, player_shape, event_shape, site_shape, round_shape}
use Rattle.name_base.specs.Reading.{by_id, entry_at, has_id, header_at}

-- The names of a kind by id, with none if no name was met.
abbrev pub Known : Type 0
Known = List (Option (List ℕ))

-- The same for each kind.
pub record PartLists : Type 0 where
  pub players : Known
  pub events : Known
  pub sites : Known
  pub rounds : Known

-- No name of any kind.
abbrev pub no_part : PartLists
no_part = record { players = []; events = []; sites = []; rounds = [] }

abbrev pub part_of_kind : NameKind → PartLists → Known
part_of_kind Player lists = lists.players
part_of_kind Event lists = lists.events
part_of_kind Site lists = lists.sites
part_of_kind Round lists = lists.rounds

-- The name with an id, if one was met.
abbrev pub met_at : Option (Option (List ℕ)) → Option (List ℕ)
met_at (Some known) = known
met_at None = None

abbrev pub name_met : Known → ℕ → Option (List ℕ)
name_met names id = met_at (slice_get names id)

-- ---- reading as far as the first fault.

-- The names of a kind that were met, and the bytes after them if nothing was faulty.
abbrev pub Part : Type 0
Part = List Entry × Option (List ℕ)

-- What comes next, if the next name has no fault.
abbrev pub met_then : List Entry → Result (List Entry × List ℕ) NameWhat → (List Entry × List ℕ → Part) → Part
met_then met (Ok more) next = next more
met_then met (Err what) next = (met, None)

-- So many names more of a kind, after those that were met.
unfoldable pub entries_in_part : Shape → ℕ → List Entry → List ℕ → Part
entries_in_part shape zero met bytes = (met, Some bytes)
entries_in_part shape (suc n) met bytes = met_then met (entry_at shape met bytes) (λ more. entries_in_part shape n more.0 more.1)

-- The names of a kind, none behind a fault.
unfoldable pub kind_in_part : Shape → Option (List ℕ) → Part
kind_in_part shape None = ([], None)
kind_in_part shape (Some bytes) = entries_in_part shape shape.count [] bytes

-- Of each id below a count, whether a name with it was met.
abbrev pub marks : ℕ → List Entry → List Bool
marks count es = map (has_id es) (range_with_len 0 count)

-- The names where the marks are.
abbrev pub marked : List Bool → List (List ℕ) → Known
marked [] names = []
marked (mark ∷ marks) [] = []
marked (true ∷ marks) (name ∷ names) = Some name ∷ marked marks names
marked (false ∷ marks) (name ∷ names) = None ∷ marked marks names

-- There is a mark for each name, and those that are marked are names.
pub record AreKnown (marks : List Bool) (names : List (List ℕ)) : Type 0 where
  pub same : length marks ≡ length names
  pub each : (id : ℕ) (name : List ℕ) → name_met (marked marks names) id ≡ Some name → IsName name

-- The names that were met by id.
unfoldable pub known : ℕ → List Entry → Known
known count es = marked (marks count es) (by_id count es)

-- The names behind a header.
abbrev pub four_parts : Header → Part → Part → Part → Part → PartLists
four_parts h players events sites rounds = record {
  players = known h.counts.players players.0;
  events = known h.counts.events events.0;
  sites = known h.counts.sites sites.0;
  rounds = known h.counts.rounds rounds.0;
}

abbrev pub with_sites : Header → Part → Part → Part → PartLists
with_sites h players events sites = four_parts h players events sites (kind_in_part (round_shape h) sites.1)

abbrev pub with_events : Header → Part → Part → PartLists
with_events h players events = with_sites h players events (kind_in_part (site_shape h) events.1)

abbrev pub with_players : Header → Part → PartLists
with_players h players = with_events h players (kind_in_part (event_shape h) players.1)

abbrev pub behind_header : Result (Header × List ℕ) NameWhat → PartLists
behind_header (Err what) = no_part
behind_header (Ok read) = with_players read.0 (kind_in_part (player_shape read.0) (Some read.1))

-- The names of a file up to its first fault. Behind a faulty header there are none.
unfoldable pub names_in_part : List ℕ → PartLists
names_in_part bytes = behind_header (header_at bytes)

-- ---- names for all ids.

-- `?`, which stands for a name that is not known.
abbrev pub unknown : List ℕ
unknown = 63 ∷ []

abbrev pub or_unknown : Option (List ℕ) → List ℕ
or_unknown (Some name) = name
or_unknown None = unknown

-- Names for so many ids: those that were met, and `?` for all others.
unfoldable pub filled : ℕ → Known → List (List ℕ)
filled limit names = map (λ id. or_unknown (name_met names id)) (range_with_len 0 limit)

-- Names for all ids that an entry can have.
abbrev pub filled_names : PartLists → NameLists
filled_names lists = record {
  players = filled (limit_of Player) lists.players;
  events = filled (limit_of Event) lists.events;
  sites = filled (limit_of Site) lists.sites;
  rounds = filled (limit_of Round) lists.rounds;
}

-- All names of these lists, as known ones.
abbrev pub all_known : NameLists → PartLists
all_known lists = record { players = map Some lists.players; events = map Some lists.events; sites = map Some lists.sites; rounds = map Some lists.rounds }

-- The names of a base as four lists without repeats. This project's own.
use Rattle.std.specs.Prelude.{◌≡◌, ◌≤◌, ◌==◌, ℕ, Bool, false, List, [], ◌∷◌, ◌++◌, if◌then◌else◌, length, Option, position}
use Rattle.std.specs.List.{list_any, AllByRecursion, IsDistinct}
use Rattle.std.specs.Str.{bytes_eq}
use Rattle.name_base.specs.declared.kind.NameKind.{NameKind}
use Rattle.name_base.specs.declared.kind.NameKind.TheVariants.{Player, Event, Site, Round}

-- The names of each kind by id: the name with the id n stands at place n. This project's own.
pub record NameLists : Type 0 where
  pub players : List (List ℕ)
  pub events : List (List ℕ)
  pub sites : List (List ℕ)
  pub rounds : List (List ℕ)

-- The lists of a base without names.
abbrev pub no_names : NameLists
no_names = record { players = []; events = []; sites = []; rounds = [] }

-- The list of one kind.
abbrev pub of_kind : NameKind → NameLists → List (List ℕ)
of_kind Player lists = lists.players
of_kind Event lists = lists.events
of_kind Site lists = lists.sites
of_kind Round lists = lists.rounds

-- The lists with another list for one kind, and the other kinds as they are.
abbrev pub with_kind : NameKind → NameLists → List (List ℕ) → NameLists
with_kind Player lists names = record lists { players = names }
with_kind Event lists names = record lists { events = names }
with_kind Site lists names = record lists { sites = names }
with_kind Round lists names = record lists { rounds = names }

-- How many names of a kind a base holds at most: what the ids of an index entry can tell apart (20, 19, 19 and 18 bits).
abbrev pub limit_of : NameKind → ℕ
limit_of Player = 1048576
limit_of Event = 524288
limit_of Site = 524288
limit_of Round = 262144

-- The id of a name among the names of a kind, or none.
abbrev pub id_in : List (List ℕ) → List ℕ → Option ℕ
id_in names name = position (bytes_eq name) names

-- Whether a name is among some names.
abbrev pub is_in : List (List ℕ) → List ℕ → Bool
is_in names name = list_any (bytes_eq name) names

-- The names with one more, which comes last unless it is there.
abbrev pub with_name : List (List ℕ) → List ℕ → List (List ℕ)
with_name names name = if is_in names name then names else names ++ name ∷ []

-- Whether a text holds a zero byte.
abbrev pub has_zero : List ℕ → Bool
has_zero text = list_any (λ byte. byte == 0) text

-- A text that can be a name: at most 255 bytes, none of them zero.
pub record IsName (text : List ℕ) : Type 0 where
  pub long : length text ≤ 255
  pub whole : has_zero text ≡ false

-- The names of one kind: names, each there once, and no more than the limit.
pub record AreNames (limit : ℕ) (names : List (List ℕ)) : Type 0 where
  pub each : AllByRecursion IsName names
  pub once : IsDistinct bytes_eq names
  pub within : length names ≤ limit

-- What holds of the lists of every base.
pub record AreSound (lists : NameLists) : Type 0 where
  pub players : AreNames (limit_of Player) lists.players
  pub events : AreNames (limit_of Event) lists.events
  pub sites : AreNames (limit_of Site) lists.sites
  pub rounds : AreNames (limit_of Round) lists.rounds

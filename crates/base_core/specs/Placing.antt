-- Placing a game with its names, as the functions of this crate go through it (this project's own).
use Rattle.std.specs.Prelude.{◌≡◌, ◌≤◌, ⊤, ℕ, length, take, slice_get, Some}
use Rattle.game_tree.specs.declared.head.Head.{Head}
use Rattle.index_entry.specs.declared.entry.Entry.{Entry}
use Rattle.name_base.specs.NameLists.{NameLists}
use Rattle.name_base.specs.declared.kind.NameKind.{NameKind}
use Rattle.name_base.specs.declared.kind.NameKind.TheVariants.{Player, Event, Site, Round}
use Rattle.sig_index.specs.declared.signature.Sig.{Sig}
use Rattle.base_core.specs.declared.fault.EditError.{EditError}
use Rattle.base_core.specs.declared.fault.EditError.TheVariants as error
use Rattle.base_core.specs.declared.fault.What.{What}
use Rattle.base_core.specs.declared.fault.What.TheVariants as what
use Rattle.base_core.specs.declared.naming.NameCounts.{NameCounts}
use Rattle.base_core.specs.declared.naming.NameIds.{NameIds}

-- The ids are those of the names of a head.
pub record AreIds (names : NameLists) (head : Head) (ids : NameIds) : Type 0 where
  pub white : slice_get names.players ids.white ≡ Some head.white
  pub black : slice_get names.players ids.black ≡ Some head.black
  pub event : slice_get names.events ids.event ≡ Some head.event
  pub site : slice_get names.sites ids.site ≡ Some head.site
  pub round : slice_get names.rounds ids.round ≡ Some head.round

-- The names of a kind, as what may be full.
abbrev pub names_of : NameKind → What
names_of Player = what.Players
names_of Event = what.Events
names_of Site = what.Sites
names_of Round = what.Rounds

-- Names are full only so, and nothing else comes but want of memory.
abbrev pub IfFull : (What → Type 0) → EditError → Type 0
IfFull Fact (error.Full thing) = Fact thing
IfFull Fact error.Memory = ⊤
IfFull Fact _ = ⊥

-- The entry of a game with this head and signature, whose record has so many bytes and begins there.
unfoldable pub entry_with : NameIds → Head → Sig → ℕ → ℕ → Entry
entry_with ids head s len offset = record {
  offset = offset;
  len = len;
  own_start = s.own_start;
  promo = s.promo;
  under = s.under;
  deleted = head.deleted;
  marks = head.marks;
  white = ids.white;
  black = ids.black;
  event = ids.event;
  site = ids.site;
  round = ids.round;
  vars = s.vars;
  comments = s.comments;
  nags = s.nags;
  result = head.result;
  eco = head.eco;
  date = head.date;
  event_date = head.event_date;
  white_rating = head.white_rating;
  black_rating = head.black_rating;
  material = s.material;
  plies = s.plies;
  home_count = s.home.count;
  home = s.home.values;
}

-- So many names there are of each kind.
pub record AreCountsOf (names : NameLists) (counts : NameCounts) : Type 0 where
  pub players : counts.players ≡ length names.players
  pub events : counts.events ≡ length names.events
  pub sites : counts.sites ≡ length names.sites
  pub rounds : counts.rounds ≡ length names.rounds

-- There are at least so many.
pub record AreWithin (counts : NameCounts) (names : NameLists) : Type 0 where
  pub players : counts.players ≤ length names.players
  pub events : counts.events ≤ length names.events
  pub sites : counts.sites ≤ length names.sites
  pub rounds : counts.rounds ≤ length names.rounds

-- The first so many names of each kind.
abbrev pub cut_to : NameCounts → NameLists → NameLists
cut_to counts names = record {
  players = take counts.players names.players;
  events = take counts.events names.events;
  sites = take counts.sites names.sites;
  rounds = take counts.rounds names.rounds;
}

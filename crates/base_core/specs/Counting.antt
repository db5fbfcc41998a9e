-- Counting the uses of names, as the functions of this crate go through it.
use Rattle.std.specs.Prelude.{◌<◌, ◌+◌, ℕ, min, List, length, slice_index, slice_set}
use Rattle.index_entry.specs.declared.entry.Entry.{Entry}
use Rattle.name_base.specs.NamesText.{Frequencies}
use Rattle.base_core.specs.Uses.{greatest_frequency}

-- The frequencies of a kind with one use more of an id.
abbrev pub one_more : ℕ → List ℕ → List ℕ
one_more id uses = slice_set uses id (min (slice_index uses id + 1) greatest_frequency)

-- The frequencies with the uses of one game more.
abbrev pub with_uses : Frequencies → Entry → Frequencies
with_uses f e = record {
  players = one_more e.black (one_more e.white f.players);
  events = one_more e.event f.events;
  sites = one_more e.site f.sites;
  rounds = one_more e.round f.rounds;
}

-- There is a frequency for each id of an entry.
pub record HasUses (f : Frequencies) (e : Entry) : Type 0 where
  pub white : e.white < length f.players
  pub black : e.black < length f.players
  pub event : e.event < length f.events
  pub site : e.site < length f.sites
  pub round : e.round < length f.rounds

-- How often the games of a base use its names (Scid's format si4; that a count stands still at the greatest number of three bytes is this
-- project's own).
use Rattle.std.specs.Prelude.{ℕ, ◌+◌, min, nat_eq, List, length, map, count_by}
use Rattle.std.specs.List.{range_with_len}
use Rattle.index_entry.specs.declared.entry.Entry.{Entry}
use Rattle.name_base.specs.NameLists.{NameLists}
use Rattle.name_base.specs.NamesText.{Frequencies}

-- The greatest frequency that is written.
abbrev pub greatest_frequency : ℕ
greatest_frequency = 16777215

-- How many entries have this id in a field.
abbrev pub uses_of : (Entry → ℕ) → List Entry → ℕ → ℕ
uses_of field entries id = count_by (λ e. nat_eq (field e) id) entries

-- A player is used by the games of both colours.
abbrev pub player_uses : List Entry → ℕ → ℕ
player_uses entries id = uses_of (λ e. e.white) entries id + uses_of (λ e. e.black) entries id

-- The frequencies of so many names by id.
unfoldable pub counted : ℕ → (ℕ → ℕ) → List ℕ
counted count uses = map (λ id. min (uses id) greatest_frequency) (range_with_len 0 count)

-- The frequencies of all names.
abbrev pub frequencies_of : NameLists → List Entry → Frequencies
frequencies_of names entries = record {
  players = counted (length names.players) (player_uses entries);
  events = counted (length names.events) (uses_of (λ e. e.event) entries);
  sites = counted (length names.sites) (uses_of (λ e. e.site) entries);
  rounds = counted (length names.rounds) (uses_of (λ e. e.round) entries);
}

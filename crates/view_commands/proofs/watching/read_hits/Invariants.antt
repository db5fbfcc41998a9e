use Rattle.std.proofs.Common.{◌≡◌, ◌≤◌, ◌+◌, ℕ, List, Option, Some, length, map, take, option_copied}
use Rattle.base_core.specs.Base.{Base, Held}
use Rattle.base_core.specs.Represents.{Represents}
use Rattle.pos_index.specs.Hits.{IndexesAll, rows_told}
use Rattle.pos_search.specs.Telling.{AreLegalHits, hits_told}
use Rattle.shell_state.specs.Slots.{hit_of_game}
use Rattle.view_commands.proofs.PriceLaws.{price_of_first}
use Rattle.view_commands.proofs.watching.read_hits.Given as goal

-- The hits of the games before this one, and no more than their records was asked.
abbrev pub invariant-loop-i : goal.invariant-loop-i
invariant-loop-i g l = record {
  told : l.told ≡ hits_told l.sought (rows_told (option_copied l.index));
  legal : AreLegalHits l.sought l.told;
  hits : (told : List ℕ) (all : Base) → (g.F.Files.seen l.fn.files).games ≡ Some told → Represents l.base told all
      → IndexesAll (option_copied l.index) (map (λ (held : Held). held.game) all.games) → l.hits.items ≡ map (hit_of_game l.sought) (take l.i all.games);
  number : length l.hits.items ≡ l.i;
  room : length l.block ≡ 131072;
  seen : g.F.Files.seen l.files ≡ g.F.Files.seen l.fn.files;
  asks : (plies : List (Option ℕ)) → length plies ≡ length l.base.entries
      → g.F.Files.asked l.files ≤ g.F.Files.asked l.fn.files + price_of_first l.sought (rows_told (option_copied l.index)) l.base plies l.i;
  files : g.F.Files.faults l.fn.files ≤ g.F.Files.faults l.files;
}

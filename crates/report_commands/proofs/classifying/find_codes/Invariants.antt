use Rattle.std.proofs.Common.{◌≡◌, ◌≤◌, ℕ, ◌+◌, List, Some, All, length, map, take, sum_by}
use Rattle.base_files.specs.declared.extent.Extent.{Extent}
use Rattle.eco_class.specs.Table.{eco_of}
use Rattle.game_tree.specs.Game.{GameTree}
use Rattle.sig_index.specs.Games.{Holds}
use Rattle.report_commands.proofs.classifying.find_codes.Given as goal
use Rattle.report_commands.specs.Ends.{IsCode}

-- The codes of the games before this one were found, and their records were asked for.
abbrev pub invariant-loop-i : goal.invariant-loop-i
invariant-loop-i g l = record {
  found : (told : List ℕ) (list : List GameTree) → (g.F.Files.seen l.fn.files).games ≡ Some told
      → Holds told (g.G.Games.extents l.games) (g.G.Games.sigs l.games) list
      → l.codes.items ≡ map (eco_of l.table) (take l.i list);
  count : length l.codes.items ≡ l.i;
  small : All IsCode l.codes.items;
  room : length l.block ≡ 131072;
  unchanged : g.F.Files.seen l.files ≡ g.F.Files.seen l.fn.files;
  asks : g.F.Files.asked l.files ≤ g.F.Files.asked l.fn.files + sum_by (λ (place : Extent). place.len) (take l.i (g.G.Games.extents l.games));
  counts : g.F.Files.faults l.fn.files ≤ g.F.Files.faults l.files;
}

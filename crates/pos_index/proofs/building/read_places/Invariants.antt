use Rattle.std.proofs.Common.{◌≡◌, ◌≤◌, ℕ, ◌+◌, List, Some, length, map, sum_by, take}
use Rattle.base_files.specs.declared.extent.Extent.{Extent}
use Rattle.game_tree.specs.Game.{GameTree}
use Rattle.sig_index.specs.Games.{Holds}
use Rattle.pos_index.specs.Hits.{row_of}
use Rattle.pos_index.proofs.IndexLemmas.{AreShort}
use Rattle.pos_index.proofs.building.read_places.Given as goal

-- The games before this one were read and their places are put.
abbrev pub invariant-loop-i : goal.invariant-loop-i
invariant-loop-i g l = record {
  games : length l.places ≡ l.i;
  short : AreShort (l.depth + 1) l.places;
  read : (told : List ℕ) (list : List GameTree) → (g.F.Files.seen l.fn.files).games ≡ Some told → Holds told (g.G.Games.extents l.games) (g.G.Games.sigs l.games) list
      → l.places ≡ map (row_of l.depth) (map Some (take l.i list));
  unchanged : g.F.Files.seen l.files ≡ g.F.Files.seen l.fn.files;
  asks : g.F.Files.asked l.files ≤ g.F.Files.asked l.fn.files + sum_by (λ (extent : Extent). extent.len) (take l.i (g.G.Games.extents l.games));
  counts : g.F.Files.faults l.fn.files ≤ g.F.Files.faults l.files;
}

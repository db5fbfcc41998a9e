use Rattle.std.proofs.Common.{◌≡◌, ◌≤◌, ℕ, ◌+◌, List, Some, filter}
use Rattle.std.specs.List.{range_with_len}
use Rattle.base_files.specs.Counters.{raised}
use Rattle.game_tree.specs.Game.{GameTree}
use Rattle.sig_index.specs.Games.{Holds}
use Rattle.twin_games.specs.Asking.{price_below}
use Rattle.twin_games.specs.Keys.{HasMet}
use Rattle.twin_games.specs.Twins.{is_twin}
use Rattle.twin_games.proofs.ListLemmas.{Rises}
use Rattle.twin_games.proofs.finding.twins.Given as goal

-- The twins among the games before this one were listed, and the records of the shared ones among them were asked for, and no others.
abbrev pub invariant-loop-i : goal.invariant-loop-i
invariant-loop-i g l = record {
  done : (told : List ℕ) (list : List GameTree) → (g.F.Files.seen l.fn.files).games ≡ Some told
      → Holds told (g.G.Games.extents l.games) (g.G.Games.sigs l.games) list
      → (l.twins.items ≡ filter (is_twin (g.G.Games.heads l.games) list l.depth) (range_with_len 0 l.i))
      × HasMet (g.G.Games.heads l.games) list l.depth l.i l.met;
  rises : Rises l.twins.items l.i;
  unchanged : g.F.Files.seen l.files ≡ g.F.Files.seen l.fn.files;
  asks : g.F.Files.asked l.files ≤ g.F.Files.asked l.fn.files + price_below (g.G.Games.heads l.games) (g.G.Games.extents l.games) l.i;
  asked : raised (g.F.Files.asked l.fn.files) (price_below (g.G.Games.heads l.games) (g.G.Games.extents l.games) l.i) ≤ g.F.Files.asked l.files;
  counts : g.F.Files.faults l.fn.files ≤ g.F.Files.faults l.files;
}

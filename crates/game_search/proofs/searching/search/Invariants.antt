use Rattle.std.proofs.Common.{◌≡◌, ◌≤◌, ◌<◌, ℕ, ◌+◌, false, List, None, Some, get_or, length, map, take}
use Rattle.std.specs.Prelude.{slice_get}
use Rattle.base_files.specs.Counters.{raised}
use Rattle.game_filter.specs.Search.{entry_after, looks_at, searched}
use Rattle.game_search.specs.Questions.{AreRight, Unread, cost_of, reads_from}
use Rattle.game_tree.specs.Game.{GameTree}
use Rattle.sig_index.specs.Costs.{KeepsOthers, price_by}
use Rattle.sig_index.specs.Games.{Holds}
use Rattle.sig_index.specs.declared.signature.Sig.{Sig}
use Rattle.sig_index.proofs.CostLemmas.{Untouched}
use Rattle.game_search.proofs.searching.search.Given as goal

-- The games before this one were searched, those that need not be read without their records, the others have their old entries, and the
-- records of those that have to be read were asked for, and no others.
abbrev pub invariant-loop-i : goal.invariant-loop-i
invariant-loop-i g l = record {
  done : (unread : Unread) (told : List ℕ) (list : List GameTree) → g.Q.Question.tells l.fn.q unread → (g.F.Files.seen l.fn.files).games ≡ Some told
      → Holds told (g.G.Games.extents l.games) (g.G.Games.sigs l.games) list → AreRight unread (g.Q.Question.first l.fn.q) (g.G.Games.sigs l.games) list
      → l.filter ≡ searched l.op (take l.i (map (g.Q.Question.first l.fn.q) list)) l.fn.filter;
  rest : Untouched l.fn.filter l.filter l.i;
  kept : KeepsOthers (looks_at l.op) l.fn.filter l.filter;
  skipped : (unread : Unread) (k : ℕ) (sig : Sig) → g.Q.Question.tells l.fn.q unread → k < l.i → slice_get (g.G.Games.sigs l.games) k ≡ Some sig → unread.reads k sig ≡ false
      → get_or l.filter k None ≡ entry_after l.op (get_or l.fn.filter k None) (unread.ply k);
  same : l.q ≡ l.fn.q;
  entries : length l.filter ≡ length l.fn.filter;
  unchanged : g.F.Files.seen l.files ≡ g.F.Files.seen l.fn.files;
  asks : (unread : Unread) → g.Q.Question.tells l.fn.q unread → g.F.Files.asked l.files ≤ g.F.Files.asked l.fn.files
      + price_by (cost_of l.op) (take l.i (reads_from unread.reads 0 (g.G.Games.sigs l.games))) (g.G.Games.extents l.games) l.fn.filter;
  asked : (unread : Unread) → g.Q.Question.tells l.fn.q unread → raised (g.F.Files.asked l.fn.files)
      (price_by (cost_of l.op) (take l.i (reads_from unread.reads 0 (g.G.Games.sigs l.games))) (g.G.Games.extents l.games) l.fn.filter) ≤ g.F.Files.asked l.files;
  counts : g.F.Files.faults l.fn.files ≤ g.F.Files.faults l.files;
}

use Rattle.std.proofs.Common.{◌≡◌, ◌≤◌, ◌+◌, ℕ, List, Option, Some, All, length, map, take}
use Rattle.base_core.specs.Base.{Base, Held}
use Rattle.base_core.specs.Represents.{Represents, extents_of, sigs_of}
use Rattle.base_files.specs.Counters.{raised}
use Rattle.game_filter.specs.declared.op.Op.TheVariants.{And}
use Rattle.pos_index.specs.Hits.{Index, IndexesAll, Place, rows_told}
use Rattle.game_search.specs.Questions.{cost_of}
use Rattle.pos_search.specs.Searching.{are_read}
use Rattle.pos_search.specs.Telling.{AreLegalHits, hits_told}
use Rattle.sig_index.specs.Costs.{price_by}
use Rattle.tree_rows.specs.MoveText.{IsKey}
use Rattle.tree_rows.specs.Rows.{AreRows, rows_of}
use Rattle.search_commands.proofs.trees.read_rows.Given as goal
use Rattle.shell_state.specs.Meeting.{tree_hits}

-- The rows of the games before this one, and their records were asked, no more and no less.
abbrev pub invariant-loop-i : goal.invariant-loop-i
invariant-loop-i g l = record {
  told : l.told ≡ l.fn.told;
  legal : AreLegalHits l.query l.told;
  rows : (contents : List ℕ) (all : Base) (index : Option Index) → (g.F.Files.seen l.fn.files).games ≡ Some contents → Represents l.base contents all
      → l.fn.told ≡ hits_told l.query (rows_told index) → IndexesAll index (map (λ (held : Held). held.game) all.games) → l.rows ≡ rows_of (tree_hits l.query (take l.i l.filter) (take l.i all.games));
  counted : AreRows l.i l.rows;
  keys : All (λ row. IsKey l.query.board l.query.side row.key) l.rows;
  room : length l.block ≡ 131072;
  seen : g.F.Files.seen l.files ≡ g.F.Files.seen l.fn.files;
  asks : (rows : List (List Place)) → l.fn.told ≡ hits_told l.query rows
      → g.F.Files.asked l.files ≤ g.F.Files.asked l.fn.files + price_by (cost_of And) (take l.i (are_read l.query rows (sigs_of l.base))) (extents_of l.base) l.filter;
  asked : (rows : List (List Place)) → l.fn.told ≡ hits_told l.query rows
      → raised (g.F.Files.asked l.fn.files) (price_by (cost_of And) (take l.i (are_read l.query rows (sigs_of l.base))) (extents_of l.base) l.filter) ≤ g.F.Files.asked l.files;
  files : g.F.Files.faults l.fn.files ≤ g.F.Files.faults l.files;
}

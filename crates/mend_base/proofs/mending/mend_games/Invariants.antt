use Rattle.std.proofs.Common.{◌≡◌, ◌≤◌, ◌+◌, length, IfSome}
use Rattle.base_files.specs.Seen.{FreshAlone}
use Rattle.mend_base.specs.Entries.{entries_found}
use Rattle.mend_base.specs.Finding.{entries_cost}
use Rattle.mend_base.specs.Mending.{HasMended}
use Rattle.mend_base.proofs.mending.mend_games.Given as goal

-- The games so far are mended; the old files told nothing else, and were asked for the records so far.
abbrev pub invariant-loop-game : goal.invariant-loop-game
invariant-loop-game g l = record {
  mended : IfSome (g.F.Files.seen l.fn.old).games (λ games.
      HasMended l.game l.fn.header l.fn.source.way l.fn.source.index.now l.fn.source.names.now games (g.R.Report.told l.fn.report) (g.R.Report.told l.report) l.changed l.draft (g.N.Files.seen l.new).fresh);
  few : length l.draft.entries ≤ l.game;
  small : l.changed ≤ l.game;
  within : l.game ≤ entries_found l.fn.source.index.now;
  alone : FreshAlone (g.N.Files.seen l.fn.new) (g.N.Files.seen l.new);
  unchanged : g.F.Files.seen l.old ≡ g.F.Files.seen l.fn.old;
  asks : g.F.Files.asked l.old ≤ g.F.Files.asked l.fn.old + entries_cost l.fn.source.index.now l.game;
  none_asked : g.N.Files.asked l.new ≡ g.N.Files.asked l.fn.new;
  old_counts : g.F.Files.faults l.fn.old ≤ g.F.Files.faults l.old;
  new_counts : g.N.Files.faults l.fn.new ≤ g.N.Files.faults l.new;
  report_counts : g.R.Report.faults l.fn.report ≤ g.R.Report.faults l.report;
}

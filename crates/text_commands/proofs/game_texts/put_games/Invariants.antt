use Rattle.std.proofs.Common.{◌≡◌, ◌≤◌, ◌+◌, ℕ, List, Some, drop, length}
use Rattle.base_core.specs.Base.{Base}
use Rattle.base_core.specs.Represents.{Represents}
use Rattle.base_files.specs.Counters.{raised}
use Rattle.base_files.specs.Told.{adds}
use Rattle.command_runs.specs.Endings.{NoneLost}
use Rattle.text_commands.proofs.ShownLaws.{PutsFirst}
use Rattle.text_commands.proofs.game_texts.put_games.Given as goal
use Rattle.text_commands.specs.GameTexts.{exported_first, exported_len}

-- The games before this one are written or wait, and their records were asked, no more and no less.
abbrev pub invariant-loop-i : goal.invariant-loop-i
invariant-loop-i g l = record {
  put : (told : List ℕ) (all : Base) → (g.F.Files.seen l.fn.files).games ≡ Some told → Represents l.base told all
      → adds (g.K.Sink.taken l.out) l.page.items ≡ adds (adds (g.K.Sink.taken l.fn.out) l.fn.page.items) (exported_first l.i l.filter all.games);
  shown : PutsFirst l.base l.filter l.i (adds (g.K.Sink.taken l.fn.out) l.fn.page.items) (adds (g.K.Sink.taken l.out) l.page.items);
  none_lost : NoneLost (g.K.Sink.taken l.fn.out) (g.K.Sink.taken l.out);
  room : length l.block ≡ 131072;
  seen : g.F.Files.seen l.files ≡ g.F.Files.seen l.fn.files;
  asks : g.F.Files.asked l.files + exported_len (drop l.i l.filter) (drop l.i l.base.entries) ≤ g.F.Files.asked l.fn.files + exported_len l.filter l.base.entries;
  asked : raised (g.F.Files.asked l.fn.files) (exported_len l.filter l.base.entries) ≤ raised (g.F.Files.asked l.files) (exported_len (drop l.i l.filter) (drop l.i l.base.entries));
  files : g.F.Files.faults l.fn.files ≤ g.F.Files.faults l.files;
  output : g.K.Sink.faults l.fn.out ≤ g.K.Sink.faults l.out;
}

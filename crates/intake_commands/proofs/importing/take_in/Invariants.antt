use Rattle.std.proofs.Common.{◌≡◌, ◌≤◌, ◌-◌, ℕ, List, Some, None}
use Rattle.base_files.specs.Told.{adds}
use Rattle.command_runs.specs.Counts.{NoneFell, counts}
use Rattle.command_runs.specs.Endings.{NoneLost}
use Rattle.pgn_read.specs.Readers.{told}
use Rattle.intake_commands.proofs.importing.take_in.Given as goal
use Rattle.intake_commands.specs.Intakes.{StandsLater, TookIn}
use Rattle.shell_state.specs.Stands.{Sound, Stands}
use Rattle.shell_state.specs.State.{State}

-- The items so far were taken in, and no fault is forgotten.
abbrev pub invariant-loop-taken : goal.invariant-loop-taken
invariant-loop-taken g l = record {
  took : (s : State) (text : List ℕ) → Stands l.fn.machine (g.F.Files.seen l.fn.files) s → g.B.Source.left l.fn.body ≡ Some text
      → TookIn l.machine (g.F.Files.seen l.files) s text (told l.reader (g.B.Source.left l.body)) (adds (g.K.Sink.taken l.fn.out) l.fn.page.items) (adds (g.K.Sink.taken l.out) l.page.items) l.added (l.taken - l.added);
  none_lost : NoneLost (g.K.Sink.taken l.fn.out) (g.K.Sink.taken l.out);
  few : l.added ≤ l.taken;
  free : l.reader.stuck ≡ None;
  sound : Sound l.machine (g.F.Files.seen l.files);
  stays : (s : State) → Stands l.fn.machine (g.F.Files.seen l.fn.files) s → StandsLater l.machine (g.F.Files.seen l.files) s;
  choices : (g.F.Files.seen l.files).choices ≡ (g.F.Files.seen l.fn.files).choices;
  asked : g.F.Files.asked l.files ≡ g.F.Files.asked l.fn.files;
  same : g.B.Source.origin l.body ≡ g.B.Source.origin l.fn.body;
  counts : NoneFell (counts (g.F.Files.faults l.fn.files) (g.B.Source.faults l.fn.body) (g.K.Sink.faults l.fn.out)) (counts (g.F.Files.faults l.files) (g.B.Source.faults l.body) (g.K.Sink.faults l.out));
}

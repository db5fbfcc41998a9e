use Rattle.std.proofs.Common.{◌≡◌, ◌≤◌, ◌*◌}
use Rattle.command_runs.specs.Counts.{NoneFell, counts}
use Rattle.search_commands.proofs.demoing.add_games.Given as goal
use Rattle.search_commands.specs.Demo.{adding}
use Rattle.search_commands.specs.Demoing.{IsAdding}
use Rattle.shell_state.specs.Stands.{Sound, Stands}
use Rattle.shell_state.specs.State.{State}

-- The games below this number are added, and no fault is forgotten.
abbrev pub invariant-loop-number : goal.invariant-loop-number
invariant-loop-number g l = record {
  adds : (s : State) → Stands l.fn.machine (g.F.Files.seen l.fn.files) s → IsAdding l.machine (g.F.Files.seen l.files) l.generator l.sum (adding s l.seed l.number);
  short : l.sum ≤ 60 * l.number;
  sound : Sound l.machine (g.F.Files.seen l.files);
  choices : (g.F.Files.seen l.files).choices ≡ (g.F.Files.seen l.fn.files).choices;
  asked : g.F.Files.asked l.files ≡ g.F.Files.asked l.fn.files;
  counts : NoneFell (counts (g.F.Files.faults l.fn.files) 0 0) (counts (g.F.Files.faults l.files) 0 0);
}

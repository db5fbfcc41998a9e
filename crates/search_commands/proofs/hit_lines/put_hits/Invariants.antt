use Rattle.std.proofs.Common.{◌≡◌, ◌≤◌, take}
use Rattle.base_files.specs.Told.{adds, Grew}
use Rattle.search_commands.proofs.hit_lines.put_hits.Given as goal
use Rattle.shell_state.specs.Lines.{hit_lines}

-- What was taken and the text that waits are the lines of the games so far.
abbrev pub invariant-loop-game : goal.invariant-loop-game
invariant-loop-game g l = record {
  lines : adds (g.K.Sink.taken l.out) (l.text.items) ≡ adds (g.K.Sink.taken l.fn.out) (hit_lines 0 (take l.game l.filter));
  none_lost : Grew (g.K.Sink.taken l.fn.out) (g.K.Sink.taken l.out);
  counts : g.K.Sink.faults l.fn.out ≤ g.K.Sink.faults l.out;
}

use Rattle.std.proofs.Common.{◌≡◌, ◌≤◌, take}
use Rattle.base_core.specs.Represents.{heads_of}
use Rattle.base_files.specs.Told.{adds, Grew}
use Rattle.shell_state.specs.Lines.{texts_from}
use Rattle.text_commands.proofs.listing.put_list.Given as goal
use Rattle.text_commands.specs.Listing.{listed_if_in}

-- What was taken and the text that waits are the lines of the games so far.
abbrev pub invariant-loop-i : goal.invariant-loop-i
invariant-loop-i g l = record {
  lines : adds (g.K.Sink.taken l.out) l.text.items ≡ adds (g.K.Sink.taken l.fn.out) (texts_from listed_if_in 0 (take l.i l.filter) (take l.i (heads_of l.base)));
  none_lost : Grew (g.K.Sink.taken l.fn.out) (g.K.Sink.taken l.out);
  counts : g.K.Sink.faults l.fn.out ≤ g.K.Sink.faults l.out;
}

use Rattle.std.proofs.Common.{◌≡◌, ◌≤◌, length}
use Rattle.mend_base.specs.Loose.{marks_of}
use Rattle.mend_base.specs.Ways.{known_entries}
use Rattle.mend_base.proofs.loose.mark_records.Given as goal

-- The records of the entries so far are marked.
abbrev pub invariant-loop-game : goal.invariant-loop-game
invariant-loop-game l = record {
  marked : l.marks ≡ marks_of l.fn.index l.fn.end l.game;
  long : length l.marks ≡ l.fn.end;
}

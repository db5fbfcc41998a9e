use Rattle.std.proofs.Common.{◌≡◌, length, take}
use Rattle.report_commands.proofs.twin_marks.delete_all.Given as goal
use Rattle.report_commands.specs.Ends.{Marked}

-- The games so far are marked.
abbrev pub invariant-loop-game : goal.invariant-loop-game
invariant-loop-game l = record {
  marked : Marked (take l.game-index l.games) l.initial.base l.base;
  count : length l.base.entries ≡ length l.initial.base.entries;
}

use Rattle.std.proofs.Common.{◌<◌, ◌≤◌, ◌-◌}
use Rattle.book_pages.specs.Meeting.{count_from}
use Rattle.book_pages.proofs.finding.raised.Given as goal

-- So few reach too many boards, and so many reach few enough.
abbrev pub invariant-loop-enough : goal.invariant-loop-enough
invariant-loop-enough l = record {
  asked : l.asked ≤ l.fewer;
  less : l.fewer < l.enough;
  many : 20000 < count_from l.met l.fewer;
  few : count_from l.met l.enough ≤ 20000;
}

abbrev pub decreases-loop-enough : goal.decreases-loop-enough
decreases-loop-enough l = l.enough - l.fewer

use Rattle.std.proofs.Common.{◌<◌, ◌≤◌, ◌^◌, take}
use Rattle.std.specs.Prelude.{All}
use Rattle.book_pages.proofs.finding.above_all.Given as goal

-- No more games reach a board so far.
abbrev pub invariant-loop-one : goal.invariant-loop-one
invariant-loop-one l = record {
  each : All (λ many. many.games ≤ l.most) (take l.one-index l.met);
  small : l.most < 2 ^ 32;
}

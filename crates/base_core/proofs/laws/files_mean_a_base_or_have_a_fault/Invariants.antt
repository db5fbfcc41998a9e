use Rattle.std.proofs.Common.{◌<◌, ℕ}
use Rattle.base_core.specs.Reading.{IsGameDecided}
use Rattle.base_core.proofs.laws.files_mean_a_base_or_have_a_fault.Given as goal

-- The games so far are decided.
abbrev pub invariant-loop-game : goal.invariant-loop-game
invariant-loop-game l = record {
  decided : (i : ℕ) → i < l.game → IsGameDecided l.fn.index l.fn.games i;
}

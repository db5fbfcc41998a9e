-- The bits of the values so far.
use Rattle.chess_laws.specs.Counts.{is_home}
use Rattle.chess_laws.proofs.Home.{Bits}
use Rattle.pos_index.proofs.last.home_set.Given as goal

abbrev pub invariant-loop-value : goal.invariant-loop-value
invariant-loop-value l = Bits (is_home l.board) l.set l.value

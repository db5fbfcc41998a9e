use Rattle.std.proofs.Common.{take}
use Rattle.game_tree.proofs.decimal.value_of.Given as goal
use Rattle.game_tree.proofs.DecimalLemmas.{IsValue}

abbrev pub invariant-loop-digit : goal.invariant-loop-digit
invariant-loop-digit l = IsValue l.limit (take l.digit-index l.digits) l.number

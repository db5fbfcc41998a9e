use Rattle.game_tree.proofs.DecimalLemmas.{value_over}
use Rattle.game_tree.proofs.decimal.value_of.Goals as goal

pub returns-in_default : goal.returns-in_default
returns-in_default c =
    value_over c.args.limit c.loop-digit.number c.args.digits.now c.loop-digit.digit-index _ c.loop-digit-test.true c.loop-digit.invariant
    c.in_default.ensures

use Rattle.std.proofs.Common.{arith}
use Rattle.pgn_read.proofs.ClearLaws.{passed_clear}
use Rattle.pgn_read.proofs.window.Window.drop_front.Goals as goal

pub invariant_of-self : goal.invariant_of-self
invariant_of-self c = (
  omega (arith, c.self.invariant.0),
  rw c.pass.ensures.rest
      (passed_clear c.self.inside.clear c.behind-self-inside.result c.args.count c.self.inside.buffer c.self.invariant.1
      c.behind-self-inside.ensures.braces c.behind-self-inside.ensures.zeros),
)

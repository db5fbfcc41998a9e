-- The man enters his sets, where one comes.
use Rattle.cell_core.proofs.Squares.{entered}
use Rattle.cell_core.proofs.board.Board.enter.Goals as goal

pub invariant_of-self : goal.invariant_of-self
invariant_of-self c =
    entered c.self.inside.cells c.args.number c.self.inside.sets c.add.new.self c.in-Some.entering c.self.invariant (rw (← c.self.view_is) at c.requires.empty) c.add.ensures.sets

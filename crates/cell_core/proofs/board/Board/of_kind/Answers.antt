use Rattle.cell_core.proofs.board.Board.of_kind.Goals as goal

pub returns : goal.returns
returns c = rw (← c.self.view_is) (record { squares = c.of_kind.ensures.squares c.self.inside.cells c.self.invariant.sets })

use Rattle.cell_core.proofs.board.Board.of_colour.Goals as goal

pub returns : goal.returns
returns c = rw (← c.self.view_is) (record { squares = c.of_colour.ensures.squares c.self.inside.cells c.self.invariant.sets; on_board = c.self.invariant.squares })

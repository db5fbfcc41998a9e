-- Each man is of one of the colours.
use Rattle.std.proofs.Common.{◌∙◌}
use Rattle.std.specs.Int.RustNames.{bit_or}
use Rattle.cell_core.proofs.Squares.{some-set}
use Rattle.cell_core.proofs.board.Board.occupied.Goals as goal

pub returns : goal.returns
returns c =
    rw (← c.self.view_is)
    (record {
      squares =
          (λ i. bit_or (c.of_colour.ensures.squares c.self.inside.cells c.self.invariant.sets i) (c.of_colour-2.ensures.squares c.self.inside.cells c.self.invariant.sets i))
          ∙ some-set c.self.inside.cells;
    })

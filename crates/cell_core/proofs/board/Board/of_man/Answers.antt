-- The man's squares are those of his colour and his kind.
use Rattle.std.proofs.Common.{◌∙◌}
use Rattle.std.specs.Int.RustNames.{bit_and}
use Rattle.cell_core.proofs.Squares.{man-set}
use Rattle.cell_core.proofs.board.Board.of_man.Goals as goal

pub returns : goal.returns
returns c =
    rw (← c.self.view_is)
    (record {
      squares =
          (λ i. bit_and (c.of_colour.ensures.squares c.self.inside.cells c.self.invariant.sets i) (c.of_kind.ensures.squares c.self.inside.cells c.self.invariant.sets i))
          ∙ man-set c.args.colour c.args.kind c.self.inside.cells;
      on_board = c.self.invariant.squares;
    })

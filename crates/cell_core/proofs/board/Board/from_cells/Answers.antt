-- One square more.
use Rattle.std.proofs.Common.{◌≡◌, ◌<◌, ap, ◌∙◌, arith, length}
use Rattle.cell_core.specs.Sets.{sets_of}
use Rattle.cell_core.proofs.Squares.{so_far-none, so_far-some, so_far, so_far-squares, so_far-empty}
use Rattle.cell_core.proofs.board.Board.from_cells.Goals.{in-Some, in_default}
use Rattle.cell_core.proofs.board.Board.from_cells.Goals as goal

pub loop-s-preserved : goal.loop-s-preserved
loop-s-preserved c =
    let less : c.loop-s.s < 64 = omega arith in
    let squares : length c.args.cells ≡ 64 = c.loop-s.invariant.squares in
    record {
      squares = squares;
      sets = elim c.match-cells-s.branch [
        | in-Some w ↦
            w.sets-is
            ∙ w.add.ensures.sets (so_far c.loop-s.s c.args.cells) (so_far-squares c.args.cells c.loop-s.s (omega (arith, less)) squares) c.loop-s.invariant.sets (so_far-empty c.args.cells c.loop-s.s less squares)
            ∙ ap sets_of (so_far-some c.args.cells c.loop-s.s w.in-Some.man less squares w.in-Some.is)
        | in_default w ↦ w.sets-is ∙ c.loop-s.invariant.sets ∙ ap sets_of (so_far-none c.args.cells c.loop-s.s less squares w.in_default.is)
      ];
    }

-- The sets so far are those of the squares so far.
use Rattle.std.proofs.Common.{◌≡◌, length}
use Rattle.cell_core.specs.Sets.{sets_of}
use Rattle.cell_core.proofs.Squares.{so_far}
use Rattle.cell_core.proofs.board.Board.from_cells.Given as goal

abbrev pub invariant-loop-s : goal.invariant-loop-s
invariant-loop-s l = record {
  squares : length l.cells ≡ 64;
  sets : l.sets ≡ sets_of (so_far l.s l.cells);
}

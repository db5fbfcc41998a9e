use Rattle.chess_laws.proofs.Remaining.{leaves-itself}
use Rattle.chess_laws.proofs.left.Left.of.Goals as goal

pub returns : goal.returns
returns c = leaves-itself c.args.board.now c.args.colour c.of_colour.result c.occupied.result c.of_colour.ensures.squares c.occupied.ensures.squares

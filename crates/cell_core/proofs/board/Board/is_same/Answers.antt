use Rattle.std.proofs.lemmas.Bool.Decides.{Decides-at}
use Rattle.cell_core.specs.Board.{same_men}
use Rattle.cell_core.proofs.Same.{same_men-Decides}
use Rattle.cell_core.proofs.board.Board.is_same.Goals as goal

pub returns-clause-same : goal.returns-clause-same
returns-clause-same c = Decides-at c.eq.result (same_men c.args.self.now c.args.other.now) c.eq.ensures (same_men-Decides c.args.self.now c.args.other.now)

-- The test of the Laws decides what the Laws say, and so does the call.
use Rattle.chess_laws.proofs.Words.{Decides, same_from_decides, legal_now, Legal}
use Rattle.chess_laws.proofs.Deciding.{legal-Decides}
use Rattle.chess_laws.proofs.position.Position.is_legal.Goals as goal

pub returns-clause-decided : goal.returns-clause-decided
returns-clause-decided c =
    let decides : Decides c.is_legal.result (Legal c.args.self.now c.args.m) = rw c.setup.ensures.setup at c.is_legal.ensures in
    same_from_decides c.is_legal.result (legal_now c.args.self.now c.args.m) decides (legal-Decides c.args.self.now c.args.m)

use Rattle.chess_laws.proofs.Words.{rules, Decides, same_from_decides, Attacks, attacks_now}
use Rattle.chess_laws.proofs.Deciding.{attacks-Decides}
use Rattle.chess_laws.proofs.position.Position.attacked.Goals as goal

pub returns-clause-decided : goal.returns-clause-decided
returns-clause-decided c =
    let decides : Decides c.attacks.result (Attacks c.args.self.now.board c.args.by c.args.s) = search rules in
    same_from_decides c.attacks.result (attacks_now c.args.self.now.board c.args.by c.args.s) decides
    (attacks-Decides c.args.self.now.board c.args.by c.args.s)

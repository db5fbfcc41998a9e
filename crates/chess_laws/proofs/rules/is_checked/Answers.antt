use Rattle.chess_laws.proofs.Soundness.{checked}
use Rattle.chess_laws.proofs.rules.is_checked.Goals as goal

pub returns : goal.returns
returns c =
    let e = checked c.args.board.now c.args.colour c.args.king c.requires.one c.requires.stands in
    let a = rw c.other.ensures.side at c.attacks.ensures in
    record { check = ((λ h. e.0 (a.0 h)), (λ h. a.1 (e.1 h))) }

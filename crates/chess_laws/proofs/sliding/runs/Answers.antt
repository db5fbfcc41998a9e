-- A walk lies on the line of its ends.
use Rattle.chess_laws.proofs.Lines.{runs_none, runs_row}
use Rattle.chess_laws.proofs.sliding.runs.Goals as goal

pub returns-in-None : goal.returns-in-None
returns-in-None c = λ men full. ((λ h. absurd (cc)), (λ any. absurd (runs_none men c.args.kind c.args.from c.args.to c.in-None.ensures.row any)))

pub returns-in-Some : goal.returns-in-Some
returns-in-Some c = λ men full.
    runs_row men c.args.kind c.in-Some.row c.args.from c.args.to c.runs_by.result c.in-Some.ensures.row c.in-Some.ensures.queen (c.runs_by.ensures men full)

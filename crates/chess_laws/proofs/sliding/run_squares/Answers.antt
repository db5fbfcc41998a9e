use Rattle.chess_laws.proofs.Words.{[], bishop_steps}
use Rattle.chess_laws.proofs.Reached.{no-more}
use Rattle.chess_laws.proofs.sliding.run_squares.Goals as goal

pub returns-in-Rook : goal.returns-in-Rook
returns-in-Rook c = λ men full b. rw c.in-Rook.is (c.with_rows.ensures men full [] b (no-more men c.args.from b))

pub returns-in-Bishop : goal.returns-in-Bishop
returns-in-Bishop c = λ men full b. rw c.in-Bishop.is (c.with_rows-in-Bishop.ensures men full [] b (no-more men c.args.from b))

pub returns-in-Queen : goal.returns-in-Queen
returns-in-Queen c = λ men full b.
    rw c.in-Queen.is (c.with_rows-in-Queen-2.ensures men full bishop_steps b (c.with_rows-in-Queen.ensures men full [] b (no-more men c.args.from b)))

use Rattle.chess_text.proofs.CameLaws.{not_there}
use Rattle.chess_text.proofs.san_reading.with_square.Goals as goal

pub returns-then-not-stands_so : goal.returns-then-not-stands_so
returns-then-not-stands_so c =
    record {
      tried = not_there c.args.p.now c.args.setup.now c.args.g.now c.args.from c.args.found c.stands_so.result c.requires.same c.stands_so.ensures.answers
          c.if-not-stands_so.true c.requires.fits;
    }

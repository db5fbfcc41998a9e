use Rattle.chess_text.proofs.AnswerLaws.{san_is}
use Rattle.chess_text.proofs.san_reading.read_san.Goals as goal

pub returns-clause-answers : goal.returns-clause-answers
returns-clause-answers c = san_is c.args.p.now c.args.text.now c.read.result c.setup.ensures.sound c.read.ensures.only c.read.ensures.first

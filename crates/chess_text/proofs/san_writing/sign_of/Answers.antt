use Rattle.chess_text.proofs.RivalLaws.{checks, mates}
use Rattle.chess_text.proofs.san_writing.sign_of.Goals as goal

pub returns-then-has_answer : goal.returns-then-has_answer
returns-then-has_answer c =
    record { sign = checks c.args.next.now c.in_check.result c.has_answer.result c.in_check.ensures.check c.has_answer.ensures.some c.if-not-in_check.false c.if-has_answer.true }

pub returns : goal.returns
returns c =
    record { sign = mates c.args.next.now c.in_check.result c.has_answer.result c.in_check.ensures.check c.has_answer.ensures.some c.if-not-in_check.false c.if-has_answer.false }

use Rattle.chess_text.proofs.SearchLaws.{none-from}
use Rattle.chess_text.proofs.san_reading.from_square.Goals as goal

pub returns-then-not-is_legal : goal.returns-then-not-is_legal
returns-then-not-is_legal c =
    record { answers = none-from c.args.p.now c.args.g.now c.args.from c.is_legal.result c.is_legal.ensures.legal c.if-not-is_legal.true }

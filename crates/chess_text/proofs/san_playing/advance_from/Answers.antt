use Rattle.std.proofs.lemmas.Bool.{OnFalse_at, OnTrue_at}
use Rattle.chess_text.proofs.StartLaws.{one-found, one-missed}
use Rattle.chess_text.proofs.san_playing.advance_from.Goals as goal

pub returns-then-advance_as-clause-answers : goal.returns-then-advance_as-clause-answers
returns-then-advance_as-clause-answers c =
    let is = c.if-advance_as.true in
    one-found c.args.p.now c.args.g.now c.args.from c.requires.stands c.requires.only (OnTrue_at is c.advance_as.ensures.legal) (_, OnTrue_at is c.advance_as.ensures.step)

pub returns-else-advance_as-clause-answers : goal.returns-else-advance_as-clause-answers
returns-else-advance_as-clause-answers c =
    one-missed c.args.p.now c.args.g.now c.args.from c.requires.only (OnFalse_at c.if-advance_as.false c.advance_as.ensures.none)

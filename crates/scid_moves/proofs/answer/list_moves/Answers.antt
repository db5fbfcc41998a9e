use Rattle.scid_moves.proofs.MoveLaws.{fits_by, listed_by}
use Rattle.scid_moves.proofs.answer.list_moves.Goals as goal

pub returns-clause-fits : goal.returns-clause-fits
returns-clause-fits c =
    fits_by c.legal_moves.result c.args.position.now c.legal_moves.new.into.items c.setup.ensures.sound c.legal_moves.ensures.listed c.legal_moves.ensures.many c.legal_moves.ensures.room

pub returns-clause-listed : goal.returns-clause-listed
returns-clause-listed c = listed_by c.legal_moves.result c.args.position.now c.legal_moves.new.into.items c.setup.ensures.sound c.legal_moves.ensures.listed

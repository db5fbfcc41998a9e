-- Where no pawn promotes, no move stands behind the plain one.
use Rattle.chess_laws.proofs.Words.{sym, ◌∙◌, false≢true}
use Rattle.chess_laws.proofs.Listing.{lists-plain}
use Rattle.chess_laws.proofs.moves.list_tested.Goals as goal

pub returns-clause-listed : goal.returns-clause-listed
returns-clause-listed g c =
    lists-plain c.args.p.now g.row.N c.args.from c.args.to c.add.new.into.items c.requires.sound c.requires.on_board
    (λ may. false≢true (sym c.if-may_promote.false ∙ c.may_promote.ensures.1 may))
    c.if-not-add.ensures.listed

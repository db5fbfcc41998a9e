-- The move joins the list, or there is none of its place, or there is no room.
use Rattle.chess_laws.proofs.Words.{sym, ◌∙◌, arith, false≢true}
use Rattle.chess_laws.proofs.Listing.{lists_added, lists_none, lists_over}
use Rattle.chess_laws.proofs.moves.add.Goals as goal

pub returns-then-not-is_move-clause-listed : goal.returns-then-not-is_move-clause-listed
returns-then-not-is_move-clause-listed g c =
    lists_none c.args.p.now g.row.N _ _ c.args.into.now.items (record { from = c.args.from; to = c.args.to; promo = c.args.promo })
    (λ is. false≢true (sym c.if-not-is_move.true ∙ c.is_move.ensures.1 is)) c.requires.sound c.requires.on_board c.requires.before (omega arith) (omega arith)

pub returns-clause-listed : goal.returns-clause-listed
returns-clause-listed g c =
    lists_added c.args.p.now g.row.N _ _ c.args.into.now.items c.push.new.into.items (record { from = c.args.from; to = c.args.to; promo = c.args.promo })
    c.push.result (c.is_move.ensures.0 c.if-not-is_move.false) c.requires.sound c.requires.before c.push.ensures.added c.push.ensures.room
    (omega arith) (omega arith)

pub returns-clause-many : goal.returns-clause-many
returns-clause-many g c =
    lists_over c.args.p.now g.row.N _ c.args.into.now.items (record { from = c.args.from; to = c.args.to; promo = c.args.promo }) c.push.result
    (c.is_move.ensures.0 c.if-not-is_move.false) c.requires.before c.push.ensures.full (omega arith)

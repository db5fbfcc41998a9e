-- None becomes a king, which would stand before the queen, or a pawn, which would stand behind the knight.
use Rattle.chess_laws.proofs.Words.{rules, ◌+◌, ◌*◌, ListsBelow}
use Rattle.chess_laws.proofs.Listing.{lists_no_king}
use Rattle.chess_laws.proofs.moves.list_promotions.Goals as goal

pub add-requires : goal.add-requires
add-requires g c =
    let next : ListsBelow c.args.p.now g.row.N (512 * c.args.from + (8 * c.args.to + 2)) c.args.into.now.items =
    lists_no_king c.args.p.now g.row.N c.args.from c.args.to c.args.into.now.items c.requires.sound c.requires.on_board c.requires.before in
    search rules

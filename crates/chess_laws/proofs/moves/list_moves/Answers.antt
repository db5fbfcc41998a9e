-- No move begins on a square that is not one of the mover's, and below the last place there are all.
use Rattle.chess_laws.proofs.Words.{rules, ◌*◌, ◌∙◌, ListsBelow}
use Rattle.chess_laws.proofs.Listing.{lists-all, lists_no_man, no-more}
use Rattle.chess_laws.proofs.Sets.{own_told}
use Rattle.chess_laws.proofs.moves.list_moves.Goals as goal

pub list_from-requires : goal.list_from-requires
list_from-requires g c =
    let before : ListsBelow c.args.p.now g.row.N (512 * c.in-Some.from) c.loop-from.into.items =
    lists_no_man c.args.p.now g.row.N c.loop-from.at c.in-Some.from c.loop-from.into.items c.requires.sound c.in-Some.ensures.from.0
    (λ a k low high stands. c.in-Some.ensures.first a low high ((own_told _ _ c.of_bits-own.result.bits a (c.of_bits-own.ensures.bits ∙ c.of_colour.ensures.squares)).1 (k, stands)))
    c.loop-from.invariant.listed in
    search rules

pub returns : goal.returns
returns g c =
    let all : ListsBelow c.args.p.now g.row.N (512 * 64) c.loop-from.into.items =
    lists_no_man c.args.p.now g.row.N c.loop-from.at 64 c.loop-from.into.items c.requires.sound c.loop-from.invariant.on_board
    (λ a k low high stands. c.in_default.ensures.first a high low ((own_told _ _ c.of_bits-own.result.bits a (c.of_bits-own.ensures.bits ∙ c.of_colour.ensures.squares)).1 (k, stands)))
    c.loop-from.invariant.listed in
    let listed = lists-all c.args.p.now g.row.N c.loop-from.into.items c.requires.sound all in
    record { listed = listed; room = no-more c.args.p.now g.row.N c.loop-from.into.items listed all.fits; many = tt }

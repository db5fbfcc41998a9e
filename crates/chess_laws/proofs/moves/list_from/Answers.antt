-- No move goes to a square that is not among the targets.
use Rattle.chess_laws.proofs.Words.{rules, refl, arith, ◌≡◌, ◌+◌, ◌*◌, Comes, ListsBelow}
use Rattle.chess_laws.proofs.Listing.{lists_no_man, lists_targets}
use Rattle.chess_laws.proofs.moves.list_from.Goals as goal

pub returns-in_default-clause-listed : goal.returns-in_default-clause-listed
returns-in_default-clause-listed g c =
    lists_no_man c.args.p.now g.row.N c.args.from (c.args.from + 1) c.args.into.now.items c.requires.sound (omega arith)
    (λ a k low high stands. let same : a ≡ c.args.from = omega arith in c.in_default.ensures k (rw same at stands)) c.requires.before

pub list_to-requires : goal.list_to-requires
list_to-requires g c =
    let next : ListsBelow c.args.p.now g.row.N (512 * c.args.from + 8 * c.in-Some-next.to) c.loop-to.into.items =
    lists_targets c.args.p.now g.row.N c.args.from c.loop-to.at c.in-Some-next.to _ _ c.in-Some.kind c.loop-to.into.items c.targets-targets.result
    c.requires.sound c.in-Some-next.ensures.from.0 (omega (arith, c.in-Some-next.ensures.from.1)) c.in-Some.ensures c.targets-targets.ensures.all
    c.in-Some-next.ensures.first refl refl c.loop-to.invariant.listed in
    let comes : Comes c.args.p.now c.in-Some.kind c.args.from c.in-Some-next.to = c.targets-targets.ensures.only c.in-Some-next.to c.in-Some-next.ensures.member in
    search rules

pub returns-clause-listed : goal.returns-clause-listed
returns-clause-listed g c =
    lists_targets c.args.p.now g.row.N c.args.from c.loop-to.at 64 _ _ c.in-Some.kind c.loop-to.into.items c.targets-targets.result
    c.requires.sound c.loop-to.invariant.on_board (omega arith) c.in-Some.ensures c.targets-targets.ensures.all
    (λ b from less. c.in_default-next.ensures.first b less from) refl (omega arith) c.loop-to.invariant.listed

pub returns-then-is_empty-clause-listed : goal.returns-then-is_empty-clause-listed
returns-then-is_empty-clause-listed g c =
    lists_targets c.args.p.now g.row.N c.args.from 0 64 _ _ c.in-Some.kind c.args.into.now.items c.targets-targets.result
    c.requires.sound (omega arith) (omega arith) c.in-Some.ensures c.targets-targets.ensures.all
    (λ b from less. c.if-is_empty.ensures.empty.0 refl b) (omega arith) (omega arith) c.requires.before

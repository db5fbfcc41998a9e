use Rattle.std.proofs.Common.{rules, length}
use Rattle.std.proofs.lemmas.Bool.{eqb-true}
use Rattle.demo_games.specs.Demo.{drawn}
use Rattle.demo_games.proofs.Drawing.{draws_no_more, draws_none_of, draws_one_of}
use Rattle.demo_games.proofs.generator.Generator.pick.Goals as goal

pub returns-then-not-legal_moves-clause-picked : goal.returns-then-not-legal_moves-clause-picked
returns-then-not-legal_moves-clause-picked c = draws_no_more (drawn c.args.self.now) c.args.position.now c.setup.ensures.sound c.if-not-legal_moves.ensures.many

pub returns-then-is_empty-clause-picked : goal.returns-then-is_empty-clause-picked
returns-then-is_empty-clause-picked c =
    let test = c.is_empty.ensures in
    let empty = c.if-is_empty.true in
    draws_none_of (drawn c.args.self.now) c.args.position.now c.legal_moves.new.into.items c.as_slice-moves.result.now c.setup.ensures.sound c.if-not-legal_moves.ensures.listed c.if-not-legal_moves.ensures.room
    c.as_slice-moves.ensures.value (eqb-true (length c.as_slice-moves.result.now) 0 (cc))

pub returns-clause-picked : goal.returns-clause-picked
returns-clause-picked c =
    draws_one_of (drawn c.args.self.now) _ c.args.position.now c.legal_moves.new.into.items c.as_slice-moves.result.now _ c.setup.ensures.sound c.if-not-legal_moves.ensures.listed c.if-not-legal_moves.ensures.room
    c.as_slice-moves.ensures.value (search (rules)) (search (rules)) c.index-moves-place.is

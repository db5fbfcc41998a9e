use Rattle.demo_games.proofs.Drawing.{draws_first, draws_on, ended_left}
use Rattle.demo_games.proofs.generator.Generator.line.Goals as goal

pub loop-ply-init : goal.loop-ply-init
loop-ply-init c = draws_first c.args.self.now c.start-position.result c.in_ok-line.line.items c.start-position.ensures.start c.in_ok-line.ensures.items

pub loop-ply-preserved : goal.loop-ply-preserved
loop-ply-preserved c =
    draws_on c.loop-ply._ply c.loop-ply.self c.pick.new.self c.args.self.now c.loop-ply.position c.play.new.position c.in-Some.mv c.node_of.result c.loop-ply.line.items c.push.new.self.items c.loop-ply-test.true
    c.in-Some.ensures.picked c.in-Some.ensures.left c.play.ensures.played c.node_of.ensures c.in_ok-push.ensures.items c.loop-ply.invariant

pub returns-in_default-clause-left : goal.returns-in_default-clause-left
returns-in_default-clause-left c =
    ended_left c.loop-ply._ply c.loop-ply.self c.pick.new.self c.args.self.now c.loop-ply.position c.loop-ply.line.items c.loop-ply-test.true c.in_default.ensures.picked c.in_default.ensures.left c.loop-ply.invariant

use Rattle.pgn_read.proofs.TurnLaws.{plays_next}
use Rattle.pgn_read.proofs.turn.play_all.Goals as goal

pub loop-m-preserved : goal.loop-m-preserved
loop-m-preserved c =
    plays_next c.args.position.now c.args.moves.now c.loop-m.m-index c.m-item.result c.loop-m.position c.play.new.self c.loop-m-test.true c.m-item.is
    c.loop-m.invariant c.play.ensures.step

use Rattle.chess_laws.proofs.Stepping.{Step-stepped}
use Rattle.demo_games.proofs.generator.play.Goals as goal

pub returns : goal.returns
returns c = record { played = Step-stepped _ _ _ c.play.ensures.step }

use Rattle.demo_games.specs.Demo.{moves_drawn}
use Rattle.demo_games.proofs.Drawing.{made_kept, made_legal}
use Rattle.demo_games.proofs.generator.Generator.make.Goals as goal

pub invariant_of-game : goal.invariant_of-game
invariant_of-game c = made_kept (moves_drawn c.draw.new.self) c.start.result c.in_ok-line.line.items c.start.ensures.start c.in_ok-line.ensures.line

pub returns-clause-legal : goal.returns-clause-legal
returns-clause-legal c = made_legal c.draw.new.self c.start.result c.in_ok-line.line.items c.start.ensures.start c.in_ok-line.ensures.line

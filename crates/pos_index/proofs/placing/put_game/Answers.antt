use Rattle.std.proofs.Common.{rules}
use Rattle.pos_index.proofs.GameLemmas.{taken_back}
use Rattle.pos_index.proofs.placing.put_game.Goals as goal

pub returns-in-Err-clause-unchanged : goal.returns-in-Err-clause-unchanged
returns-in-Err-clause-unchanged c =
    taken_back c.args.places.now c.try_game.new.places c.truncate.new.self c.args.i c.count-old.result c.in-Err.ensures.some c.requires.number (search rules) c.truncate.ensures

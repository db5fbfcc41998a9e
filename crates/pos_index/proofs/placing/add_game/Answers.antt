use Rattle.pos_index.specs.Hits.{places_of}
use Rattle.pos_index.proofs.BuildLemmas.{added_last}
use Rattle.pos_index.proofs.placing.add_game.Goals as goal

pub returns-in-Ok-clause-added : goal.returns-in-Ok-clause-added
returns-in-Ok-clause-added c =
    added_last c.args.places.now c.add_row.new.self c.put_game.new.places c.args.i (places_of c.args.depth c.args.game.now) c.requires.last c.in_ok-add_row.ensures.added c.in-Ok.ensures.put

use Rattle.pos_index.specs.Hits.{places_of}
use Rattle.pos_index.proofs.BuildLemmas.{added_last, adds_row}
use Rattle.pos_index.proofs.building.add_record.Goals as goal

pub returns-clause-put : goal.returns-clause-put
returns-clause-put c = λ yes tags game is.
    added_last c.args.places.now c.add_row.new.self c.put_record.new.places c.args.i (places_of c.args.depth game) c.requires.last c.in_ok-add_row.ensures.added
    (c.in_ok-put.ensures.put yes tags game is)

pub returns-clause-short : goal.returns-clause-short
returns-clause-short c = λ yes.
    adds_row _ c.args.places.now c.add_row.new.self c.put_record.new.places c.args.i c.requires.last c.in_ok-add_row.ensures.added (c.in_ok-put.ensures.some yes)

use Rattle.std.proofs.Common.{rules}
use Rattle.pos_index.specs.Keeping.{row_in}
use Rattle.pos_index.proofs.IndexLemmas.{copied_more}
use Rattle.pos_index.proofs.places.Places.copy_row.Goals as goal

pub loop-k-preserved : goal.loop-k-preserved
loop-k-preserved c =
    copied_more c.args.self.now c.loop-k.self c.put.new.self c.args.i c.loop-k.k (row_in c.args.others.now c.args.i) _ c.requires.last (search rules) c.place-board.ensures.place c.loop-k.invariant
    c.in_ok-put.ensures.put

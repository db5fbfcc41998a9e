use Rattle.pos_index.proofs.IndexLemmas.{last_kept}
use Rattle.pos_index.proofs.index.keep_last.Goals as goal

pub returns : goal.returns
returns c = record {
  kept = λ rows row kept now.
      last_kept rows c.args.places.now c.args.i row c.args.lasts.now.items c.last.result c.requires.game kept now c.last.ensures;
}

use Rattle.pos_search.proofs.ColumnLemmas.{pair-told}
use Rattle.pos_search.proofs.boards.pair.Goals as goal

pub returns : goal.returns
returns c = pair-told c.args.set c.args.file

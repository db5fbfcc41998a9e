use Rattle.game_tree.proofs.NameLemmas.{zero_free_test}
use Rattle.game_tree.proofs.bounds.has_text_bytes_alone.Goals as goal

pub returns-clause-all : goal.returns-clause-all
returns-clause-all c = zero_free_test c.args.name.now c.is_zero_free.result c.is_zero_free.ensures

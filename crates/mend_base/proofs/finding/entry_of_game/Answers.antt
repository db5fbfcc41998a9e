use Rattle.index_entry.specs.Index.{entry_bytes}
use Rattle.mend_base.proofs.FindLaws.{change-so}
use Rattle.mend_base.proofs.finding.entry_of_game.Goals as goal

pub returns-clause-change : goal.returns-clause-change
returns-clause-change c =
    change-so c.args.source.now.way c.args.source.now.names.now c.args.game _ (entry_bytes c.args.source.now.index.now c.args.game) c.said_by-said.result.entry c.said_by-said.result.fault c.change_from.result c.entry_of.ensures
    c.said_by-said.ensures.entry c.said_by-said.ensures.fault c.change_from.ensures.change

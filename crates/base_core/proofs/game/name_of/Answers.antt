use Rattle.base_core.proofs.NameLaws.{named}
use Rattle.base_core.proofs.game.name_of.Goals as goal

pub returns-clause-bounded : goal.returns-clause-bounded
returns-clause-bounded c = named c.args.kind c.args.names.now c.args.id _ c.requires.sound c.name_of.ensures.name

use Rattle.std.proofs.Common.{refl}
use Rattle.base_core.specs.Entries.{head_of}
use Rattle.base_core.proofs.NameLaws.{head-bounded}
use Rattle.base_core.proofs.game.fields_of.Goals as goal

pub returns-clause-fields : goal.returns-clause-fields
unfolding head_of
returns-clause-fields c given =
    rw (c.name_of.ensures.name, c.name_of-2.ensures.name, c.name_of-3.ensures.name, c.name_of-4.ensures.name, c.name_of-5.ensures.name) refl

pub returns-clause-bounded : goal.returns-clause-bounded
returns-clause-bounded c given tagged = head-bounded c.args.names.now c.args.e.now given c.requires.sound c.requires.named c.requires.fields tagged

use Rattle.std.proofs.Common.{Some, None, ap, ◌∙◌}
use Rattle.name_base.specs.PartNames.{Known, name_met}
use Rattle.name_base.proofs.PartLemmas.{name-filled}
use Rattle.name_base.proofs.part_names.PartNames.name_of.Goals as goal

pub returns-in-Some-clause-name : goal.returns-in-Some-clause-name
returns-in-Some-clause-name c =
    name-filled c.args.kind c.args.self.now c.args.id (Some c.in-Some.name.now) c.requires.below (c.in-Some.ensures.name ∙ ap (λ (k : Known). name_met k c.args.id) c.kind.ensures.kind)

pub returns-in-None-clause-name : goal.returns-in-None-clause-name
returns-in-None-clause-name c =
    name-filled c.args.kind c.args.self.now c.args.id None c.requires.below (c.in-None.ensures.name ∙ ap (λ (k : Known). name_met k c.args.id) c.kind.ensures.kind)

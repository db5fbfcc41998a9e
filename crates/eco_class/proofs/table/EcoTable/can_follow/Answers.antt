use Rattle.std.proofs.Common.{refl}
use Rattle.eco_class.proofs.KeptLemmas.{over_is}
use Rattle.eco_class.proofs.table.EcoTable.can_follow.Goals as goal

pub returns : goal.returns
returns c = record {
  over = over_is _ c.self.inside.least c.men_in.result _ c.self.inside.lines.entries c.args.self.now refl c.men_in.ensures.men c.self.invariant.each c.self.view_is;
}

use Rattle.std.proofs.Common.{sym, ap}
use Rattle.eco_class.specs.Cutting.{without_first}
use Rattle.eco_class.proofs.CutLemmas.{none_first}
use Rattle.eco_class.proofs.cutting.without_first.Goals as goal

pub returns-in-Some : goal.returns-in-Some
returns-in-Some c = sym (ap without_first c.in-Some.ensures.cases.0)

pub returns-in-None : goal.returns-in-None
returns-in-None c = none_first c.args.bytes.now c.in-None.ensures.cases

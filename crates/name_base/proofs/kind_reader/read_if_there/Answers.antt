use Rattle.std.proofs.Common.{List, sym, subst}
use Rattle.name_base.specs.KindRead.{AreMet}
use Rattle.name_base.specs.NamesFile.{Entry}
use Rattle.name_base.proofs.KindLemmas.{AreMet-none}
use Rattle.name_base.proofs.kind_reader.read_if_there.Goals as goal

pub returns-in-None-clause-met : goal.returns-in-None-clause-met
returns-in-None-clause-met c = subst (λ (es : List Entry). AreMet c.args.shape.count es) (sym c.requires.none) (AreMet-none c.args.shape.count)

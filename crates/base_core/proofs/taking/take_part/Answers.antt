use Rattle.std.proofs.Common.{sym, ◌∙◌, subst}
use Rattle.name_base.specs.NameLists.{NameLists}
use Rattle.base_core.specs.Means.{HoldsNames}
use Rattle.base_core.proofs.GrowLaws.{holds-own}
use Rattle.base_core.proofs.NamingLaws.{cut-back}
use Rattle.base_core.proofs.taking.take_part.Goals as goal

pub returns-then-is_err-clause-holds : goal.returns-then-is_err-clause-holds
returns-then-is_err-clause-holds c =
    let H : NameLists → Type 0 = λ n. HoldsNames n c.args.names.now in
    subst H (sym (c.cut_names.ensures.cut ∙ cut-back c.take_each_part-taken.new.names c.args.names.now c.counts_of-counts.result c.take_each_part-taken.ensures.holds c.counts_of-counts.ensures.counts))
    (holds-own c.args.names.now)

use Rattle.std.proofs.Common.{subst}
use Rattle.std.specs.Prelude.{OnOk}
use Rattle.name_base.specs.PartNames.{filled_names}
use Rattle.base_core.specs.Drafts.{Takes}
use Rattle.base_core.specs.Represents.{Kept}
use Rattle.base_core.proofs.draft.Draft.take.Goals as goal

pub returns-clause-taken : goal.returns-clause-taken
returns-clause-taken c =
    let P : Kept → Type 0 = λ k. OnOk c.take.result (Takes (filled_names c.args.of.now) c.args.e.now k c.take.new.self) in
    subst P c.self.view_is c.take.ensures.taken

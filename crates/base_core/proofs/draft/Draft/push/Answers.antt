use Rattle.std.proofs.Common.{subst}
use Rattle.std.specs.Prelude.{OnOk}
use Rattle.base_core.specs.Drafts.{TakesOver}
use Rattle.base_core.specs.Represents.{Kept}
use Rattle.base_core.proofs.draft.Draft.push.Goals as goal

pub returns-clause-taken : goal.returns-clause-taken
returns-clause-taken c =
    let P : Kept → Type 0 = λ k. OnOk c.take_over.result (TakesOver c.args.i c.args.base.now k c.take_over.new.self) in
    subst P c.self.view_is c.take_over.ensures.taken

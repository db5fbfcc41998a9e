use Rattle.std.proofs.Common.{false, sym, subst}
use Rattle.base_core.specs.Edited.{ChangedHeads, Does}
use Rattle.base_core.specs.Edits.{undeleted}
use Rattle.base_core.specs.Represents.{Kept}
use Rattle.base_core.proofs.MarkLaws.{deletes, marks-do, put-heads}
use Rattle.base_core.proofs.base.Base.undelete.Goals as goal

pub returns-clause-undeleted : goal.returns-clause-undeleted
unfolding undeleted
returns-clause-undeleted c =
    let D : Kept → Type 0 = λ new. Does (undeleted c.args.i) c.args.self.now new in
    subst D (sym c.put_facts.ensures.put)
    (marks-do c.args.self.now c.args.i c.in_ok-entry.entry false c.in_ok-entry.entry.marks c.in_ok-entry.entry.eco (λ head. record head { deleted = false }) c.in_ok-entry.ensures.at (deletes c.in_ok-entry.entry false))

pub returns-clause-heads : goal.returns-clause-heads
returns-clause-heads c =
    let H : Kept → Type 0 = λ new. ChangedHeads c.args.self.now new in
    subst H (sym c.put_facts.ensures.put) (put-heads c.args.self.now c.args.i c.in_ok-entry.entry false c.in_ok-entry.entry.marks c.in_ok-entry.entry.eco c.in_ok-entry.ensures.at)

use Rattle.std.proofs.Common.{true, sym, subst}
use Rattle.base_core.specs.Edited.{ChangedHeads, Does}
use Rattle.base_core.specs.Edits.{deleted}
use Rattle.base_core.specs.Represents.{Kept}
use Rattle.base_core.proofs.MarkLaws.{deletes, marks-do, put-heads}
use Rattle.base_core.proofs.base.Base.delete.Goals as goal

pub returns-clause-deleted : goal.returns-clause-deleted
unfolding deleted
returns-clause-deleted c =
    let D : Kept → Type 0 = λ new. Does (deleted c.args.i) c.args.self.now new in
    subst D (sym c.put_facts.ensures.put)
    (marks-do c.args.self.now c.args.i c.in_ok-entry.entry true c.in_ok-entry.entry.marks c.in_ok-entry.entry.eco (λ head. record head { deleted = true }) c.in_ok-entry.ensures.at (deletes c.in_ok-entry.entry true))

pub returns-clause-heads : goal.returns-clause-heads
returns-clause-heads c =
    let H : Kept → Type 0 = λ new. ChangedHeads c.args.self.now new in
    subst H (sym c.put_facts.ensures.put) (put-heads c.args.self.now c.args.i c.in_ok-entry.entry true c.in_ok-entry.entry.marks c.in_ok-entry.entry.eco c.in_ok-entry.ensures.at)

use Rattle.std.proofs.Common.{sym, subst}
use Rattle.base_core.specs.Edited.{ChangedHeads, Does}
use Rattle.base_core.specs.Edits.{classified}
use Rattle.base_core.specs.Represents.{Kept}
use Rattle.base_core.proofs.MarkLaws.{classifies, marks-do, put-heads}
use Rattle.base_core.proofs.base.Base.set_eco.Goals as goal

pub returns-clause-classified : goal.returns-clause-classified
unfolding classified
returns-clause-classified c =
    let e = c.in_ok-entry.entry in
    let D : Kept → Type 0 = λ new. Does (classified c.args.i c.args.eco) c.args.self.now new in
    subst D (sym c.put_facts.ensures.put)
    (marks-do c.args.self.now c.args.i e e.deleted e.marks c.args.eco (λ head. record head { eco = c.args.eco }) c.in_ok-entry.ensures.at (classifies e c.args.eco))

pub returns-clause-heads : goal.returns-clause-heads
returns-clause-heads c =
    let H : Kept → Type 0 = λ new. ChangedHeads c.args.self.now new in
    subst H (sym c.put_facts.ensures.put) (put-heads c.args.self.now c.args.i c.in_ok-entry.entry c.in_ok-entry.entry.deleted c.in_ok-entry.entry.marks c.args.eco c.in_ok-entry.ensures.at)

use Rattle.std.proofs.Common.{sym, subst}
use Rattle.base_core.specs.Edited.{ChangedHeads, Does}
use Rattle.base_core.specs.Edits.{marked, with_mark}
use Rattle.base_core.specs.Represents.{Kept}
use Rattle.base_core.proofs.MarkLaws.{marks, marks-do, put-heads}
use Rattle.base_core.proofs.base.Base.mark.Goals as goal

pub returns-clause-marked : goal.returns-clause-marked
unfolding marked
returns-clause-marked c =
    let e = c.in_ok-entry.entry in
    let D : Kept → Type 0 = λ new. Does (marked c.args.i c.args.bit c.args.on) c.args.self.now new in
    subst D (sym c.put_facts.ensures.put)
    (marks-do c.args.self.now c.args.i e e.deleted c.with_mark-marks.result e.eco (λ head. record head { marks = with_mark head.marks c.args.bit c.args.on }) c.in_ok-entry.ensures.at
    (marks e c.args.bit c.args.on c.with_mark-marks.result c.with_mark-marks.ensures.marks))

pub returns-clause-heads : goal.returns-clause-heads
returns-clause-heads c =
    let H : Kept → Type 0 = λ new. ChangedHeads c.args.self.now new in
    subst H (sym c.put_facts.ensures.put) (put-heads c.args.self.now c.args.i c.in_ok-entry.entry c.in_ok-entry.entry.deleted c.with_mark-marks.result c.in_ok-entry.entry.eco c.in_ok-entry.ensures.at)

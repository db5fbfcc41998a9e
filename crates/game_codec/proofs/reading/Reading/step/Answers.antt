use Rattle.std.proofs.Common.{sym, ap, subst, ◌∙◌}
use Rattle.game_tree.specs.Replay.{next_at}
use Rattle.game_codec.specs.Fault.{IsRecordFault}
use Rattle.game_codec.specs.Record.{IsRecord}
use Rattle.game_codec.specs.Walk.{Walked}
use Rattle.game_codec.proofs.ReadingLaws.{next-played, none-next, passed-reading, played-reading, reading-broken}
use Rattle.game_codec.proofs.reading.Reading.step.Goals as goal

pub invariant_of-self : goal.invariant_of-self
invariant_of-self c =
    passed-reading c.self.inside.bytes.now c.self.inside.at c.next.new.self c.self.inside.ply c.self.invariant c.in-Err.ensures.passes

pub invariant_of-self-in-Ok-None : goal.invariant_of-self-in-Ok-None
invariant_of-self-in-Ok-None c =
    let done = rw c.in-Ok-None.field-0-is at c.in-Ok-None.ensures.next in
    passed-reading c.self.inside.bytes.now c.self.inside.at c.next.new.self c.self.inside.ply c.self.invariant done.0

pub invariant_of-self-in-Ok-Some : goal.invariant_of-self-in-Ok-Some
invariant_of-self-in-Ok-Some c =
    let plays = rw c.in-Ok-Some.field-0-is at c.in-Ok-Some.ensures.next in
    played-reading c.self.inside.bytes.now c.self.inside.at c.next.new.self c.self.inside.ply c.self.invariant c.in-Ok-Some.m plays

pub returns-in-Err-clause-fault : goal.returns-in-Err-clause-fault
returns-in-Err-clause-fault c =
    subst (λ (w : Walked). IsRecordFault w.bytes c.fault_at.result) c.self.view_is
    (c.fault_at.ensures.first
    (reading-broken c.self.inside.bytes.now c.self.inside.at c.next.new.self c.self.inside.ply c.self.invariant c.in-Err.breach c.in-Err.ensures.fault))

pub returns-in-Ok-None-clause-next : goal.returns-in-Ok-None-clause-next
returns-in-Ok-None-clause-next c = λ tags game r.
    let done = rw c.in-Ok-None.field-0-is at c.in-Ok-None.ensures.next in
    let here = subst (λ (w : Walked). IsRecord w.bytes tags game) (sym c.self.view_is) r in
    sym (none-next c.self.inside.bytes.now c.self.inside.at c.next.new.self c.self.inside.ply c.self.invariant done.0 done.1 tags game here)
    ∙ ap (λ (w : Walked). next_at game w.ply) c.self.view_is

pub returns-in-Ok-Some-clause-next : goal.returns-in-Ok-Some-clause-next
returns-in-Ok-Some-clause-next c = λ tags game r.
    let plays = rw c.in-Ok-Some.field-0-is at c.in-Ok-Some.ensures.next in
    let here = subst (λ (w : Walked). IsRecord w.bytes tags game) (sym c.self.view_is) r in
    sym (next-played c.self.inside.bytes.now c.self.inside.at c.next.new.self c.self.inside.ply c.self.invariant c.in-Ok-Some.m plays tags game here)
    ∙ ap (λ (w : Walked). next_at game w.ply) c.self.view_is

use Rattle.std.proofs.Common.{sym, ap, subst, ◌∙◌, arith}
use Rattle.game_tree.specs.Replay.{next_at}
use Rattle.game_codec.specs.Record.{IsRecord, IsSomeRecord}
use Rattle.game_codec.specs.Walk.{Walked}
use Rattle.game_codec.proofs.WalkSteps.{behind_ends, behind_next, behind_more}
use Rattle.game_codec.proofs.TailLaws.{tail_more}
use Rattle.game_codec.proofs.walk.Walk.step.Goals as goal

pub invariant_of-self-in-Ok-Some : goal.invariant_of-self-in-Ok-Some
invariant_of-self-in-Ok-Some c =
    let next = rw c.in-Ok-Some.field-0-is at c.in-Ok-Some.ensures.next in
    record {
      few = c.self.invariant.few;
      left = omega (arith, c.self.invariant.left, next.1.0);
      tail = tail_more c.self.inside.bytes.now c.self.inside.ahead.now c.in-Ok-Some.next.ahead.now (omega (arith, c.self.invariant.left)) c.self.invariant.tail
          (omega (arith, next.1.0)) (rw c.in-Ok-Some.field-0-is at c.in-Ok-Some.ensures.tail);
      follows = λ tags game r.
          behind_more game c.self.inside.here c.self.inside.ply c.self.inside.ahead.now (c.self.invariant.follows tags game r)
          c.next_move.new.here c.in-Ok-Some.next.ahead.now c.in-Ok-Some.next.mv next.0 next.1.1;
    }

pub returns-in-Err-clause-fault : goal.returns-in-Err-clause-fault
returns-in-Err-clause-fault c = λ some.
    let here = subst (λ (w : Walked). IsSomeRecord w.bytes) (sym c.self.view_is) some in
    c.in-Err.ensures.fault _ (c.self.invariant.follows here.0 here.1.0 here.1.1).line

pub returns-in-Ok-None-clause-next : goal.returns-in-Ok-None-clause-next
returns-in-Ok-None-clause-next c = λ tags game r.
    let next = rw c.in-Ok-None.field-0-is at c.in-Ok-None.ensures.next in
    let here = subst (λ (w : Walked). IsRecord w.bytes tags game) (sym c.self.view_is) r in
    sym (behind_ends game c.self.inside.here c.self.inside.ply c.self.inside.ahead.now (c.self.invariant.follows tags game here) next.1)
    ∙ ap (λ (w : Walked). next_at game w.ply) c.self.view_is

pub returns-in-Ok-Some-clause-next : goal.returns-in-Ok-Some-clause-next
returns-in-Ok-Some-clause-next c = λ tags game r.
    let next = rw c.in-Ok-Some.field-0-is at c.in-Ok-Some.ensures.next in
    let here = subst (λ (w : Walked). IsRecord w.bytes tags game) (sym c.self.view_is) r in
    sym (behind_next game c.self.inside.here c.self.inside.ply c.self.inside.ahead.now (c.self.invariant.follows tags game here)
    c.next_move.new.here c.in-Ok-Some.next.ahead.now c.in-Ok-Some.next.mv next.0 next.1.1)
    ∙ ap (λ (w : Walked). next_at game w.ply) c.self.view_is

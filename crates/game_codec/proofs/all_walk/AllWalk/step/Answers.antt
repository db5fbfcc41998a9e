use Rattle.std.proofs.Common.{◌≡◌, None, sym, ap, subst, ◌∙◌}
use Rattle.std.specs.Prelude.{slice_get}
use Rattle.game_codec.specs.AllWalk.{AllWalked}
use Rattle.game_codec.specs.Fault.{IsRecordFault}
use Rattle.game_codec.specs.Record.{IsRecord}
use Rattle.game_codec.specs.Visits.{all_visits}
use Rattle.game_codec.proofs.AllWalkLaws.{first_fault, next_none, next_some, walk_fault, walk_none, walk_some}
use Rattle.game_codec.proofs.RecordAnswerLaws.{record-unbroken}
use Rattle.game_codec.proofs.all_walk.AllWalk.step.Goals as goal

pub invariant_of-self : goal.invariant_of-self
invariant_of-self c =
    walk_fault c.self.inside.bytes.now c.self.inside.lines c.next_move.new.self c.self.inside.given c.self.invariant c.in-Err.breach c.in-Err.ensures.gone

pub invariant_of-self-in-Ok-None : goal.invariant_of-self-in-Ok-None
invariant_of-self-in-Ok-None c =
    walk_none c.self.inside.bytes.now c.self.inside.lines c.next_move.new.self c.self.inside.given c.self.invariant
    (rw c.in-Ok-None.field-0-is at c.in-Ok-None.ensures.gone)

pub invariant_of-self-in-Ok-Some : goal.invariant_of-self-in-Ok-Some
invariant_of-self-in-Ok-Some c =
    walk_some c.self.inside.bytes.now c.self.inside.lines c.next_move.new.self c.self.inside.given c.self.invariant c.in-Ok-Some.m
    (rw c.in-Ok-Some.field-0-is at c.in-Ok-Some.ensures.gone)

pub returns-in-Err-clause-first : goal.returns-in-Err-clause-first
returns-in-Err-clause-first c =
    subst (λ (w : AllWalked). IsRecordFault w.bytes c.fault_at.result) c.self.view_is
    (first_fault c.self.inside.bytes.now c.self.inside.lines c.next_move.new.self c.self.inside.given c.self.invariant c.in-Err.breach c.in-Err.ensures.gone
    c.fault_at.result c.fault_at.ensures.what c.fault_at.ensures.place)

pub returns-in-Err-clause-fault : goal.returns-in-Err-clause-fault
returns-in-Err-clause-fault c = λ some. record-unbroken _ some.0 some.1.0 c.fault_at.result some.1.1 (returns-in-Err-clause-first c)

pub returns-in-Ok-None-clause-next : goal.returns-in-Ok-None-clause-next
returns-in-Ok-None-clause-next c = λ tags game r.
    subst (λ (w : AllWalked). slice_get (all_visits game) w.given ≡ None) c.self.view_is
    (next_none c.self.inside.bytes.now c.self.inside.lines c.next_move.new.self c.self.inside.given c.self.invariant
    (rw c.in-Ok-None.field-0-is at c.in-Ok-None.ensures.gone) tags game (subst (λ (w : AllWalked). IsRecord w.bytes tags game) (sym c.self.view_is) r))

pub returns-in-Ok-Some-clause-next : goal.returns-in-Ok-Some-clause-next
returns-in-Ok-Some-clause-next c = λ tags game r.
    ap (λ (w : AllWalked). slice_get (all_visits game) w.given) (sym c.self.view_is)
    ∙ next_some c.self.inside.bytes.now c.self.inside.lines c.next_move.new.self c.self.inside.given c.self.invariant c.in-Ok-Some.m
    (rw c.in-Ok-Some.field-0-is at c.in-Ok-Some.ensures.gone) tags game (subst (λ (w : AllWalked). IsRecord w.bytes tags game) (sym c.self.view_is) r)

use Rattle.std.proofs.Common.{rules, ◌≡◌, ℕ, List, None, Some, Err, length, sym, ap, ◌∙◌, subst, arith}
use Rattle.game_codec.specs.RecordAnswer.{record_answer}
use Rattle.index_entry.specs.declared.entry.Entry.{Entry}
use Rattle.base_core.specs.Reading.{IsMended}
use Rattle.mend_base.specs.Fronts.{left_of, steps_of}
use Rattle.mend_base.proofs.FindLaws.{mended-place}
use Rattle.mend_base.proofs.FrontLaws.{next-left, none-behind, none-left, saved-left}
use Rattle.mend_base.proofs.fronts.save.Goals as goal

pub returns-in_default-clause-saved : goal.returns-in_default-clause-saved
returns-in_default-clause-saved c =
    let none : left_of c.as_slice.result.now c.loop-step.first.place ≡ None = search rules in
    none-left (steps_of c.args.faulty) c.loop-step._step c.args.bytes.now c.loop-step.rest.items c.args.fault c.loop-step.first c.loop-step.invariant (omega (arith, c.loop-step-test.true, c.steps-most.ensures.steps))
    (ap (λ (b : List ℕ). left_of b c.loop-step.first.place) (sym c.as_slice.ensures.value) ∙ none)

pub returns-in-Ok-clause-saved : goal.returns-in-Ok-clause-saved
returns-in-Ok-clause-saved c =
    let some : left_of c.as_slice.result.now c.loop-step.first.place ≡ Some c.in-Some.left.items = search rules in
    let E : List ℕ → Entry = λ b. record c.args.entry.now { offset = 0; len = length b } in
    saved-left (steps_of c.args.faulty) c.loop-step._step c.args.bytes.now c.loop-step.rest.items c.args.fault c.loop-step.first c.loop-step.invariant (omega (arith, c.loop-step-test.true, c.steps-most.ensures.steps))
    c.in-Some.left.items c.args.entry.now c.entry_over-over.result c.in-Ok.kept (ap (λ (b : List ℕ). left_of b c.loop-step.first.place) (sym c.as_slice.ensures.value) ∙ some)
    (c.entry_over-over.ensures.over ∙ ap E c.as_slice-bytes.ensures.value)
    (subst (λ (b : List ℕ). IsMended b c.entry_over-over.result c.in-Ok.kept) c.as_slice-bytes.ensures.value c.in-Ok.ensures.mended)

pub returns-in-Ok-clause-len : goal.returns-in-Ok-clause-len
returns-in-Ok-clause-len c =
    (mended-place c.as_slice-bytes.result.now c.entry_over-over.result c.in-Ok.kept c.in-Ok.ensures.mended).1
    ∙ (ap (λ (e : Entry). e.len) c.entry_over-over.ensures.over ∙ ap (λ (b : List ℕ). length b) c.as_slice-bytes.ensures.value)

pub loop-step-preserved : goal.loop-step-preserved
loop-step-preserved c =
    let some : left_of c.as_slice.result.now c.loop-step.first.place ≡ Some c.in-Some.left.items = search rules in
    next-left (steps_of c.args.faulty) c.loop-step._step c.args.bytes.now c.loop-step.rest.items c.args.fault c.loop-step.first c.loop-step.invariant (omega (arith, c.loop-step-test.true, c.steps-most.ensures.steps))
    c.in-Some.left.items c.in-Err.next (ap (λ (b : List ℕ). left_of b c.loop-step.first.place) (sym c.as_slice.ensures.value) ∙ some)
    (ap record_answer (sym c.as_slice-bytes.ensures.value) ∙ c.in-Err.ensures.fault.answer)

pub returns-clause-saved : goal.returns-clause-saved
returns-clause-saved c =
    none-behind (steps_of c.args.faulty) c.loop-step._step c.args.bytes.now c.loop-step.rest.items c.args.fault c.loop-step.first c.loop-step.invariant (omega (arith, c.loop-step-test.false, c.steps-most.ensures.steps))

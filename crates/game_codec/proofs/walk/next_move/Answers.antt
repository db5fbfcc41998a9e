use Rattle.std.proofs.Common.{ℕ, List, length, drop, refl, sym, ap, subst, ◌∙◌, length-drop, arith}
use Rattle.game_codec.specs.Place.{IsMoveDue}
use Rattle.game_codec.proofs.PassLaws.{if_err}
use Rattle.game_codec.proofs.WritingLaws.{numbered-played}
use Rattle.game_codec.proofs.WalkSteps.{move_bad, move_goes}
use Rattle.game_codec.specs.Walking.{GoesOn}
use Rattle.game_codec.proofs.TailLaws.{tail_behind}
use Rattle.game_codec.proofs.walk.next_move.Goals as goal

pub returns-in_err-used-clause-fault : goal.returns-in_err-used-clause-fault
returns-in_err-used-clause-fault c = if_err _ c.from_residual.result (λ left g. c.in_err-used.ensures.fault c.args.here.now left g)

pub returns-in_default-clause-next : goal.returns-in_default-clause-next
returns-in_default-clause-next c =
    let ends = rw c.in_default.is at c.in_ok-used.ensures.due in
    (refl, λ left g. ends c.args.here.now left g)

pub returns-in-Err-clause-fault : goal.returns-in-Err-clause-fault
returns-in-Err-clause-fault c = λ left g.
    let due = rw c.in-Some.is at c.in_ok-used.ensures.due in
    let back = sym c.split_at.ensures.back in
    move_bad c.args.here.now c.split_at.result.1.now c.in-Err.fault (subst IsMoveDue back due.1.0) c.in-Err.ensures.decodes left
    (subst (GoesOn c.args.here.now left) back (due.1.1 c.args.here.now left g))

pub returns-in-Ok-clause-next : goal.returns-in-Ok-clause-next
returns-in-Ok-clause-next c =
    let here = c.args.here.now in
    let due = c.split_at.result.1.now in
    let ahead = c.split_at-in-Ok.result.1.now in
    let found = rw c.in-Some.is at c.in_ok-used.ensures.due in
    let back = sym c.split_at.ensures.back in
    let front_size = ap (λ (l : List ℕ). length l) c.split_at.ensures.back in
    let rest = c.split_at-in-Ok.ensures.back ∙ ap (λ (n : ℕ). drop n due) c.from.ensures in
    let size = ap (λ (l : List ℕ). length l) rest in (
      c.in-Ok.ensures.step,
      (
        omega (arith, front_size, size, length-drop c.in-Some.used c.args.bytes.now, length-drop c.in-Ok.taken due, c.in-Ok.ensures.used.0, c.in-Ok.ensures.used.1.1),
        λ left g. move_goes here c.advance.new.self due ahead c.in-Ok.m c.in-Ok.taken (subst IsMoveDue back found.1.0) c.in-Ok.ensures.decodes
            (numbered-played here c.in-Ok.m c.advance.new.self c.in-Ok.ensures.step c.in-Ok.ensures.numbers) rest left
            (subst (GoesOn here left) back (found.1.1 here left g)),
      ),
    )

pub returns-in-Ok-clause-tail : goal.returns-in-Ok-clause-tail
returns-in-Ok-clause-tail c =
    let due = c.split_at.result.1.now in
    let found = rw c.in-Some.is at c.in_ok-used.ensures.due in
    let rest = c.split_at-in-Ok.ensures.back ∙ ap (λ (n : ℕ). drop n due) c.from.ensures in
    tail_behind c.args.bytes.now due c.split_at-in-Ok.result.1.now c.in-Some.used c.in-Ok.taken found.0 c.split_at.ensures.back c.in-Ok.ensures.used.1.1 rest

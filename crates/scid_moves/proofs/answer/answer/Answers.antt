use Rattle.std.proofs.Common.{◌≡◌, ℕ, List, IfOk, Ok, Err, sym, subst, arith}
use Rattle.scid_moves.proofs.AnswerLaws.{answer_long, answer_read}
use Rattle.scid_moves.proofs.answer.answer.Goals as goal

pub returns-then-line-gt-LONGEST_LINE : goal.returns-then-line-gt-LONGEST_LINE
returns-then-line-gt-LONGEST_LINE c = record {
  answer = subst (λ (l : List ℕ). IfOk c.error_lines.result (λ text. text.items ≡ l)) (sym (answer_long c.args.line.now (omega (arith, c.if-line-gt-LONGEST_LINE.true)))) c.error_lines.ensures.lines;
}

pub returns-in-Ok : goal.returns-in-Ok
returns-in-Ok c =
    let read = answer_read c.args.line.now (Ok c.in-Ok.position) (omega (arith, c.if-line-gt-LONGEST_LINE.false)) c.in-Ok.ensures.answers in
    record { answer = subst (λ (l : List ℕ). IfOk c.listing.result (λ text. text.items ≡ l)) (sym read) c.listing.ensures.listing }

pub returns-in-Err : goal.returns-in-Err
returns-in-Err c =
    let read = answer_read c.args.line.now (Err c.in-Err.fault) (omega (arith, c.if-line-gt-LONGEST_LINE.false)) c.in-Err.ensures.answers in
    record { answer = subst (λ (l : List ℕ). IfOk c.refusal.result (λ text. text.items ≡ l)) (sym read) c.refusal.ensures.lines }

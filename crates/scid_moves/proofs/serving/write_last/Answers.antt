use Rattle.std.proofs.Common.{ℕ, length}
use Rattle.std.proofs.lemmas.Bool.{eqb-false}
use Rattle.scid_moves.proofs.AnswerLaws.{ok_map, on_err}
use Rattle.scid_moves.proofs.StandingLaws.{last_cut, last_written}
use Rattle.scid_moves.proofs.serving.write_last.Goals as goal

pub returns-clause-written : goal.returns-clause-written
returns-clause-written g c =
    let test = c.is_empty.ensures in
    let none = c.if-is_empty.false in
    let some = eqb-false (length c.args.line.now) 0 (cc) in
    ok_map c.write_answer.result _ _ (λ written front taken stands.
    last_written front c.args.line.now taken (g.K.Sink.taken c.args.out.now) (g.K.Sink.taken c.write_answer.new.out) some stands written) c.write_answer.ensures.written

pub returns-clause-cut : goal.returns-clause-cut
returns-clause-cut g c =
    let test = c.is_empty.ensures in
    let none = c.if-is_empty.false in
    let some = eqb-false (length c.args.line.now) 0 (cc) in
    on_err c.write_answer.result _ (λ front taken stands.
    last_cut front c.args.line.now taken (g.K.Sink.taken c.args.out.now) (g.K.Sink.taken c.write_answer.new.out) some stands c.write_answer.ensures.kept c.write_answer.ensures.no_more)

use Rattle.std.proofs.Common.{◌≡◌, ℕ, List, [], ◌∷◌, ◌++◌, sym, subst, arith}
use Rattle.std.proofs.lemmas.Bool.{ne_eqb}
use Rattle.base_files.specs.Told.{Grew, adds}
use Rattle.scid_moves.specs.Answers.{answer}
use Rattle.scid_moves.specs.Standing.{Stands}
use Rattle.scid_moves.proofs.AnswerLaws.{on_err}
use Rattle.scid_moves.proofs.StandingLaws.{cut_byte, cut_fed, stands_fed, stands_full, stands_kept}
use Rattle.scid_moves.proofs.serving.take_byte.Goals as goal

pub returns-in_err-write_answer-clause-cut : goal.returns-in_err-write_answer-clause-cut
returns-in_err-write_answer-clause-cut g c =
    let old = g.K.Sink.taken c.args.out.now in
    let new = g.K.Sink.taken c.write_answer.new.out in
    on_err c.from_residual.result _ (λ front taken stands.
    cut_fed c.args.byte front c.args.line.now.items taken old new (omega (arith, c.if-byte-eq10.true)) stands c.in_err-write_answer.ensures.kept
    (subst (λ (l : List ℕ). Grew new (adds old (answer l))) c.as_slice.ensures.value c.in_err-write_answer.ensures.no_more))

pub returns-then-byte-eq10-clause-stands : goal.returns-then-byte-eq10-clause-stands
returns-then-byte-eq10-clause-stands g c = λ front taken stands.
    let old = g.K.Sink.taken c.args.out.now in
    let new = g.K.Sink.taken c.write_answer.new.out in
    let written = subst (λ (l : List ℕ). new ≡ adds old (answer l)) c.as_slice.ensures.value c.in_ok-write_answer.ensures.written in
    subst (λ (l : List ℕ). Stands (front ++ c.args.byte ∷ []) l taken new) (sym c.clear.ensures.items)
    (stands_fed c.args.byte front c.args.line.now.items taken old new (omega (arith, c.if-byte-eq10.true)) stands written)

pub returns-in_err-push-clause-cut : goal.returns-in_err-push-clause-cut
returns-in_err-push-clause-cut g c =
    let none = ne_eqb c.args.byte 10 (λ is. absurd (omega (arith, is, c.if-byte-eq10.false))) in
    on_err c.from_residual-in_err-push.result _ (λ front taken stands. cut_byte c.args.byte front c.args.line.now.items taken (g.K.Sink.taken c.args.out.now) none stands)

pub returns-in_ok-push-clause-stands : goal.returns-in_ok-push-clause-stands
returns-in_ok-push-clause-stands g c = λ front taken stands.
    let none = ne_eqb c.args.byte 10 (λ is. absurd (omega (arith, is, c.if-byte-eq10.false))) in
    stands_kept c.args.byte front c.args.line.now.items c.push.new.self.items taken (g.K.Sink.taken c.args.out.now) none (omega (arith, c.if-len-lt-MOST_KEPT.true, c.len.ensures)) stands c.in_ok-push.ensures.items

pub returns-else-len-lt-MOST_KEPT-clause-stands : goal.returns-else-len-lt-MOST_KEPT-clause-stands
returns-else-len-lt-MOST_KEPT-clause-stands g c = λ front taken stands.
    let none = ne_eqb c.args.byte 10 (λ is. absurd (omega (arith, is, c.if-byte-eq10.false))) in
    stands_full c.args.byte front c.args.line.now.items taken (g.K.Sink.taken c.args.out.now) none (omega (arith, c.if-len-lt-MOST_KEPT.false, c.len.ensures)) stands

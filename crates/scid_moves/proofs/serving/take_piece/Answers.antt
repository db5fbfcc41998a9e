use Rattle.std.proofs.Common.{ℕ, ◌+◌, List, [], ◌∷◌, ◌++◌, take, drop, get_or, sym, ap, ◌∙◌, subst, arith, append_assoc}
use Rattle.std.proofs.lemmas.List.{take-append-drop, take_more}
use Rattle.scid_moves.specs.Standing.{Cut}
use Rattle.scid_moves.proofs.AnswerLaws.{on_err}
use Rattle.scid_moves.proofs.serving.take_piece.Goals as goal

pub returns-in_err-take_byte-clause-stopped : goal.returns-in_err-take_byte-clause-stopped
returns-in_err-take_byte-clause-stopped g c =
    let i = c.loop-byte.byte-index in
    let piece = c.args.piece.now in
    let more = take_more piece i 0 (omega (arith, c.loop-byte-test.true, c.loop-byte.invariant.within)) in
    on_err c.from_residual.result _ (λ front taken stands.
    let cut = c.in_err-take_byte.ensures.cut (front ++ take i piece) taken (c.loop-byte.invariant.stands front taken stands) in
    record {
      front = take (i + 1) piece;
      rest = drop (i + 1) piece;
      parts = sym (take-append-drop (i + 1) piece);
      cut =
          subst (λ (l : List ℕ). Cut l taken (g.K.Sink.taken c.take_byte.new.out))
          (append_assoc front (take i piece) (get_or piece i 0 ∷ []) ∙ ap (λ (l : List ℕ). front ++ l) (sym more)) cut;
    })

-- The row is one of this kind of man, and the square is among those to which it leads.
use Rattle.chess_laws.proofs.Words.{sym, ◌∙◌, false≢true}
use Rattle.chess_laws.proofs.sliding.runs_by.Goals as goal

pub returns-then-glides : goal.returns-then-glides
returns-then-glides c = λ men full.
    let row = c.row_squares.ensures men full c.args.to in
    let has = rw c.of_bits.ensures.bits at c.has.ensures.has in
    (λ h. (sym c.glides.ensures ∙ c.if-glides.true, row.0 (has.0 h)), λ h. has.1 (row.1 h.1))

pub returns-else-glides : goal.returns-else-glides
returns-else-glides c = λ men full. ((λ h. absurd (false≢true (sym c.if-glides.false ∙ h))), (λ h. c.glides.ensures ∙ h.0))

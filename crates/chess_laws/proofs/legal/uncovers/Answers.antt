use Rattle.chess_laws.proofs.Words.{false≢true, sym, ◌∙◌, other}
use Rattle.chess_laws.proofs.Opening.{slides-off}
use Rattle.chess_laws.proofs.legal.uncovers.Goals as goal

pub returns-else-are_on_line : goal.returns-else-are_on_line
returns-else-are_on_line c =
    let p = c.args.p.now in
    rw c.if-are_on_line.false
    (slides-off p.board (other p.side) c.args.from c.args.king c.requires.squares
    (λ any. false≢true (sym c.if-are_on_line.false ∙ c.are_on_line.ensures.rooks p.board any))
    (λ any. false≢true (sym c.if-are_on_line.false ∙ c.are_on_line.ensures.bishops p.board any)))

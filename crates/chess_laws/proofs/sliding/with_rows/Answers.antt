use Rattle.chess_laws.proofs.Words.{ℕ, ◌+◌, ◌∷◌, offset_at}
use Rattle.chess_laws.proofs.Reached.{one-more}
use Rattle.chess_laws.proofs.sliding.with_rows.Goals as goal

pub returns : goal.returns
returns c = λ men full steps b rest.
    let more = one-more men c.args.from b in
    let row = λ (k : ℕ). offset_at (c.args.first + k) in
    let last = more (row 3) steps _ _ (c.row_squares-4.ensures men full b) rest in
    let third = more (row 2) (row 3 ∷ steps) _ _ (c.row_squares-3.ensures men full b) last in
    let second = more (row 1) (row 2 ∷ row 3 ∷ steps) _ _ (c.row_squares-2.ensures men full b) third in
    more (offset_at c.args.first) (row 1 ∷ row 2 ∷ row 3 ∷ steps) _ _ (c.row_squares.ensures men full b) second

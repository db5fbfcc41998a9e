use Rattle.chess_laws.proofs.Words.{◌≡◌, ◌∙◌, ap, squares_of}
use Rattle.chess_laws.proofs.Clear.{seen-slides}
use Rattle.chess_laws.proofs.attack.is_seen.Goals as goal

pub returns : goal.returns
returns c = λ men any.
    let bits : c.of_bits.result.bits ≡ squares_of c.args.lines.now c.args.s = c.of_bits.ensures.bits ∙ ap (squares_of c.args.lines.now) c.index.ensures.number in
    c.has.ensures.has.1 (rw bits (seen-slides c.args.lines.now c.args.kind c.args.s men c.requires.lines c.index.ensures.on_board c.args.t any))

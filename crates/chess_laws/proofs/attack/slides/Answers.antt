use Rattle.chess_laws.proofs.Words.{◌≡◌, ◌∙◌, ap, squares_of, Has}
use Rattle.chess_laws.proofs.Clear.{seen-slides, slides-told}
use Rattle.chess_laws.proofs.attack.slides.Goals as goal

pub returns : goal.returns
returns c = λ new by is full.
    let bits : c.of_bits.result.bits ≡ squares_of c.args.lines.now c.args.s = c.of_bits.ensures.bits ∙ ap (squares_of c.args.lines.now) c.index-from.ensures.number in
    slides-told new by c.args.kind c.args.s c.of_bits.result.bits c.args.men (Has c.within-there.result) c.come.result c.index-from.ensures.on_board is
    c.within-there.ensures.both
    (λ a any. rw bits (seen-slides c.args.lines.now c.args.kind c.args.s new c.requires.lines c.index-from.ensures.on_board a any))
    (c.come.ensures new full)

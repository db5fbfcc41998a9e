use Rattle.chess_laws.proofs.Words.{◌∙◌, ap, bit_and}
use Rattle.chess_laws.proofs.left.Left.of_kind.Goals as goal

pub returns : goal.returns
returns c = λ new colour l. ap (bit_and c.args.self.now.men) c.of_kind.ensures.squares ∙ l.of_kind c.args.kind

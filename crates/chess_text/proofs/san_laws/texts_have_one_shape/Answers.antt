use Rattle.chess_text.proofs.ShapeLaws.{one-shape}
use Rattle.chess_text.proofs.san_laws.texts_have_one_shape.Goals as goal

pub returns : goal.returns
returns c = record { one = one-shape }

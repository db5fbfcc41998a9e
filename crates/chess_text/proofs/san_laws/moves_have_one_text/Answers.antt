use Rattle.chess_text.proofs.OneText.{one-text}
use Rattle.chess_text.proofs.san_laws.moves_have_one_text.Goals as goal

pub returns : goal.returns
returns c = record { one = one-text }

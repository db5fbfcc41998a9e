use Rattle.chess_text.specs.SanStarts.{StartsBut}
use Rattle.chess_text.proofs.san_playing.starts_of_men.Given as goal

-- what was found covers the men that are not left
abbrev pub invariant-men : goal.invariant-men
invariant-men l = StartsBut l.p l.g l.left l.starts

abbrev pub decreases-men : goal.decreases-men
decreases-men l = l.left

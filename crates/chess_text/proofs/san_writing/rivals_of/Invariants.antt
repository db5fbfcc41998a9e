use Rattle.chess_text.specs.SanWriting.{RivalsBut}
use Rattle.chess_text.proofs.san_writing.rivals_of.Given as goal

-- the men that are not left
abbrev pub invariant-men : goal.invariant-men
invariant-men l = RivalsBut l.p l.kind l.m l.left l.seen

abbrev pub decreases-men : goal.decreases-men
decreases-men l = l.left

use Rattle.chess_text.specs.SanSearch.{FoundBut}
use Rattle.chess_text.proofs.san_reading.by_men.Given as goal

-- what was found is known of the men that are not left
abbrev pub invariant-men : goal.invariant-men
invariant-men l = FoundBut l.p l.g l.left l.found

abbrev pub decreases-men : goal.decreases-men
decreases-men l = l.left

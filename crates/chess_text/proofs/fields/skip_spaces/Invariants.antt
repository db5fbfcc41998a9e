use Rattle.std.proofs.Common.{◌≡◌, length}
use Rattle.chess_text.specs.WordReading.{passed_spaces}
use Rattle.chess_text.proofs.fields.skip_spaces.Given as goal

-- the spaces that were passed over don't matter
abbrev pub invariant-loop-rest : goal.invariant-loop-rest
invariant-loop-rest l = passed_spaces l.rest ≡ passed_spaces l.fn.text

abbrev pub decreases-loop-rest : goal.decreases-loop-rest
decreases-loop-rest l = length l.rest

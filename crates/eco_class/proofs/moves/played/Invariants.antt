use Rattle.std.proofs.Common.{◌≡◌, length}
use Rattle.chess_laws.specs.Position.{start_setup}
use Rattle.eco_class.specs.Cutting.{words_of}
use Rattle.eco_class.specs.Reading.{played}
use Rattle.eco_class.proofs.moves.played.Given as goal

-- What is left of the words leads from here to where all of them lead from the start.
abbrev pub invariant-loop-word : goal.invariant-loop-word
invariant-loop-word l = played l.place (words_of l.rest) ≡ played start_setup (words_of l.fn.words)

abbrev pub decreases-loop-word : goal.decreases-loop-word
decreases-loop-word l = length l.rest

-- Below the lowest bit of the word that is shifted down there is none.
use Rattle.chess_laws.proofs.Sets.{bit-first}
use Rattle.chess_laws.proofs.targets.SquareSet.next.Goals as goal

pub returns-clause-first : goal.returns-clause-first
returns-clause-first c = λ k. bit-first c.args.self.now.bits c.args.at c.in_ok-place.place _ k c.at.ensures.numbered c.in_ok-place.ensures.first

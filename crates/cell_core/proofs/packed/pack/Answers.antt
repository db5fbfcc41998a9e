-- The words are those of the board, so they stand for its squares and give them back.
use Rattle.cell_core.proofs.Packing.{packs, given_back}
use Rattle.cell_core.proofs.packed.pack.Goals as goal

pub invariant_of-result : goal.invariant_of-result
invariant_of-result c = rw c.words.ensures.words (packs c.args.board.now c.words.ensures.squares)

pub returns-clause-given_back : goal.returns-clause-given_back
returns-clause-given_back c = rw c.words.ensures.words (given_back c.args.board.now c.words.ensures.squares)

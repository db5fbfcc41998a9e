-- Each word is that of a bit of the nibbles.
use Rattle.cell_core.proofs.Packing.{four_words}
use Rattle.cell_core.proofs.packed.words.Goals as goal

pub returns-clause-words : goal.returns-clause-words
returns-clause-words c =
    four_words c.args.board.now c.of_kind.result c.of_kind-2.result c.of_kind-rooks.result c.of_kind-3.result c.of_kind-knights.result c.of_kind-pawns.result
    c.of_colour.result c.of_kind.ensures.squares c.of_kind-2.ensures.squares c.of_kind-rooks.ensures.squares c.of_kind-3.ensures.squares
    c.of_kind-knights.ensures.squares c.of_kind-pawns.ensures.squares c.of_colour.ensures.squares

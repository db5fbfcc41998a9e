use Rattle.std.proofs.Common.{sym, ◌∙◌}
use Rattle.cell_core.specs.Packed.{packed_of}
use Rattle.book_pages.proofs.PlaceLemmas.{tells}
use Rattle.book_pages.proofs.counting.place_of.Goals as goal

pub returns-clause-tells : goal.returns-clause-tells
returns-clause-tells c =
    tells c.args.boards.now.keys c.pack.result c.args.place.now c.get_index_of.result c.requires.unique c.requires.packed
    (c.pack.ensures.packed ∙ (λ i. packed_of (c.board.ensures.board i) (c.side.ensures.side i))) (c.pack.ensures.given_back ∙ c.board.ensures.board)
    (sym c.get_index_of.ensures.index) c.get_index_of.ensures.found

use Rattle.std.proofs.Common.{List, subst}
use Rattle.std.specs.Prelude.{All}
use Rattle.std.proofs.lemmas.List.{take_all}
use Rattle.cell_core.specs.Packed.{Packed}
use Rattle.book_pages.specs.Keeping.{IsBoard}
use Rattle.book_pages.proofs.BoardLemmas.{boards_more, lesser}
use Rattle.book_pages.proofs.book.fewest_in.Goals as goal

pub loop-board-preserved : goal.loop-board-preserved
loop-board-preserved c =
    let less = lesser c.loop-board.fewest c.men_on.result c.min-fewest.result c.min-fewest.ensures in
    boards_more c.args.boards.now c.loop-board.board-index c.loop-board.fewest c.men_on.result c.min-fewest.result c.board-item.result
    c.loop-board-test.true less.0 less.1 c.men_on.ensures.board c.board-item.is c.loop-board.invariant

pub returns : goal.returns
returns c = record {
  fewest = subst (λ (boards : List Packed). All (IsBoard c.loop-board.fewest) boards) (take_all c.loop-board.board-index c.args.boards.now c.loop-board-test.false) c.loop-board.invariant;
}

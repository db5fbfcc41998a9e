use Rattle.book_pages.proofs.order.pages_behind.Goals as goal

pub page_behind-requires : goal.page_behind-requires
page_behind-requires c = record {
  key = rw (c.unpack-board.ensures.board, c.unpack-board.ensures.side, c.row-item.is)
      (c.rows-rows.ensures.keys c.board-packed.result c.board-packed.ensures.board c.loop-row.row-index c.row-item.result c.loop-row-test.true);
}

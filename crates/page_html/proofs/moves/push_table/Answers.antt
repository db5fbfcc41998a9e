use Rattle.std.proofs.Common.{◌≡◌, ◌++◌, ℕ, List, subst}
use Rattle.std.specs.Prelude.{OnOk}
use Rattle.tree_rows.specs.MoveText.{IsKey}
use Rattle.page_html.proofs.TableLemmas.{table_is}
use Rattle.page_html.proofs.moves.push_table.Goals as goal

pub push_all-requires-clause-keys : goal.push_all-requires-clause-keys
push_all-requires-clause-keys c =
    rw (c.unpack-board.ensures.board, c.unpack-board.ensures.side) (c.rows-rows.ensures.keys c.board-packed.result c.board-packed.ensures.board)

pub returns : goal.returns
returns c = record {
  table = λ board rows is_board is_rows.
      subst (λ (text : List ℕ). OnOk c.push_all.result (c.push_all.new.out.items ≡ c.args.out.now.items ++ text))
      (table_is c.args.book.now.boards c.args.book.now.rows c.args.page c.board-packed.result board c.rows-rows.result.now rows c.unpack-board.result.0
      c.unpack-board.result.1 c.total.result c.board-packed.ensures.board c.rows-rows.ensures.rows c.unpack-board.ensures.board c.unpack-board.ensures.side
      c.total.ensures.sums is_board is_rows) c.push_all.ensures.table;
}

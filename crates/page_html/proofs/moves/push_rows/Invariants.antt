use Rattle.std.proofs.Common.{◌≡◌, ◌++◌, drop, flat_map}
use Rattle.page_html.specs.Table.{move_row}
use Rattle.page_html.proofs.moves.push_rows.Given as goal

-- What is left gives the same as all.
abbrev pub invariant-loop-row : goal.invariant-loop-row
invariant-loop-row l =
    l.out.items ++ flat_map (move_row l.here.book.now.boards l.here.board l.here.side l.here.total.games) (drop l.row-index l.rows)
    ≡ l.initial.out.items ++ flat_map (move_row l.here.book.now.boards l.here.board l.here.side l.here.total.games) l.rows

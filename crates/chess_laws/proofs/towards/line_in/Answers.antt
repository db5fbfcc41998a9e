-- The table tells the row, or that there is none.
use Rattle.chess_laws.proofs.Words.{arith}
use Rattle.chess_laws.proofs.Ways.{way-none, way-row}
use Rattle.chess_laws.proofs.towards.line_in.Goals as goal

pub returns-then-way-lt8-clause-row : goal.returns-then-way-lt8-clause-row
returns-then-way-lt8-clause-row c =
    way-row c.args.table.now c.args.from c.args.to c.way_in-way.result c.way_in-way.ensures.way c.requires.says
    c.way_in-way.ensures.on_board.0 c.way_in-way.ensures.on_board.1 (omega arith)

pub returns-else-way-lt8-clause-row : goal.returns-else-way-lt8-clause-row
returns-else-way-lt8-clause-row c =
    way-none c.args.table.now c.args.from c.args.to c.way_in-way.result c.way_in-way.ensures.way c.requires.says
    c.way_in-way.ensures.on_board.0 c.way_in-way.ensures.on_board.1 (omega arith)

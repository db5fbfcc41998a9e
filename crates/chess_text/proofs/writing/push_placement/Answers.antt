use Rattle.chess_text.proofs.WritingLaws.{writes_rank}
use Rattle.chess_text.proofs.writing.push_placement.Goals as goal

pub loop-above-preserved : goal.loop-above-preserved
loop-above-preserved c =
    writes_rank _ _ _ _ c.loop-above.above c.args.board.now _ _ c.as_slice-squares.ensures c.cells.ensures.men
    c.loop-above-test.true c.in_ok-push_row.ensures.ok c.in_ok-push.ensures.items c.loop-above.invariant

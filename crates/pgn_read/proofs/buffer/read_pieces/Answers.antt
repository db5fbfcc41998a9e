use Rattle.std.proofs.Common.{arith, ◌∙◌}
use Rattle.pgn_read.proofs.BufferLaws.{front_stays, read_more}
use Rattle.pgn_read.proofs.buffer.read_pieces.Goals as goal

pub reads-preserved : goal.reads-preserved
reads-preserved g c = record {
  front =
      front_stays c.args.kept c.reads.to c.args.bytes.now c.reads.bytes c.read_piece.new.bytes c.reads.invariant.more c.read_piece.ensures.front
      c.reads.invariant.front;
  size = c.read_piece.ensures.size ∙ c.reads.invariant.size;
  within = omega (arith, c.in_ok-n.ensures.fits, c.read_piece.ensures.size);
  few = omega (arith, c.reads.invariant.few, c.reads-test.true, c.in_ok-n.ensures.few);
  more = omega (arith, c.reads.invariant.more);
  given =
      read_more c.args.kept c.reads.to c.in_ok-n.n c.reads.bytes c.read_piece.new.bytes _ _ _ c.reads.invariant.more
      (omega (arith, c.in_ok-n.ensures.fits, c.read_piece.ensures.size)) c.read_piece.ensures.front c.reads.invariant.given c.in_ok-n.ensures.given;
  sum = omega (arith, c.reads.invariant.sum, c.in_ok-n.ensures.spent);
  spends = omega (arith, c.reads.invariant.spends, c.in_ok-n.ensures.spent);
  faults = omega (arith, c.reads.invariant.faults, c.read_piece.ensures.counts);
  same = c.read_piece.ensures.same ∙ c.reads.invariant.same;
}

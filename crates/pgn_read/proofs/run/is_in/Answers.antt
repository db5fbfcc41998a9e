use Rattle.std.proofs.Common.{not, eqb}
use Rattle.std.specs.Prelude.{slice_index_or, bit_and}
use Rattle.std.proofs.lemmas.Bool.{agree_below_at}
use Rattle.pgn_read.specs.Classes.{tells}
use Rattle.pgn_read.proofs.run.is_in.Goals as goal

pub returns : goal.returns
unfolding tells
returns c = record {
  told = λ test all.
      agree_below_at (λ byte. not (eqb (bit_and (slice_index_or c.args.table.now byte 0) c.args.class) 0)) test 256 c.args.byte all c.ranges.byte.fits;
}

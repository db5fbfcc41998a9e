use Rattle.pgn_read.specs.declared.run.Run.TheVariants as run
use Rattle.pgn_read.proofs.ClearLaws.{in_front}
use Rattle.pgn_read.proofs.lexing.brace_from.Goals as goal

pub has_zero_behind-requires : goal.has_zero_behind-requires
has_zero_behind-requires c = record {
  known = in_front run.ToZero run.ToBrace _ c.args.clear.zeros _ c.args.text.now c.requires.clear.zeros c.split_run_behind.ensures.front c.min.ensures;
}

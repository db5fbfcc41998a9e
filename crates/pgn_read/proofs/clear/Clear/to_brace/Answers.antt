use Rattle.std.proofs.Common.{ap, length}
use Rattle.pgn_read.specs.declared.run.Run.TheVariants as run
use Rattle.pgn_read.proofs.ClearLaws.{found, of_whole}
use Rattle.pgn_read.proofs.clear.Clear.to_brace.Goals as goal

pub split_at-requires : goal.split_at-requires
split_at-requires c = (found run.ToBrace _ c.args.text.now (ap length c.split_run_behind.ensures.front)).there

pub returns-then-self-braces : goal.returns-then-self-braces
returns-then-self-braces c = record {
  clear = record { braces = found run.ToBrace _ c.args.text.now (ap length c.split_run_behind.ensures.front); zeros = c.requires.clear.zeros };
}

pub returns : goal.returns
returns c = record {
  clear = record {
    braces = found run.ToBrace _ c.args.text.now (ap length c.split_run_behind.ensures.front);
    zeros =
        of_whole run.ToZero _ _ c.args.text.now
        (rw c.split_at.ensures.front at (found run.ToZero _ c.split_at.result.0.now (ap length c.split_run_behind-2.ensures.front)));
  };
}

use Rattle.pgn_read.proofs.ClearLaws.{behind_first}
use Rattle.pgn_read.proofs.lexing.lexed.Goals as goal

pub brace_from-requires : goal.brace_from-requires
brace_from-requires c = record {
  clear = behind_first c.args.clear c.behind.result c.args.text.now c.requires.clear c.behind.ensures.braces c.behind.ensures.zeros;
}

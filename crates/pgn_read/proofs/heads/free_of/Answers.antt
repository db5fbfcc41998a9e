use Rattle.std.proofs.Common.{◌∙◌}
use Rattle.pgn_read.proofs.HeadLaws.{free_are_tags}
use Rattle.pgn_read.proofs.heads.free_of.Goals as goal

pub returns-clause-free : goal.returns-clause-free
returns-clause-free c = c.from_vec.ensures.same ∙ c.in_ok-free.ensures.free

pub returns-clause-bounded : goal.returns-clause-bounded
returns-clause-bounded c = rw (returns-clause-free c) (free_are_tags c.args.tags.items c.requires.read)

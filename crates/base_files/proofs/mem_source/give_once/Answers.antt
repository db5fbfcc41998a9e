use Rattle.std.proofs.Common.{arith}
use Rattle.base_files.proofs.Pieces.{given_split}
use Rattle.base_files.proofs.mem_source.give_once.Goals as goal

pub returns-clause-given : goal.returns-clause-given
returns-clause-given c =
    given_split _ _ _ _ _ _ c.split_at.ensures.back c.copy_from_slice.ensures.after (omega arith)

use Rattle.std.proofs.Common.{rules}
use Rattle.script_text.proofs.NumberLaws.{found_first}
use Rattle.script_text.proofs.numbers.split_once.Goals as goal

pub returns-then-byte-at : goal.returns-then-byte-at
returns-then-byte-at c =
    found_first c.args.at _ c.split_at.result.1.now _ (search rules) (search rules) (search rules)

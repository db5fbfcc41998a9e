-- Where the name ends, nothing more is shared.
use Rattle.std.proofs.Common.{drop, arith}
use Rattle.std.proofs.lemmas.List.{length-drop}
use Rattle.name_base.proofs.TextLemmas.{share_none}
use Rattle.name_base.proofs.writing.shared_prefix.Goals as goal

pub returns-else-len-name-clause-shared : goal.returns-else-len-name-clause-shared
returns-else-len-name-clause-shared c =
    let none = share_none (drop c.loop-len.len c.args.before.now) (drop c.loop-len.len c.args.name.now) (omega (arith, length-drop c.loop-len.len c.args.name.now)) in
    omega (arith, none, c.loop-len.invariant.same)

use Rattle.std.proofs.Common.{rules}
use Rattle.command_runs.proofs.Tagging.{tagged_broken, tagged_none_lost}
use Rattle.command_runs.proofs.tagged_writing.write_tagged.Goals as goal

pub returns-in-Ok-clause-none_lost : goal.returns-in-Ok-clause-none_lost
returns-in-Ok-clause-none_lost g c =
    let none_lost = tagged_none_lost _ _ _ _ _ c.write_in-way.ensures.rendered c.flush.ensures.none_lost in
    search (rules, none_lost)

pub returns-in-Err-clause-halted : goal.returns-in-Err-clause-halted
returns-in-Err-clause-halted g c =
    let broken = tagged_broken _ _ _ _ c.args.text.now c.write_in-way.ensures.rendered c.write_in-way.ensures.halted in
    search (rules, broken)

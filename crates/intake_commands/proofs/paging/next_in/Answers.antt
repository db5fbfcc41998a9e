use Rattle.std.proofs.Common.{Option, rules}
use Rattle.pgn_read.specs.declared.item.Item.{Item}
use Rattle.intake_commands.proofs.PagingLaws.{paging_causes, paging_fault, paging_none_lost}
use Rattle.intake_commands.proofs.paging.next_in.Goals as goal

pub returns-in-Ok-clause-none_lost : goal.returns-in-Ok-clause-none_lost
returns-in-Ok-clause-none_lost g c =
    let kept = paging_none_lost _ _ _ _ _ _ _ _ _ _ _ _ _ c.requires.begins c.next.new.source.stands in
    search (rules, kept)

pub returns-in-Some-clause-fault : goal.returns-in-Some-clause-fault
returns-in-Some-clause-fault g c =
    let fault = paging_fault _ _ _ _ _ _ _ _ c.in-Some.halt c.next.new.source.stands c.in-Some.is in
    search (rules, fault)

pub returns-in-Some-clause-none_lost : goal.returns-in-Some-clause-none_lost
returns-in-Some-clause-none_lost g c =
    let kept = paging_none_lost _ _ _ _ _ _ _ _ _ _ _ _ _ c.requires.begins c.next.new.source.stands in
    search (rules, kept)

pub returns-in-Some-clause-causes : goal.returns-in-Some-clause-causes
returns-in-Some-clause-causes g c =
    let causes = paging_causes {A = Option Item} _ _ _ _ _ _ _ _ _ _ _ _ _ c.in-Some.halt c.requires.begins c.next.new.source.stands c.in-Some.is in
    search (rules, causes)

pub returns-in-None-clause-none_lost : goal.returns-in-None-clause-none_lost
returns-in-None-clause-none_lost g c =
    let kept = paging_none_lost _ _ _ _ _ _ _ _ _ _ _ _ _ c.requires.begins c.next.new.source.stands in
    search (rules, kept)

use Rattle.std.proofs.Common.{[]}
use Rattle.base_core.proofs.NamingLaws.{are-ids}
use Rattle.base_core.specs.Entries.{head_of}
use Rattle.base_core.proofs.taking.take_each.Goals as goal

pub returns-clause-ids : goal.returns-clause-ids
unfolding head_of
returns-clause-ids c =
    are-ids (head_of c.args.of.now c.args.e.now []) c.take_name.new.names c.take_name-2.new.names c.take_name-3.new.names c.take_name-4.new.names c.take_name-5.new.names
    (record { white = c.in_ok-white.white; black = c.in_ok-black.black; event = c.in_ok-event.event; site = c.in_ok-site.site; round = c.in_ok-round.round })
    c.take_name-2.ensures.holds c.take_name-3.ensures.holds c.take_name-4.ensures.holds c.take_name-5.ensures.holds
    c.in_ok-white.ensures.id c.in_ok-black.ensures.id c.in_ok-event.ensures.id c.in_ok-site.ensures.id c.in_ok-round.ensures.id

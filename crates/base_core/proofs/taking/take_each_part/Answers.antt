use Rattle.std.proofs.Common.{[], rules}
use Rattle.name_base.specs.PartNames.{filled_names}
use Rattle.base_core.specs.Entries.{head_of}
use Rattle.base_core.proofs.NamingLaws.{are-ids, over-black, over-event, over-round, over-site, over-white, then_black, then_event, then_site}
use Rattle.base_core.proofs.taking.take_each_part.Goals as goal

pub returns-in_err-white-clause-why : goal.returns-in_err-white-clause-why
unfolding head_of
returns-in_err-white-clause-why c =
    let told = over-white (head_of (filled_names c.args.of.now) c.args.e.now []) c.args.names.now c.in_err-white.field-0.0 c.in_err-white.ensures.why in
    search (rules, told)

pub returns-in_err-black-clause-why : goal.returns-in_err-black-clause-why
unfolding head_of
returns-in_err-black-clause-why c =
    let told = over-black (head_of (filled_names c.args.of.now) c.args.e.now []) c.args.names.now c.take_one.new.names c.in_err-black.field-0.0 c.in_ok-white.ensures.names c.in_err-black.ensures.why in
    search (rules, told)

pub returns-in_err-event-clause-why : goal.returns-in_err-event-clause-why
unfolding head_of
returns-in_err-event-clause-why c =
    let head = (head_of (filled_names c.args.of.now) c.args.e.now []) in
    let n = c.args.names.now in
    let black = then_black head n c.take_one.new.names c.take_one-2.new.names c.in_ok-white.ensures.names c.in_ok-black.ensures.names in
    let told = over-event head n c.take_one-2.new.names c.in_err-event.field-0.0 black c.take_one-2.ensures.sound c.in_err-event.ensures.why in
    search (rules, told)

pub returns-in_err-site-clause-why : goal.returns-in_err-site-clause-why
unfolding head_of
returns-in_err-site-clause-why c =
    let head = (head_of (filled_names c.args.of.now) c.args.e.now []) in
    let n = c.args.names.now in
    let black = then_black head n c.take_one.new.names c.take_one-2.new.names c.in_ok-white.ensures.names c.in_ok-black.ensures.names in
    let event = then_event head n c.take_one-2.new.names c.take_one-3.new.names black c.in_ok-event.ensures.names in
    let told = over-site head n c.take_one-3.new.names c.in_err-site.field-0.0 event c.take_one-3.ensures.sound c.in_err-site.ensures.why in
    search (rules, told)

pub returns-in_err-round-clause-why : goal.returns-in_err-round-clause-why
unfolding head_of
returns-in_err-round-clause-why c =
    let head = (head_of (filled_names c.args.of.now) c.args.e.now []) in
    let n = c.args.names.now in
    let black = then_black head n c.take_one.new.names c.take_one-2.new.names c.in_ok-white.ensures.names c.in_ok-black.ensures.names in
    let event = then_event head n c.take_one-2.new.names c.take_one-3.new.names black c.in_ok-event.ensures.names in
    let site = then_site head n c.take_one-3.new.names c.take_one-4.new.names event c.in_ok-site.ensures.names in
    let told = over-round head n c.take_one-4.new.names c.in_err-round.field-0.0 site c.take_one-4.ensures.sound c.in_err-round.ensures.why in
    search (rules, told)

pub returns-clause-ids : goal.returns-clause-ids
unfolding head_of
returns-clause-ids c =
    are-ids (head_of (filled_names c.args.of.now) c.args.e.now []) c.take_one.new.names c.take_one-2.new.names c.take_one-3.new.names c.take_one-4.new.names c.take_one-5.new.names
    (record { white = c.in_ok-white.white; black = c.in_ok-black.black; event = c.in_ok-event.event; site = c.in_ok-site.site; round = c.in_ok-round.round })
    c.take_one-2.ensures.holds c.take_one-3.ensures.holds c.take_one-4.ensures.holds c.take_one-5.ensures.holds
    c.in_ok-white.ensures.id c.in_ok-black.ensures.id c.in_ok-event.ensures.id c.in_ok-site.ensures.id c.in_ok-round.ensures.id

use Rattle.std.proofs.Common.{rules}
use Rattle.base_core.proofs.NamingLaws.{are-ids, over-black, over-event, over-round, over-site, over-white, then_black, then_event, then_site}
use Rattle.base_core.proofs.naming.add_each.Goals as goal

pub returns-in_err-white-clause-why : goal.returns-in_err-white-clause-why
returns-in_err-white-clause-why c =
    let told = over-white c.args.head.now c.args.names.now c.in_err-white.field-0.0 c.in_err-white.ensures.why in
    search (rules, told)

pub returns-in_err-black-clause-why : goal.returns-in_err-black-clause-why
returns-in_err-black-clause-why c =
    let told = over-black c.args.head.now c.args.names.now c.add_name.new.names c.in_err-black.field-0.0 c.in_ok-white.ensures.names c.in_err-black.ensures.why in
    search (rules, told)

pub returns-in_err-event-clause-why : goal.returns-in_err-event-clause-why
returns-in_err-event-clause-why c =
    let head = c.args.head.now in
    let n = c.args.names.now in
    let black = then_black head n c.add_name.new.names c.add_name-2.new.names c.in_ok-white.ensures.names c.in_ok-black.ensures.names in
    let told = over-event head n c.add_name-2.new.names c.in_err-event.field-0.0 black c.add_name-2.ensures.sound c.in_err-event.ensures.why in
    search (rules, told)

pub returns-in_err-site-clause-why : goal.returns-in_err-site-clause-why
returns-in_err-site-clause-why c =
    let head = c.args.head.now in
    let n = c.args.names.now in
    let black = then_black head n c.add_name.new.names c.add_name-2.new.names c.in_ok-white.ensures.names c.in_ok-black.ensures.names in
    let event = then_event head n c.add_name-2.new.names c.add_name-3.new.names black c.in_ok-event.ensures.names in
    let told = over-site head n c.add_name-3.new.names c.in_err-site.field-0.0 event c.add_name-3.ensures.sound c.in_err-site.ensures.why in
    search (rules, told)

pub returns-in_err-round-clause-why : goal.returns-in_err-round-clause-why
returns-in_err-round-clause-why c =
    let head = c.args.head.now in
    let n = c.args.names.now in
    let black = then_black head n c.add_name.new.names c.add_name-2.new.names c.in_ok-white.ensures.names c.in_ok-black.ensures.names in
    let event = then_event head n c.add_name-2.new.names c.add_name-3.new.names black c.in_ok-event.ensures.names in
    let site = then_site head n c.add_name-3.new.names c.add_name-4.new.names event c.in_ok-site.ensures.names in
    let told = over-round head n c.add_name-4.new.names c.in_err-round.field-0.0 site c.add_name-4.ensures.sound c.in_err-round.ensures.why in
    search (rules, told)

pub returns-clause-ids : goal.returns-clause-ids
returns-clause-ids c =
    are-ids c.args.head.now c.add_name.new.names c.add_name-2.new.names c.add_name-3.new.names c.add_name-4.new.names c.add_name-5.new.names
    (record { white = c.in_ok-white.white; black = c.in_ok-black.black; event = c.in_ok-event.event; site = c.in_ok-site.site; round = c.in_ok-round.round })
    c.add_name-2.ensures.holds c.add_name-3.ensures.holds c.add_name-4.ensures.holds c.add_name-5.ensures.holds
    c.in_ok-white.ensures.id c.in_ok-black.ensures.id c.in_ok-event.ensures.id c.in_ok-site.ensures.id c.in_ok-round.ensures.id

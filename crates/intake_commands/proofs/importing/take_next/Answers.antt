use Rattle.std.proofs.Common.{None, ◌≡◌, ◌-◌, Option, Some, refl, subst, arith}
use Rattle.base_files.specs.Told.{adds}
use Rattle.command_runs.specs.Plain.{after_all}
use Rattle.pgn_read.specs.Items.{items_of}
use Rattle.pgn_read.specs.Readers.{Follows, told}
use Rattle.pgn_read.specs.declared.item.Item.{Item}
use Rattle.intake_commands.proofs.IntakeLaws.{body_fault, first_added, first_read, item_keeps, took_cut, took_first, took_end, took_number, took_one, took_short, took_still}
use Rattle.intake_commands.proofs.importing.take_next.Goals as goal
use Rattle.intake_commands.specs.Importing.{Intake, intake, item_after, next_number, none_taken}
use Rattle.shell_state.proofs.CarryLaws.{carry_of}

pub returns-in-Ok-None-clause-took : goal.returns-in-Ok-None-clause-took
returns-in-Ok-None-clause-took g c = λ s text start added refused took number.
    let still = took_still c.args.machine.now (g.F.Files.seen c.args.files.now) s text (told c.args.reader.now (g.B.Source.left c.args.body.now)) start (adds (g.K.Sink.taken c.args.out.now) c.args.page.now.items) (adds (g.K.Sink.taken c.next_behind.new.out) c.next_behind.new.page.items) added refused took c.next_behind.ensures.kept in
    took_end c.args.machine.now (g.F.Files.seen c.args.files.now) s text (told c.args.reader.now (g.B.Source.left c.args.body.now)) (told c.next_behind.new.reader (g.B.Source.left c.next_behind.new.body)) start (adds (g.K.Sink.taken c.next_behind.new.out) c.next_behind.new.page.items)
    added refused c.in-Ok-None.field-0 still c.in-Ok-None.ensures.item c.in-Ok-None.field-0-is

pub returns-in-Ok-None-clause-stays : goal.returns-in-Ok-None-clause-stays
returns-in-Ok-None-clause-stays g c = λ s st. record { state = s; stands = st; carried = refl }

pub returns-in-Ok-None-clause-carries : goal.returns-in-Ok-None-clause-carries
returns-in-Ok-None-clause-carries g c = λ s st. carry_of c.args.machine.now (g.F.Files.seen c.args.files.now) s None st

pub returns-in-Err-clause-carries : goal.returns-in-Err-clause-carries
returns-in-Err-clause-carries g c = λ s st. carry_of c.args.machine.now (g.F.Files.seen c.args.files.now) s None st

pub returns-in-Err-clause-took : goal.returns-in-Err-clause-took
returns-in-Err-clause-took g c = λ s text start added refused took number.
    let still = took_still c.args.machine.now (g.F.Files.seen c.args.files.now) s text (told c.args.reader.now (g.B.Source.left c.args.body.now)) start (adds (g.K.Sink.taken c.args.out.now) c.args.page.now.items) (adds (g.K.Sink.taken c.next_behind.new.out) c.next_behind.new.page.items) added refused took c.next_behind.ensures.kept in (
      took_short c.args.machine.now (g.F.Files.seen c.args.files.now) s text (told c.args.reader.now (g.B.Source.left c.args.body.now)) start (adds (g.K.Sink.taken c.next_behind.new.out) c.next_behind.new.page.items) added refused still,
      c.in-Err.ensures.fault,
      first_read c.in-Err.halt c.args.machine.now s (items_of text) start (adds (g.K.Sink.taken c.next_behind.new.out) c.next_behind.new.page.items) c.in-Err.ensures.fault
          (took_first c.args.machine.now (g.F.Files.seen c.args.files.now) s text (told c.args.reader.now (g.B.Source.left c.args.body.now)) start (adds (g.K.Sink.taken c.next_behind.new.out) c.next_behind.new.page.items) added refused still),
    )

pub returns-in-Ok-clause-took : goal.returns-in-Ok-clause-took
unfolding took_still
returns-in-Ok-clause-took g c = λ s text start added refused took number.
    let still = took_still c.args.machine.now (g.F.Files.seen c.args.files.now) s text (told c.args.reader.now (g.B.Source.left c.args.body.now)) start (adds (g.K.Sink.taken c.args.out.now) c.args.page.now.items) (adds (g.K.Sink.taken c.next_behind.new.out) c.next_behind.new.page.items) added refused took c.next_behind.ensures.kept in
    let i : Intake = after_all intake (none_taken s) took.done in
    let n = took_number c.args.machine.now (g.F.Files.seen c.args.files.now) s text (told c.args.reader.now (g.B.Source.left c.args.body.now)) start (adds (g.K.Sink.taken c.args.out.now) c.args.page.now.items) added refused c.args.number took number in
    let F : Option Item → Type 0 = λ o. Follows (told c.args.reader.now (g.B.Source.left c.args.body.now)) o (told c.next_behind.new.reader (g.B.Source.left c.next_behind.new.body)) in
    let at : c.in-Ok-Some.field-0 ≡ Some c.in-Ok-Some.item = cc c.in-Ok-Some.field-0-is in
    let follows = subst F at c.in-Ok-Some.ensures.item in
    took_one c.args.machine.now c.take_item.new.machine (g.F.Files.seen c.args.files.now) (g.F.Files.seen c.take_item.new.files) s text (told c.args.reader.now (g.B.Source.left c.args.body.now)) (told c.next_behind.new.reader (g.B.Source.left c.next_behind.new.body)) start (adds (g.K.Sink.taken c.next_behind.new.out) c.next_behind.new.page.items) (adds (g.K.Sink.taken c.take_item.new.out) c.take_item.new.page.items)
    added refused c.in-Ok-Some.item c.in-Ok.added still follows (c.in-Ok.ensures.serves i took.stands.stands n) (c.in-Ok.ensures.counted i took.stands.stands)

pub returns-in-Ok-clause-stays : goal.returns-in-Ok-clause-stays
returns-in-Ok-clause-stays g c = λ s st.
    let i : Intake = record { state = s; added = c.args.number - 1; refused = 0 } in
    let n : next_number i ≡ c.args.number = omega (arith, c.requires.from_one) in
    let did = c.in-Ok.ensures.serves i st n in
    record { state = (item_after i c.in-Ok-Some.item).state; stands = did.stands; carried = item_keeps i c.in-Ok-Some.item }

pub returns-clause-took : goal.returns-clause-took
unfolding took_still
returns-clause-took g c = λ s text start added refused took number.
    let still = took_still c.args.machine.now (g.F.Files.seen c.args.files.now) s text (told c.args.reader.now (g.B.Source.left c.args.body.now)) start (adds (g.K.Sink.taken c.args.out.now) c.args.page.now.items) (adds (g.K.Sink.taken c.next_behind.new.out) c.next_behind.new.page.items) added refused took c.next_behind.ensures.kept in
    let i : Intake = after_all intake (none_taken s) took.done in
    let n = took_number c.args.machine.now (g.F.Files.seen c.args.files.now) s text (told c.args.reader.now (g.B.Source.left c.args.body.now)) start (adds (g.K.Sink.taken c.args.out.now) c.args.page.now.items) added refused c.args.number took number in
    let F : Option Item → Type 0 = λ o. Follows (told c.args.reader.now (g.B.Source.left c.args.body.now)) o (told c.next_behind.new.reader (g.B.Source.left c.next_behind.new.body)) in
    let at : c.in-Ok-Some.field-0 ≡ Some c.in-Ok-Some.item = cc c.in-Ok-Some.field-0-is in
    let follows = subst F at c.in-Ok-Some.ensures.item in
    let cut = c.in-Err-take_item.ensures.serves i took.stands.stands n in (
      took_cut c.args.machine.now (g.F.Files.seen c.args.files.now) s text (told c.args.reader.now (g.B.Source.left c.args.body.now)) (told c.next_behind.new.reader (g.B.Source.left c.next_behind.new.body)) start (adds (g.K.Sink.taken c.next_behind.new.out) c.next_behind.new.page.items) (adds (g.K.Sink.taken c.take_item.new.out) c.take_item.new.page.items)
          added refused c.in-Ok-Some.item c.in-Err-take_item.halt still follows cut,
      body_fault c.in-Err-take_item.halt cut.broken,
      first_added c.in-Err-take_item.halt c.args.machine.now c.take_item.new.machine s (items_of text) start (adds (g.K.Sink.taken c.next_behind.new.out) c.next_behind.new.page.items) (adds (g.K.Sink.taken c.take_item.new.out) c.take_item.new.page.items)
          cut.broken c.in-Err-take_item.ensures.kept c.in-Err-take_item.ensures.unsaid
          (took_first c.args.machine.now (g.F.Files.seen c.args.files.now) s text (told c.args.reader.now (g.B.Source.left c.args.body.now)) start (adds (g.K.Sink.taken c.next_behind.new.out) c.next_behind.new.page.items) added refused still),
    )

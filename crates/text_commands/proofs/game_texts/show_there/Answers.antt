use Rattle.std.proofs.Common.{arith, ◌<◌, ◌≤◌, ℕ, OnOk, length, sym, subst}
use Rattle.base_files.specs.Counters.{raised}
use Rattle.base_files.specs.Seen.{Seen}
use Rattle.shell_state.proofs.Quietly.{held_by, tables_with}
use Rattle.shell_state.specs.Stands.{Holding, Stands, Asks, AsksAll}
use Rattle.text_commands.proofs.GameTextLaws.{show_price, show_serves}
use Rattle.text_commands.proofs.game_texts.show_there.Goals as goal
use Rattle.text_commands.specs.GameTexts.{WritesTextOf, show_work}

pub returns-clause-serves : goal.returns-clause-serves
returns-clause-serves g c = λ s st.
    let here : Holding = held_by c.machine.inside.base (tables_with c.machine.inside.index c.machine.inside.slots.watches) c.machine.inside.seat.filter c.machine.inside.seat.saved.items in
    let st' : Stands here (g.F.Files.seen c.args.files.now) s = subst (λ (h : Holding). Stands h (g.F.Files.seen c.args.files.now) s) (sym c.machine.view_is) st in
    let later = subst (λ (seen : Seen). Stands here seen s) (sym c.write_one.ensures.unchanged) st' in
    show_serves c.write_one.result here (g.F.Files.seen c.write_one.new.files) s c.args.i (g.K.Sink.taken c.args.out.now) (g.K.Sink.taken c.write_one.new.out)
    (subst (λ (h : Holding). c.args.i < length h.kept.entries) (sym c.machine.view_is) c.requires.there) later
    (λ held at. c.write_one.ensures.written st'.games s.shared.base held st'.told st'.base at)

pub returns-clause-asks : goal.returns-clause-asks
returns-clause-asks g c =
    let here : Holding = held_by c.machine.inside.base (tables_with c.machine.inside.index c.machine.inside.slots.watches) c.machine.inside.seat.filter c.machine.inside.seat.saved.items in
    let P : Holding → Type 0 = λ h. Asks h (show_work c.args.i) (g.F.Files.asked c.args.files.now) (g.F.Files.asked c.write_one.new.files) in
    subst P c.machine.view_is (omega (arith, c.write_one.ensures.asks, show_price here c.args.i))

pub returns-clause-asked : goal.returns-clause-asked
returns-clause-asked g c =
    let here : Holding = held_by c.machine.inside.base (tables_with c.machine.inside.index c.machine.inside.slots.watches) c.machine.inside.seat.filter c.machine.inside.seat.saved.items in
    let first = g.F.Files.asked c.args.files.now in
    let new = g.F.Files.asked c.write_one.new.files in
    let P : Holding → Type 0 = λ h. OnOk c.write_one.result (AsksAll h (show_work c.args.i) first new) in
    subst P c.machine.view_is (subst (λ (n : ℕ). OnOk c.write_one.result (raised first n ≤ new)) (show_price here c.args.i) c.write_one.ensures.asked)

pub returns-clause-shown : goal.returns-clause-shown
returns-clause-shown g c =
    let P : Holding → Type 0 = λ h. OnOk c.write_one.result (WritesTextOf h.kept c.args.i (g.K.Sink.taken c.args.out.now) (g.K.Sink.taken c.write_one.new.out)) in
    subst P c.machine.view_is c.write_one.ensures.shown

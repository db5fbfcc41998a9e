use Rattle.std.proofs.Common.{arith, ◌≤◌, OnOk, List, ℕ, Option, sym, subst}
use Rattle.base_files.specs.Counters.{raised}
use Rattle.base_files.specs.Seen.{Seen}
use Rattle.shell_state.proofs.Quietly.{filter_is, held_by, tables_with}
use Rattle.shell_state.specs.Stands.{Holding, Stands, Asks, AsksAll}
use Rattle.text_commands.proofs.GameTextLaws.{export_breaks, export_serves, exported_price}
use Rattle.text_commands.proofs.game_texts.export.Goals as goal
use Rattle.text_commands.specs.Cuts.{GamesEnd}
use Rattle.text_commands.specs.GameTexts.{WritesTextsOf, export_work}

pub returns-clause-serves : goal.returns-clause-serves
returns-clause-serves g c = λ s st.
    let here : Holding = held_by c.machine.inside.base (tables_with c.machine.inside.index c.machine.inside.slots.watches) c.machine.inside.seat.filter c.machine.inside.seat.saved.items in
    let st' : Stands here (g.F.Files.seen c.args.files.now) s = subst (λ (h : Holding). Stands h (g.F.Files.seen c.args.files.now) s) (sym c.machine.view_is) st in
    let later = subst (λ (seen : Seen). Stands here seen s) (sym c.write_games.ensures.unchanged) st' in
    let P : List (Option ℕ) → Type 0 = λ plies. GamesEnd c.write_games.result plies s.shared.base.games (g.K.Sink.taken c.args.out.now) (g.K.Sink.taken c.write_games.new.out) in
    export_serves c.write_games.result here (g.F.Files.seen c.write_games.new.files) s (g.K.Sink.taken c.args.out.now) (g.K.Sink.taken c.write_games.new.out) later
    (subst P (filter_is st') (c.write_games.ensures.written st'.games s.shared.base st'.told st'.base))

pub returns-clause-cut : goal.returns-clause-cut
returns-clause-cut g c = λ s st.
    let here : Holding = held_by c.machine.inside.base (tables_with c.machine.inside.index c.machine.inside.slots.watches) c.machine.inside.seat.filter c.machine.inside.seat.saved.items in
    let st' : Stands here (g.F.Files.seen c.args.files.now) s = subst (λ (h : Holding). Stands h (g.F.Files.seen c.args.files.now) s) (sym c.machine.view_is) st in
    let P : List (Option ℕ) → Type 0 = λ plies. GamesEnd c.write_games.result plies s.shared.base.games (g.K.Sink.taken c.args.out.now) (g.K.Sink.taken c.write_games.new.out) in
    export_breaks c.write_games.result s.seat.filter s.shared.base.games (g.K.Sink.taken c.args.out.now) (g.K.Sink.taken c.write_games.new.out)
    (subst P (filter_is st') (c.write_games.ensures.written st'.games s.shared.base st'.told st'.base))

pub returns-clause-asks : goal.returns-clause-asks
returns-clause-asks g c =
    let here : Holding = held_by c.machine.inside.base (tables_with c.machine.inside.index c.machine.inside.slots.watches) c.machine.inside.seat.filter c.machine.inside.seat.saved.items in
    let P : Holding → Type 0 = λ h. Asks h export_work (g.F.Files.asked c.args.files.now) (g.F.Files.asked c.write_games.new.files) in
    subst P c.machine.view_is (omega (arith, c.write_games.ensures.asks, exported_price c.machine.inside.seat.filter here))

pub returns-clause-asked : goal.returns-clause-asked
returns-clause-asked g c =
    let here : Holding = held_by c.machine.inside.base (tables_with c.machine.inside.index c.machine.inside.slots.watches) c.machine.inside.seat.filter c.machine.inside.seat.saved.items in
    let first = g.F.Files.asked c.args.files.now in
    let new = g.F.Files.asked c.write_games.new.files in
    let P : Holding → Type 0 = λ h. OnOk c.write_games.result (AsksAll h export_work first new) in
    subst P c.machine.view_is
    (subst (λ (n : ℕ). OnOk c.write_games.result (raised first n ≤ new)) (exported_price c.machine.inside.seat.filter here) c.write_games.ensures.asked)

pub returns-clause-shown : goal.returns-clause-shown
returns-clause-shown g c =
    let P : Holding → Type 0 = λ h. OnOk c.write_games.result (WritesTextsOf h.kept h.seat.filter (g.K.Sink.taken c.args.out.now) (g.K.Sink.taken c.write_games.new.out)) in
    subst P c.machine.view_is c.write_games.ensures.shown

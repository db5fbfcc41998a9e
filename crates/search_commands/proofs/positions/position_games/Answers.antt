use Rattle.std.proofs.Common.{◌≤◌, ℕ, Option, OnOk, sym, ap, subst, ◌∙◌, arith}
use Rattle.base_core.proofs.GamesLaws.{are-within, holds}
use Rattle.base_core.specs.Represents.{extents_of, sigs_of}
use Rattle.base_files.specs.Counters.{raised}
use Rattle.pos_index.specs.Hits.{Index, IndexesAll, rows_told}
use Rattle.pos_search.specs.Matching.{firsts_of}
use Rattle.game_search.specs.Questions.{cost_of}
use Rattle.pos_search.specs.Searching.{are_read}
use Rattle.search_commands.proofs.FindingLaws.{search_stands}
use Rattle.search_commands.proofs.positions.position_games.Goals as goal
use Rattle.search_commands.specs.Searching.{search_position_work}
use Rattle.sig_index.specs.Costs.{price_by}
use Rattle.shell_state.proofs.IndexLaws.{indexes_all}
use Rattle.shell_state.proofs.Quietly.{found_sound, held_by, tables_with}
use Rattle.shell_state.proofs.Served.{on_ok}
use Rattle.shell_state.specs.Stands.{Holding, Stands, Sound, Asks, AsksAll}
use Rattle.shell_state.specs.State.{games_of}
use Rattle.shell_state.proofs.PriceLaws.{position_price}

pub search_games-requires-clause-within : goal.search_games-requires-clause-within
search_games-requires-clause-within g c =
    let sound = subst (λ (h : Holding). Sound h (g.F.Files.seen c.args.files.now)) (sym c.machine.view_is) c.requires.sound in
    are-within c.machine.inside.base (g.F.Files.seen c.args.files.now).known sound.base (omega (arith, sound.at_end.known))

pub returns-clause-stands : goal.returns-clause-stands
returns-clause-stands g c = λ s st.
    let st' = subst (λ (h : Holding). Stands h (g.F.Files.seen c.args.files.now) s) (sym c.machine.view_is) st in
    search_stands c.search_games.result c.machine.inside.base (tables_with c.machine.inside.index c.machine.inside.slots.watches) c.machine.inside.seat.filter c.search_games.new.filter c.machine.inside.seat.saved.items
    (g.F.Files.seen c.args.files.now) (g.F.Files.seen c.search_games.new.files) s c.args.op (firsts_of c.args.query.now (games_of s)) st' c.search_games.ensures.unchanged
    (c.search_games.ensures.found st'.games (games_of s) st'.told (holds c.machine.inside.base st'.games s.shared.base st'.base)
    (subst (λ (i : Option Index). IndexesAll i (games_of s)) (sym c.as_ref.ensures.value) (indexes_all _ _ s st')))

pub returns-clause-devices : goal.returns-clause-devices
returns-clause-devices g c = λ s st.
    let st' = subst (λ (h : Holding). Stands h (g.F.Files.seen c.args.files.now) s) (sym c.machine.view_is) st in
    c.search_games.ensures.devices st'.games (games_of s) st'.told (holds c.machine.inside.base st'.games s.shared.base st'.base)

pub returns-clause-sound : goal.returns-clause-sound
returns-clause-sound g c =
    let seen = g.F.Files.seen c.args.files.now in
    let sound = subst (λ (h : Holding). Sound h seen) (sym c.machine.view_is) c.requires.sound in
    on_ok _ c.search_games.result
    (found_sound c.machine.inside.base (tables_with c.machine.inside.index c.machine.inside.slots.watches) c.machine.inside.seat.filter c.search_games.new.filter c.machine.inside.seat.saved.items seen (g.F.Files.seen c.search_games.new.files)
    sound c.search_games.ensures.entries c.search_games.ensures.unchanged)

pub returns-clause-asks : goal.returns-clause-asks
returns-clause-asks g c =
    let P : Holding → Type 0 = λ h. Asks h (search_position_work c.args.op c.args.query.now) (g.F.Files.asked c.args.files.now) (g.F.Files.asked c.search_games.new.files) in
    let as-held = ap (λ (i : Option Index). price_by (cost_of c.args.op) (are_read c.args.query.now (rows_told i) (sigs_of c.machine.inside.base)) (extents_of c.machine.inside.base) c.machine.inside.seat.filter) c.as_ref.ensures.value in
    subst P c.machine.view_is
    (omega (arith, c.search_games.ensures.asks, as-held, position_price c.args.op c.args.query.now c.machine.inside.seat.filter (held_by c.machine.inside.base (tables_with c.machine.inside.index c.machine.inside.slots.watches) c.machine.inside.seat.filter c.machine.inside.seat.saved.items)))

pub returns-clause-asked : goal.returns-clause-asked
returns-clause-asked g c =
    let first = g.F.Files.asked c.args.files.now in
    let new = g.F.Files.asked c.search_games.new.files in
    let P : Holding → Type 0 = λ h. OnOk c.search_games.result (AsksAll h (search_position_work c.args.op c.args.query.now) first new) in
    let as-held = ap (λ (i : Option Index). price_by (cost_of c.args.op) (are_read c.args.query.now (rows_told i) (sigs_of c.machine.inside.base)) (extents_of c.machine.inside.base) c.machine.inside.seat.filter) c.as_ref.ensures.value in
    subst P c.machine.view_is
    (subst (λ (n : ℕ). OnOk c.search_games.result (raised first n ≤ new))
    (as-held ∙ position_price c.args.op c.args.query.now c.machine.inside.seat.filter (held_by c.machine.inside.base (tables_with c.machine.inside.index c.machine.inside.slots.watches) c.machine.inside.seat.filter c.machine.inside.seat.saved.items))
    c.search_games.ensures.asked)

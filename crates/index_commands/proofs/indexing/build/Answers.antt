use Rattle.std.proofs.Common.{rules, refl, sym, ap, ◌∙◌, subst, arith, ℕ, Some}
use Rattle.std.proofs.lemmas.List.{length-map}
use Rattle.base_core.proofs.GamesLaws.{are-within, holds}
use Rattle.base_core.specs.Entries.{sig_in}
use Rattle.pos_index.specs.Hits.{Fits, Index, entries_of}
use Rattle.index_commands.proofs.BuildLaws.{after_built, built, built_stands, has_room, text_built}
use Rattle.index_commands.proofs.indexing.build.Goals as goal
use Rattle.index_commands.specs.Indexing.{index_line, index_work}
use Rattle.shell_state.proofs.PriceLaws.{price_of_all}
use Rattle.shell_state.proofs.Quietly.{end_stays, held_by, tables_with}
use Rattle.shell_state.specs.Stands.{Asks, Holding, Sound, Stands}
use Rattle.shell_state.specs.State.{games_of}

pub read_index-requires-clause-within : goal.read_index-requires-clause-within
read_index-requires-clause-within g c =
    let sound = subst (λ (h : Holding). Sound h (g.F.Files.seen c.args.files.now)) (sym c.machine.view_is) c.requires.sound in
    are-within c.machine.inside.base (g.F.Files.seen c.args.files.now).known sound.base (omega (arith, sound.at_end.known))

pub returns-in-Err-clause-devices : goal.returns-in-Err-clause-devices
returns-in-Err-clause-devices g c = λ s st.
    let st' = subst (λ (h : Holding). Stands h (g.F.Files.seen c.args.files.now) s) (sym c.machine.view_is) st in
    c.in-Err.ensures.devices st'.games (games_of s) st'.told (holds c.machine.inside.base st'.games s.shared.base st'.base)

pub returns-in-Err-clause-asks : goal.returns-in-Err-clause-asks
returns-in-Err-clause-asks g c =
    let P : Holding → Type 0 = λ h. Asks h (index_work (Some c.args.depth)) (g.F.Files.asked c.args.files.now) (g.F.Files.asked c.read_index.new.files) in
    subst P c.machine.view_is (omega (arith, c.read_index.ensures.asks, price_of_all (held_by c.machine.inside.base (tables_with c.machine.inside.index c.machine.inside.slots.watches) c.machine.inside.seat.filter c.machine.inside.seat.saved.items)))

pub returns-in_err-line-clause-asks : goal.returns-in_err-line-clause-asks
returns-in_err-line-clause-asks g c =
    let P : Holding → Type 0 = λ h. Asks h (index_work (Some c.args.depth)) (g.F.Files.asked c.args.files.now) (g.F.Files.asked c.read_index.new.files) in
    subst P c.machine.view_is (omega (arith, c.read_index.ensures.asks, price_of_all (held_by c.machine.inside.base (tables_with c.machine.inside.index c.machine.inside.slots.watches) c.machine.inside.seat.filter c.machine.inside.seat.saved.items)))

pub returns-clause-asks : goal.returns-clause-asks
returns-clause-asks g c =
    let P : Holding → Type 0 = λ h. Asks h (index_work (Some c.args.depth)) (g.F.Files.asked c.args.files.now) (g.F.Files.asked c.read_index.new.files) in
    subst P c.machine.view_is (omega (arith, c.read_index.ensures.asks, price_of_all (held_by c.machine.inside.base (tables_with c.machine.inside.index c.machine.inside.slots.watches) c.machine.inside.seat.filter c.machine.inside.seat.saved.items)))

pub returns-clause-line : goal.returns-clause-line
returns-clause-line g c = λ s st.
    let st' = subst (λ (h : Holding). Stands h (g.F.Files.seen c.args.files.now) s) (sym c.machine.view_is) st in
    let fits : Fits c.args.depth c.games.result = search rules in
    let is = built c.in-Ok.index (games_of s) c.args.depth c.in-Ok.ensures.depth (c.in-Ok.ensures.indexed st'.games (games_of s) st'.told (holds c.machine.inside.base st'.games s.shared.base st'.base)) in
    c.in_ok-line.ensures ∙ ap (λ (plies : ℕ). index_line plies c.entries.result) c.from.ensures
    ∙ ap (λ (entries : ℕ). index_line c.args.depth entries) (c.entries.ensures.entries ∙ ap (λ (x : Index). entries_of x.rows) is)
    ∙ text_built s c.args.depth (has_room s c.args.depth c.games.result (c.games.ensures.games ∙ st.base.count) fits)

pub returns-clause-stands : goal.returns-clause-stands
returns-clause-stands g c = λ s st.
    let st' = subst (λ (h : Holding). Stands h (g.F.Files.seen c.args.files.now) s) (sym c.machine.view_is) st in
    let fits : Fits c.args.depth c.games.result = search rules in
    let is = built c.in-Ok.index (games_of s) c.args.depth c.in-Ok.ensures.depth (c.in-Ok.ensures.indexed st'.games (games_of s) st'.told (holds c.machine.inside.base st'.games s.shared.base st'.base)) in
    let new = held_by c.machine.inside.base (tables_with (Some c.in-Ok.index) c.machine.inside.slots.watches) c.machine.inside.seat.filter c.machine.inside.seat.saved.items in
    subst (Stands new (g.F.Files.seen c.read_index.new.files)) (after_built s c.args.depth (has_room s c.args.depth c.games.result (c.games.ensures.games ∙ st.base.count) fits))
    (built_stands c.machine.inside.base (tables_with c.machine.inside.index c.machine.inside.slots.watches) c.in-Ok.index c.machine.inside.seat.filter c.machine.inside.seat.saved.items (g.F.Files.seen c.args.files.now) (g.F.Files.seen c.read_index.new.files) s c.args.depth st' c.read_index.ensures.unchanged is)

pub returns-clause-sound : goal.returns-clause-sound
returns-clause-sound g c =
    let sound = subst (λ (h : Holding). Sound h (g.F.Files.seen c.args.files.now)) (sym c.machine.view_is) c.requires.sound in
    record {
      fits = sound.fits;
      tables = record { index = c.in-Ok.ensures.games ∙ length-map c.machine.inside.base.entries sig_in; hits = sound.tables.hits };
      base = sound.base;
      at_end = end_stays refl c.read_index.ensures.unchanged sound.at_end;
    }

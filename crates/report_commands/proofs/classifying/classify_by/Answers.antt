use Rattle.std.proofs.Common.{ℕ, List, [], All, Option, length, sym, ap, ap₂, ◌∙◌, subst, arith}
use Rattle.std.proofs.lemmas.List.{length-map}
use Rattle.std.specs.Prelude.{count_by, is_some}
use Rattle.base_core.proofs.GamesLaws.{are-within, holds}
use Rattle.base_core.specs.Base.{Held}
use Rattle.base_core.specs.Entries.{sig_in}
use Rattle.base_files.specs.Seen.{Seen}
use Rattle.eco_class.specs.Table.{eco_of}
use Rattle.report_commands.proofs.EcoLaws.{coded_fits, coded_stands}
use Rattle.report_commands.proofs.classifying.classify_by.Goals as goal
use Rattle.report_commands.specs.Classifying.{classified_by, classified_line, eco_work}
use Rattle.report_commands.specs.Ends.{AreCoded, IsCode}
use Rattle.shell_state.proofs.EditedLaws.{tables_fit_count}
use Rattle.shell_state.proofs.PriceLaws.{price_of_all}
use Rattle.shell_state.proofs.Quietly.{end_stays, held_by, tables_with}
use Rattle.shell_state.specs.Stands.{Holding, Sound, Stands, Asks}
use Rattle.shell_state.specs.State.{games_of}

pub find_codes-requires-clause-within : goal.find_codes-requires-clause-within
find_codes-requires-clause-within g c =
    let sound = subst (λ (h : Holding). Sound h (g.F.Files.seen c.args.files.now)) (sym c.machine.view_is) c.requires.sound in
    are-within c.machine.inside.base (g.F.Files.seen c.args.files.now).known sound.base (omega (arith, sound.at_end.known))

pub set_codes-requires : goal.set_codes-requires
set_codes-requires g c = record {
  count = ap (λ (codes : List (Option ℕ)). length codes) c.as_slice-codes.ensures.value ∙ (c.in-Ok.ensures.count ∙ length-map c.machine.inside.base.entries sig_in);
  small =
      let A : List (Option ℕ) → Type 0 = λ codes. All IsCode codes in
      subst A (sym c.as_slice-codes.ensures.value) c.in-Ok.ensures.small;
}

pub returns-clause-line : goal.returns-clause-line
returns-clause-line g c = λ s st.
    let st' = subst (λ (h : Holding). Stands h (g.F.Files.seen c.args.files.now) s) (sym c.machine.view_is) st in
    let found = c.in-Ok.ensures.found st'.games (games_of s) st'.told (holds c.machine.inside.base st'.games s.shared.base st'.base) in
    let are = c.as_slice-codes.ensures.value ∙ found in
    let games = ap (λ (codes : List (Option ℕ)). length codes) are ∙ (length-map (games_of s) (eco_of c.args.table.now) ∙ length-map s.shared.base.games (λ (held : Held). held.game)) in
    c.in_ok-line.ensures.line ∙ ap₂ classified_line (c.found_in.ensures ∙ ap (λ (codes : List (Option ℕ)). count_by is_some codes) are) games

pub returns-clause-stands : goal.returns-clause-stands
returns-clause-stands g c = λ s st.
    let seen = g.F.Files.seen c.args.files.now in
    let st' = subst (λ (h : Holding). Stands h seen s) (sym c.machine.view_is) st in
    let found = c.in-Ok.ensures.found st'.games (games_of s) st'.told (holds c.machine.inside.base st'.games s.shared.base st'.base) in
    let base = c.machine.inside.base in
    let new = c.set_codes.new.base in
    let filter = c.machine.inside.seat.filter in
    let saved = c.machine.inside.seat.saved.items in
    let coded = subst (λ (codes : List (Option ℕ)). AreCoded codes base new) (c.as_slice-codes.ensures.value) c.set_codes.ensures.coded in
    let here = coded_stands c.args.table.now c.in-Ok.found.items base new (tables_with c.machine.inside.index c.machine.inside.slots.watches) filter saved seen s found coded st' in
    subst (λ (x : Seen). Stands (held_by new (tables_with c.machine.inside.index c.machine.inside.slots.watches) filter saved) x (classified_by s c.args.table.now)) (sym c.find_codes.ensures.unchanged) here

pub returns-clause-sound : goal.returns-clause-sound
returns-clause-sound g c =
    let seen = g.F.Files.seen c.args.files.now in
    let sound = subst (λ (h : Holding). Sound h seen) (sym c.machine.view_is) c.requires.sound in
    let base = c.machine.inside.base in
    let new = c.set_codes.new.base in
    let coded = subst (λ (codes : List (Option ℕ)). AreCoded codes base new) c.as_slice-codes.ensures.value c.set_codes.ensures.coded in
    record {
      tables = tables_fit_count base new (tables_with c.machine.inside.index c.machine.inside.slots.watches) c.machine.inside.seat.filter c.machine.inside.seat.saved.items coded.count sound.tables;
      fits = coded_fits c.in-Ok.found.items base new (tables_with c.machine.inside.index c.machine.inside.slots.watches) c.machine.inside.seat.filter c.machine.inside.seat.saved.items coded sound.fits;
      base = c.keeps_sound.ensures.sound;
      at_end = end_stays coded.end c.find_codes.ensures.unchanged sound.at_end;
    }

pub returns-clause-asks : goal.returns-clause-asks
returns-clause-asks g c =
    let P : Holding → Type 0 = λ h. Asks h (eco_work []) (g.F.Files.asked c.args.files.now) (g.F.Files.asked c.find_codes.new.files) in
    subst P c.machine.view_is (omega (arith, c.find_codes.ensures.asks, price_of_all (held_by c.machine.inside.base (tables_with c.machine.inside.index c.machine.inside.slots.watches) c.machine.inside.seat.filter c.machine.inside.seat.saved.items)))

pub returns-in-Err-clause-asks : goal.returns-in-Err-clause-asks
returns-in-Err-clause-asks g c =
    let P : Holding → Type 0 = λ h. Asks h (eco_work []) (g.F.Files.asked c.args.files.now) (g.F.Files.asked c.find_codes.new.files) in
    subst P c.machine.view_is (omega (arith, c.find_codes.ensures.asks, price_of_all (held_by c.machine.inside.base (tables_with c.machine.inside.index c.machine.inside.slots.watches) c.machine.inside.seat.filter c.machine.inside.seat.saved.items)))

pub returns-in_err-line-clause-asks : goal.returns-in_err-line-clause-asks
returns-in_err-line-clause-asks g c =
    let P : Holding → Type 0 = λ h. Asks h (eco_work []) (g.F.Files.asked c.args.files.now) (g.F.Files.asked c.find_codes.new.files) in
    subst P c.machine.view_is (omega (arith, c.find_codes.ensures.asks, price_of_all (held_by c.machine.inside.base (tables_with c.machine.inside.index c.machine.inside.slots.watches) c.machine.inside.seat.filter c.machine.inside.seat.saved.items)))

pub returns-in-Err-clause-devices : goal.returns-in-Err-clause-devices
returns-in-Err-clause-devices g c = λ s st.
    let st' = subst (λ (h : Holding). Stands h (g.F.Files.seen c.args.files.now) s) (sym c.machine.view_is) st in
    c.in-Err.ensures.devices st'.games (games_of s) st'.told (holds c.machine.inside.base st'.games s.shared.base st'.base)

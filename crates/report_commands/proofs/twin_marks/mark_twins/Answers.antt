use Rattle.std.proofs.Common.{rules, vec_len, ◌≡◌, ◌<◌, ℕ, List, All, length, sym, ap, ◌∙◌, subst, arith}
use Rattle.std.proofs.lemmas.List.{length-map}
use Rattle.base_core.proofs.GamesLaws.{are-within, holds}
use Rattle.base_core.specs.Entries.{sig_in}
use Rattle.base_files.specs.Seen.{Seen}
use Rattle.report_commands.proofs.TwinLaws.{deleted_stands, found_are, marked_end, marked_fits, price_is, marked_tables_fit}
use Rattle.report_commands.proofs.twin_marks.mark_twins.Goals as goal
use Rattle.report_commands.specs.Ends.{Marked, twins_line}
use Rattle.report_commands.specs.Twins.{found_twins, with_deleted, twins_work}
use Rattle.shell_state.proofs.Quietly.{end_stays, held_by, tables_with}
use Rattle.shell_state.specs.Stands.{Holding, Sound, Stands, Asks}
use Rattle.shell_state.specs.State.{games_of}

pub find_twins-requires-clause-within : goal.find_twins-requires-clause-within
find_twins-requires-clause-within g c =
    let sound = subst (λ (h : Holding). Sound h (g.F.Files.seen c.args.files.now)) (sym c.machine.view_is) c.requires.sound in
    are-within c.machine.inside.base (g.F.Files.seen c.args.files.now).known sound.base (omega (arith, sound.at_end.known))

pub delete_all-requires : goal.delete_all-requires
delete_all-requires g c =
    let base = c.machine.inside.base in
    let A : List ℕ → Type 0 = λ games. All (λ game. game < length base.entries) games in
    let N : ℕ → Type 0 = λ n. All (λ game. game < n) c.in-Ok.found.items in
    record { there = subst A (sym c.as_slice.ensures.value) (subst N (length-map base.entries sig_in) c.in-Ok.ensures.there) }

pub returns-clause-line : goal.returns-clause-line
returns-clause-line g c = λ s st.
    let st' = subst (λ (h : Holding). Stands h (g.F.Files.seen c.args.files.now) s) (sym c.machine.view_is) st in
    let found = c.in-Ok.ensures.found st'.games (games_of s) st'.told (holds c.machine.inside.base st'.games s.shared.base st'.base) in
    let are = found_are c.machine.inside.base st'.games s c.in-Ok.found.items c.args.depth st'.base found in
    let size : vec_len c.in-Ok.found ≡ length c.in-Ok.found.items = search rules in
    c.in_ok-line.ensures ∙ ap twins_line (c.len.ensures ∙ (size ∙ ap (λ (games : List ℕ). length games) are))

pub returns-clause-stands : goal.returns-clause-stands
returns-clause-stands g c = λ s st.
    let seen = g.F.Files.seen c.args.files.now in
    let st' = subst (λ (h : Holding). Stands h seen s) (sym c.machine.view_is) st in
    let found = c.in-Ok.ensures.found st'.games (games_of s) st'.told (holds c.machine.inside.base st'.games s.shared.base st'.base) in
    let base = c.machine.inside.base in
    let new = c.delete_all.new.base in
    let filter = c.machine.inside.seat.filter in
    let saved = c.machine.inside.seat.saved.items in
    let marked = subst (λ (games : List ℕ). Marked games base new) c.as_slice.ensures.value c.delete_all.ensures.marked in
    let here = deleted_stands c.in-Ok.found.items base new (tables_with c.machine.inside.index c.machine.inside.slots.watches) filter saved seen s marked st' in
    subst (λ (x : Seen). Stands (held_by new (tables_with c.machine.inside.index c.machine.inside.slots.watches) filter saved) x (with_deleted s (found_twins s c.args.depth))) (sym c.find_twins.ensures.unchanged)
    (subst (λ (games : List ℕ). Stands (held_by new (tables_with c.machine.inside.index c.machine.inside.slots.watches) filter saved) seen (with_deleted s games)) (found_are base st'.games s c.in-Ok.found.items c.args.depth st'.base found) here)

pub returns-clause-sound : goal.returns-clause-sound
returns-clause-sound g c =
    let seen = g.F.Files.seen c.args.files.now in
    let sound = subst (λ (h : Holding). Sound h seen) (sym c.machine.view_is) c.requires.sound in
    let base = c.machine.inside.base in
    let new = c.delete_all.new.base in
    let marked = subst (λ (games : List ℕ). Marked games base new) c.as_slice.ensures.value c.delete_all.ensures.marked in
    record {
      fits = marked_fits c.in-Ok.found.items base new (tables_with c.machine.inside.index c.machine.inside.slots.watches) c.machine.inside.seat.filter c.machine.inside.seat.saved.items marked sound.fits;
      tables = marked_tables_fit c.in-Ok.found.items base new (tables_with c.machine.inside.index c.machine.inside.slots.watches) c.machine.inside.seat.filter c.machine.inside.seat.saved.items marked sound.tables;
      base = c.keeps_sound.ensures.sound;
      at_end = end_stays (marked_end c.in-Ok.found.items base new marked) c.find_twins.ensures.unchanged sound.at_end;
    }

pub returns-clause-asks : goal.returns-clause-asks
returns-clause-asks g c =
    let P : Holding → Type 0 = λ h. Asks h (twins_work c.args.depth) (g.F.Files.asked c.args.files.now) (g.F.Files.asked c.find_twins.new.files) in
    subst P c.machine.view_is (omega (arith, c.find_twins.ensures.asks, price_is (held_by c.machine.inside.base (tables_with c.machine.inside.index c.machine.inside.slots.watches) c.machine.inside.seat.filter c.machine.inside.seat.saved.items) c.machine.inside.seat.filter))

pub returns-in-Err-clause-asks : goal.returns-in-Err-clause-asks
returns-in-Err-clause-asks g c =
    let P : Holding → Type 0 = λ h. Asks h (twins_work c.args.depth) (g.F.Files.asked c.args.files.now) (g.F.Files.asked c.find_twins.new.files) in
    subst P c.machine.view_is (omega (arith, c.find_twins.ensures.asks, price_is (held_by c.machine.inside.base (tables_with c.machine.inside.index c.machine.inside.slots.watches) c.machine.inside.seat.filter c.machine.inside.seat.saved.items) c.machine.inside.seat.filter))

pub returns-in_err-line-clause-asks : goal.returns-in_err-line-clause-asks
returns-in_err-line-clause-asks g c =
    let P : Holding → Type 0 = λ h. Asks h (twins_work c.args.depth) (g.F.Files.asked c.args.files.now) (g.F.Files.asked c.find_twins.new.files) in
    subst P c.machine.view_is (omega (arith, c.find_twins.ensures.asks, price_is (held_by c.machine.inside.base (tables_with c.machine.inside.index c.machine.inside.slots.watches) c.machine.inside.seat.filter c.machine.inside.seat.saved.items) c.machine.inside.seat.filter))

pub returns-in-Err-clause-devices : goal.returns-in-Err-clause-devices
returns-in-Err-clause-devices g c = λ s st.
    let st' = subst (λ (h : Holding). Stands h (g.F.Files.seen c.args.files.now) s) (sym c.machine.view_is) st in
    c.in-Err.ensures.devices st'.games (games_of s) st'.told (holds c.machine.inside.base st'.games s.shared.base st'.base)

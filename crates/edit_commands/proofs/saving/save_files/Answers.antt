use Rattle.std.proofs.Common.{sym, subst}
use Rattle.base_core.specs.Represents.{Kept}
use Rattle.base_core.specs.Saved.{IsSaved, MeansIt}
use Rattle.block_store.specs.Placing.{IsEnd}
use Rattle.edit_commands.proofs.SaveLaws.{save_stands, saved_sound, unsaved_carry}
use Rattle.edit_commands.proofs.saving.save_files.Goals as goal
use Rattle.edit_commands.specs.Saving.{save_after}
use Rattle.shell_state.proofs.Quietly.{held_by, tables_with}
use Rattle.shell_state.specs.Stands.{Holding, Sound, Stands}

pub returns-in-Err-clause-carries : goal.returns-in-Err-clause-carries
returns-in-Err-clause-carries g c = λ s st.
    let st' = subst (λ (h : Holding). Stands h (g.F.Files.seen c.args.files.now) s) (sym c.machine.view_is) st in
    unsaved_carry c.machine.inside.base (tables_with c.machine.inside.index c.machine.inside.slots.watches) c.machine.inside.seat.filter c.machine.inside.seat.saved.items (g.F.Files.seen c.args.files.now) (g.F.Files.seen c.save.new.files) s st'
    c.in-Err.ensures.left c.in-Err.ensures.carries

pub returns-clause-stands : goal.returns-clause-stands
returns-clause-stands g c = λ s st.
    let seen' = g.F.Files.seen c.save.new.files in
    let st' = subst (λ (h : Holding). Stands h (g.F.Files.seen c.args.files.now) s) (sym c.machine.view_is) st in
    let means = subst (λ (k : Kept). MeansIt k seen') c.in_default.ensures.kept c.in_default.ensures.means in
    subst (λ (k : Kept). Stands (held_by k (tables_with c.machine.inside.index c.machine.inside.slots.watches) c.machine.inside.seat.filter c.machine.inside.seat.saved.items) seen' (save_after s)) (sym c.in_default.ensures.kept)
    (save_stands c.machine.inside.base (tables_with c.machine.inside.index c.machine.inside.slots.watches) c.machine.inside.seat.filter c.machine.inside.seat.saved.items (g.F.Files.seen c.args.files.now) seen' s st' c.in_default.ensures.saved means)

pub returns-clause-sound : goal.returns-clause-sound
returns-clause-sound g c =
    let seen' = g.F.Files.seen c.save.new.files in
    let sound = subst (λ (h : Holding). Sound h (g.F.Files.seen c.args.files.now)) (sym c.machine.view_is) c.requires.sound in
    let at = subst (λ (k : Kept). IsEnd k.end seen') c.in_default.ensures.kept c.save.ensures.at_end in
    subst (λ (k : Kept). Sound (held_by k (tables_with c.machine.inside.index c.machine.inside.slots.watches) c.machine.inside.seat.filter c.machine.inside.seat.saved.items) seen') (sym c.in_default.ensures.kept)
    (saved_sound c.machine.inside.base (tables_with c.machine.inside.index c.machine.inside.slots.watches) c.machine.inside.seat.filter c.machine.inside.seat.saved.items (g.F.Files.seen c.args.files.now) seen' sound at)

pub returns-clause-saved : goal.returns-clause-saved
returns-clause-saved g c = subst (λ (h : Holding). IsSaved h.kept (g.F.Files.seen c.args.files.now) (g.F.Files.seen c.save.new.files)) c.machine.view_is c.in_default.ensures.saved

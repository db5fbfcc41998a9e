use Rattle.std.proofs.Common.{◌<◌, ℕ, length, refl, sym, subst}
use Rattle.std.specs.Prelude.{codes}
use Rattle.base_core.specs.Edited.{Does}
use Rattle.base_core.specs.Edits.{marked}
use Rattle.edit_commands.proofs.EditLaws.{hits_marked, quiet_edit}
use Rattle.edit_commands.proofs.editing.mark.Goals as goal
use Rattle.edit_commands.specs.Editing.{mark_work}
use Rattle.shell_state.proofs.Quietly.{held_by, tables_with}
use Rattle.shell_state.specs.Stands.{Fits, Holding, Quiet}
use Rattle.shell_state.specs.Work.{quiet}

pub returns : goal.returns
returns c =
    let base = c.machine.inside.base in
    let tables = tables_with c.machine.inside.index c.machine.inside.slots.watches in
    let filter = c.machine.inside.seat.filter in
    let saved = c.machine.inside.seat.saved.items in
    let fits = subst (λ (h : Holding). Fits h) (sym c.machine.view_is) c.requires.fits in
    let here = subst (λ (h : Holding). c.in-Some.i < length h.kept.entries) (sym c.machine.view_is) c.in-Some.ensures.at.1 in
    let there = subst (λ (n : ℕ). n < length base.entries) c.in-Some.ensures.at.0 here in
    let does = subst (λ (n : ℕ). Does (marked n c.args.bit c.args.on) base c.mark.new.self) c.in-Some.ensures.at.0 c.in_default-mark.ensures.marked in
    record {
      quiet =
          let P : Holding → Type 0 = λ h. Quiet h (mark_work c.args.number c.args.bit c.args.on) (held_by c.mark.new.self tables filter saved) c.number_line.result.items in
          subst P c.machine.view_is
          (quiet_edit (codes "marked ") (marked c.args.number c.args.bit c.args.on) c.args.number base c.mark.new.self tables filter saved (mark_work c.args.number c.args.bit c.args.on) c.number_line.result.items
          (λ s. refl) (λ s. refl) there does c.in_default-mark.ensures.heads (hits_marked c.args.number c.args.bit c.args.on) c.keeps_sound.ensures.sound c.number_line.ensures.line fits);
    }

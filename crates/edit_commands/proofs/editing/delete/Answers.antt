use Rattle.std.proofs.Common.{◌<◌, ℕ, length, refl, sym, subst}
use Rattle.std.specs.Prelude.{codes}
use Rattle.base_core.specs.Edited.{Does}
use Rattle.base_core.specs.Edits.{deleted}
use Rattle.edit_commands.proofs.EditLaws.{hits_deleted, quiet_edit}
use Rattle.edit_commands.proofs.editing.delete.Goals as goal
use Rattle.edit_commands.specs.Editing.{delete_work}
use Rattle.shell_state.proofs.Quietly.{held_by, tables_with}
use Rattle.shell_state.specs.Stands.{Fits, Holding, Quiet}
use Rattle.shell_state.specs.Work.{quiet}

pub returns : goal.returns
returns c =
    let base = c.machine.inside.base in
    let tables = tables_with c.machine.inside.index c.machine.inside.slots.watches in
    let filter = c.machine.inside.seat.filter in
    let saved = c.machine.inside.seat.saved.items in
    let fits = subst (λ (h : Holding). Fits h) (sym c.machine.view_is) c.requires.fits in
    let here = subst (λ (h : Holding). c.in-Some.i < length h.kept.entries) (sym c.machine.view_is) c.in-Some.ensures.at.1 in
    let there = subst (λ (n : ℕ). n < length base.entries) c.in-Some.ensures.at.0 here in
    let does = subst (λ (n : ℕ). Does (deleted n) base c.delete.new.self) c.in-Some.ensures.at.0 c.in_default-delete.ensures.deleted in
    record {
      quiet =
          let P : Holding → Type 0 = λ h. Quiet h (delete_work c.args.number) (held_by c.delete.new.self tables filter saved) c.number_line.result.items in
          subst P c.machine.view_is
          (quiet_edit (codes "deleted ") (deleted c.args.number) c.args.number base c.delete.new.self tables filter saved (delete_work c.args.number) c.number_line.result.items
          (λ s. refl) (λ s. refl) there does c.in_default-delete.ensures.heads (hits_deleted c.args.number) c.keeps_sound.ensures.sound c.number_line.ensures.line fits);
    }

use Rattle.std.proofs.Common.{sym, subst, ◌∙◌, ap}
use Rattle.base_core.specs.Represents.{heads_of}
use Rattle.report_commands.proofs.CrossLaws.{quiet_cross}
use Rattle.report_commands.proofs.crosstables.cross.Goals as goal
use Rattle.report_commands.specs.Crosstables.{cross_of, cross_work}
use Rattle.shell_state.proofs.Quietly.{held_by, if_ok, tables_with}
use Rattle.shell_state.specs.Stands.{Holding, Fits, Quiet}
use Rattle.shell_state.specs.Work.{quiet}

pub returns : goal.returns
returns c =
    let old : Holding = held_by c.machine.inside.base (tables_with c.machine.inside.index c.machine.inside.slots.watches) c.machine.inside.seat.filter c.machine.inside.seat.saved.items in
    let fits = subst Fits (sym c.machine.view_is) c.requires.fits in
    record {
      quiet = if_ok _ _ c.text_of.result
          (λ text is.
          let P : Holding → Type 0 = λ h. Quiet h (cross_work c.args.event.now) h text.items in
          let named = is ∙ ap (λ event. cross_of event (heads_of c.machine.inside.base)) c.as_bytes.ensures.bytes in
          subst P c.machine.view_is (quiet_cross old c.args.event.now text.items fits named))
          c.text_of.ensures.text;
    }

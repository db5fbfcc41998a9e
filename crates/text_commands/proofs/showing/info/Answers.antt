use Rattle.std.proofs.Common.{length, sym, ap, subst, ◌∙◌}
use Rattle.index_entry.specs.declared.index.IndexHead.{IndexHead}
use Rattle.name_base.specs.NameLists.{NameLists}
use Rattle.shell_state.proofs.Quietly.{held_by, if_ok, tables_with}
use Rattle.shell_state.specs.Stands.{Holding, Fits, Quiet}
use Rattle.shell_state.specs.Work.{quiet}
use Rattle.text_commands.proofs.Informing.{quiet_info}
use Rattle.text_commands.proofs.showing.info.Goals as goal
use Rattle.text_commands.specs.Showing.{info_work}

pub returns : goal.returns
returns c =
    let old : Holding = held_by c.machine.inside.base (tables_with c.machine.inside.index c.machine.inside.slots.watches) c.machine.inside.seat.filter c.machine.inside.seat.saved.items in
    let fits = subst Fits (sym c.machine.view_is) c.requires.fits in
    let named = c.names-names.ensures.names in
    record {
      quiet = if_ok _ _ c.info_line.result
          (λ line is.
          let P : Holding → Type 0 = λ h. Quiet h info_work h line.items in
          subst P c.machine.view_is
          (quiet_info old line.items c.header.result.now.games c.deleted_in.result c.count.result c.count-2.result c.count-3.result c.count-4.result c.unsaved.result c.depth_of.result fits is
          (ap (λ (h : IndexHead). h.games) c.header.ensures.header ∙ sym c.header.ensures.sound.count)
          c.deleted_in.ensures
          (c.count.ensures.count ∙ ap (λ (n : NameLists). length n.players) named)
          (c.count-2.ensures.count ∙ ap (λ (n : NameLists). length n.events) named)
          (c.count-3.ensures.count ∙ ap (λ (n : NameLists). length n.sites) named)
          (c.count-4.ensures.count ∙ ap (λ (n : NameLists). length n.rounds) named)
          c.unsaved.ensures.unsaved c.depth_of.ensures.depth))
          c.info_line.ensures;
    }

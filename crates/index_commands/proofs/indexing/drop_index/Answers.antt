use Rattle.std.proofs.Common.{None, refl, sym, subst}
use Rattle.index_commands.proofs.BuildLaws.{dropped_sound, dropped_stands}
use Rattle.index_commands.proofs.indexing.drop_index.Goals as goal
use Rattle.index_commands.specs.Indexing.{index_work}
use Rattle.shell_state.proofs.Quietly.{tables_with}
use Rattle.shell_state.proofs.Served.{line_serves, on_ok}
use Rattle.shell_state.specs.Stands.{Holding, Sound, Stands}

pub returns-clause-serves : goal.returns-clause-serves
returns-clause-serves g c = λ seen s st.
    let st' = subst (λ (h : Holding). Stands h seen s) (sym c.machine.view_is) st in
    line_serves c.write_line.result _ (index_work None) _ seen s _ _
    (dropped_stands c.machine.inside.base (tables_with c.machine.inside.index c.machine.inside.slots.watches) c.machine.inside.seat.filter c.machine.inside.seat.saved.items seen s st')
    refl c.write_line.ensures.written c.write_line.ensures.halted c.write_line.ensures.output

pub returns-clause-sound : goal.returns-clause-sound
returns-clause-sound g c = λ seen sound.
    on_ok _ c.write_line.result
    (dropped_sound c.machine.inside.base (tables_with c.machine.inside.index c.machine.inside.slots.watches) c.machine.inside.seat.filter c.machine.inside.seat.saved.items seen
    (subst (λ (h : Holding). Sound h seen) (sym c.machine.view_is) sound))

use Rattle.std.proofs.Common.{List, ℕ, [], sym, subst, ap, ◌∙◌}
use Rattle.base_files.specs.Told.{adds}
use Rattle.command_runs.specs.Endings.{Halted}
use Rattle.shell_state.proofs.Causing.{broken_by_output, output_of}
use Rattle.shell_state.specs.Stands.{Holding, Stands}
use Rattle.shell_state.specs.declared.halt.Halt.TheVariants as halt
use Rattle.text_commands.proofs.ListingLaws.{listed_text}
use Rattle.text_commands.proofs.listing.list.Goals as goal
use Rattle.text_commands.specs.Listing.{list_work}

pub returns-clause-serves : goal.returns-clause-serves
returns-clause-serves g c = λ seen s st.
    let st' = subst (λ (h : Holding). Stands h seen s) (sym c.machine.view_is) st in
    record { stands = st'; written = c.in-Ok.ensures.written ∙ ap (adds (g.K.Sink.taken c.args.out.now)) (listed_text _ seen s st') }

pub returns-in-Err-clause-serves : goal.returns-in-Err-clause-serves
returns-in-Err-clause-serves g c = λ seen s st.
    let st' = subst (λ (h : Holding). Stands h seen s) (sym c.machine.view_is) st in
    let P : List ℕ → Type 0 = λ l. Halted [] l (g.K.Sink.taken c.args.out.now) (g.K.Sink.taken c.write_list.new.out) in
    record { wrote = subst P (listed_text _ seen s st') c.in-Err.ensures.halted; broken = broken_by_output s list_work (halt.Device c.in-Err.stop) (output_of c.in-Err.stop _ _ c.in-Err.ensures.causes.why) _ _ _ }

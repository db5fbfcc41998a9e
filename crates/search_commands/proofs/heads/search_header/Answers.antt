use Rattle.std.proofs.Common.{sym, subst}
use Rattle.search_commands.proofs.HeadLaws.{quiet_heads}
use Rattle.search_commands.proofs.heads.search_header.Goals as goal
use Rattle.search_commands.specs.Searching.{search_header_work}
use Rattle.shell_state.proofs.Quietly.{held_by, tables_with}
use Rattle.shell_state.specs.Stands.{Holding, Fits, Quiet}
use Rattle.shell_state.specs.Work.{quiet}

pub returns : goal.returns
returns c =
    let fits = subst Fits (sym c.machine.view_is) c.requires.fits in
    record {
      quiet =
          let P : Holding → Type 0 = λ h. Quiet h (search_header_work c.args.op c.args.query.now) (held_by c.machine.inside.base (tables_with c.machine.inside.index c.machine.inside.slots.watches) c.search.new.filter c.machine.inside.seat.saved.items) c.filter_line.result.items in
          subst P c.machine.view_is
          (quiet_heads c.machine.inside.base (tables_with c.machine.inside.index c.machine.inside.slots.watches) c.machine.inside.seat.filter c.search.new.filter c.machine.inside.seat.saved.items c.args.op c.args.query.now c.filter_line.result.items c.search.ensures.found c.filter_line.ensures.line fits);
    }

use Rattle.std.proofs.Common.{refl}
use Rattle.search_commands.proofs.positions.search_position.Goals as goal
use Rattle.search_commands.specs.Searching.{search_position_text, search_position_work}
use Rattle.shell_state.proofs.Served.{search_cuts}

pub returns-in-Err-clause-serves : goal.returns-in-Err-clause-serves
returns-in-Err-clause-serves g c = λ s st.
    search_cuts c.in-Err.halt s (search_position_work c.args.op c.args.query.now) (search_position_text s c.args.op c.args.query.now) (g.K.Sink.taken c.args.out.now) refl refl (c.in-Err.ensures.devices s st)

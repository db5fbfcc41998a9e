use Rattle.std.proofs.Common.{◌∙◌}
use Rattle.search_commands.proofs.DemoLaws.{line_cuts, line_shows}
use Rattle.search_commands.proofs.demoing.show.Goals as goal
use Rattle.search_commands.specs.Demo.{demo_line}

pub returns-in-Ok-clause-shows : goal.returns-in-Ok-clause-shows
returns-in-Ok-clause-shows g c = λ s st.
    line_shows c.show_start.new.machine (g.F.Files.seen c.show_start.new.files) s (demo_line c.args.games c.args.plies) c.as_slice.result.now _ _ _ c.show_start.result (c.as_slice.ensures.value ∙ c.in_ok-line.ensures.line) c.in-Ok.ensures.written
    (c.show_start.ensures.shows s st)

pub returns-clause-shows : goal.returns-clause-shows
returns-clause-shows g c = λ s st.
    line_cuts c.args.machine.now (g.F.Files.seen c.args.files.now) s (demo_line c.args.games c.args.plies) c.as_slice.result.now c.in-Err.halt _ _ (c.as_slice.ensures.value ∙ c.in_ok-line.ensures.line) c.in-Err.ensures.halted c.in-Err.ensures.output

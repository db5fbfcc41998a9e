use Rattle.command_runs.specs.Rendered.{opening}
use Rattle.command_runs.proofs.tagged_writing.write_tagged.Given as goal

-- The text begins where the call does.
abbrev pub ghosts-write_in : goal.ghosts-write_in
ghosts-write_in g a = record { opening = opening a.way.tag.now (g.K.Sink.taken a.way.out.now) (g.K.Sink.faults a.way.out.now) a.way.out.ghost_name a.way.page.ghost_name }

use Rattle.command_runs.specs.Rendered.{opening}
use Rattle.desk_commands.proofs.sitting.serve_tagged.Given as goal

-- The text begins where the call does.
abbrev pub ghosts-serve_behind : goal.ghosts-serve_behind
ghosts-serve_behind g a = record { opening = opening a.way.tag.now (g.K.Sink.taken a.way.out.now) (g.K.Sink.faults a.way.out.now) a.way.out.ghost_name a.way.page.ghost_name }

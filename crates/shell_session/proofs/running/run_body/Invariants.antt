use Rattle.script_lines.specs.Standing.{start_at}
use Rattle.shell_session.proofs.running.run_body.Given as goal

-- The body begins where its place stands.
abbrev pub ghosts-serve_in : goal.ghosts-serve_in
ghosts-serve_in g a = record {
  start = start_at a.place.now.word.items a.place.now.reader (g.S.Source.left a.input.now) (g.S.Source.budget a.input.now) (g.S.Source.faults a.input.now);
}

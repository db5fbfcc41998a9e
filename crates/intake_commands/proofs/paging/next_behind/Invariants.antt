use Rattle.intake_commands.specs.Paging.{start_at}
use Rattle.intake_commands.proofs.paging.next_behind.Given as goal

-- The reading begins where the call does.
abbrev pub ghosts-next_in : goal.ghosts-next_in
ghosts-next_in g a = record { start = start_at (g.K.Sink.taken a.out.now) a.page.now.items (g.B.Source.origin a.body.now) (g.B.Source.faults a.body.now) (g.K.Sink.faults a.out.now) }

use Rattle.demo_games.proofs.Drawing.{Drawing}
use Rattle.demo_games.proofs.generator.Generator.line.Given as goal

-- What is left of the line from here leads to all of it.
abbrev pub invariant-loop-ply : goal.invariant-loop-ply
invariant-loop-ply l = Drawing l._ply l.self l.position l.line.items l.fn.self

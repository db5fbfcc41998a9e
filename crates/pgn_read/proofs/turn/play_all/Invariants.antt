use Rattle.std.proofs.Common.{drop}
use Rattle.pgn_read.proofs.TurnLaws.{Plays}
use Rattle.pgn_read.proofs.turn.play_all.Given as goal

abbrev pub invariant-loop-m : goal.invariant-loop-m
invariant-loop-m l = Plays l.fn.position l.moves (drop l.m-index l.moves) l.position

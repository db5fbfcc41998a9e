-- No pawn on the files so far, on the first and the last rank.
use Rattle.chess_laws.proofs.Pawns.{Clear}
use Rattle.chess_laws.proofs.rules.has_pawns_inside.Given as goal

abbrev pub invariant-loop-file : goal.invariant-loop-file
invariant-loop-file l = Clear l.board l.file

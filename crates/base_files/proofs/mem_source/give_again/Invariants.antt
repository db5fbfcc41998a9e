use Rattle.std.proofs.Common.{◌<◌, length}
use Rattle.base_files.proofs.mem_source.give_again.Given as goal

-- The next byte is within the piece.
abbrev pub invariant-loop-byte : goal.invariant-loop-byte
invariant-loop-byte l = l.next < length l.piece

use Rattle.std.proofs.Common.{◌≡◌, drop, fold}
use Rattle.pgn_read.specs.Place.{next_place}
use Rattle.pgn_read.proofs.place.Place.behind.Given as goal

-- What is left leads to the same place.
abbrev pub invariant-loop-byte : goal.invariant-loop-byte
invariant-loop-byte l = fold next_place l.place (drop l.byte-index l.bytes) ≡ fold next_place l.fn.self l.bytes

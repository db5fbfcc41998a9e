use Rattle.std.proofs.Common.{◌≡◌, ◌++◌, drop}
use Rattle.game_codec.proofs.moves.Body.put_move.Given as goal

-- What is left gives the same as all.
abbrev pub invariant-loop-byte : goal.invariant-loop-byte
invariant-loop-byte l = record {
  moves : l.self.moves.items ++ drop l.byte-index l.bytes ≡ l.initial.self.moves.items ++ l.bytes;
  texts : l.self.texts ≡ l.initial.self.texts;
}

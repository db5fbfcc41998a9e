use Rattle.std.proofs.Common.{◌≡◌, ◌++◌, drop}
use Rattle.game_codec.specs.Writing.{nags_text}
use Rattle.game_codec.proofs.moves.Body.put_nags.Given as goal

-- What is left gives the same as all.
abbrev pub invariant-loop-nag : goal.invariant-loop-nag
invariant-loop-nag l = record {
  moves : l.self.moves.items ++ nags_text (drop l.nag-index l.nags) ≡ l.initial.self.moves.items ++ nags_text l.nags;
  texts : l.self.texts ≡ l.initial.self.texts;
}

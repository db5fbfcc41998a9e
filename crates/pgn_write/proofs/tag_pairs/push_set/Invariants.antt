use Rattle.std.proofs.Common.{◌≡◌, ◌+◌, ◌≤◌, ◌++◌, length, drop}
use Rattle.pgn_write.specs.TagPairs.{letters_set}
use Rattle.pgn_write.proofs.tag_pairs.push_set.Given as goal

-- What is left gives the same as all.
abbrev pub invariant-loop-letter : goal.invariant-loop-letter
invariant-loop-letter l = record {
  short : length l.into.items ≤ length l.initial.into.items + l.letter-index;
  left : l.into.items ++ letters_set (drop l.letter-index l.letters) l.left ≡ l.initial.into.items ++ letters_set l.letters l.marks;
}

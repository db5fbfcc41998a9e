use Rattle.std.proofs.Common.{◌≡◌, ◌++◌, drop, flat_map}
use Rattle.pgn_write.specs.TagPairs.{tag_text}
use Rattle.pgn_write.proofs.tag_pairs.put_others.Given as goal

-- What is left gives the same as all.
abbrev pub invariant-loop-tag : goal.invariant-loop-tag
invariant-loop-tag l = l.out.items ++ flat_map tag_text (drop l.tag-index l.tags) ≡ l.initial.out.items ++ flat_map tag_text l.tags

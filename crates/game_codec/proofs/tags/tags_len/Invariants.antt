use Rattle.std.proofs.Common.{List, length}
use Rattle.game_tree.specs.declared.head.Tag.{Tag}
use Rattle.game_codec.proofs.TagsSoFar.{ReadSoFar}
use Rattle.game_codec.proofs.tags.tags_len.Given as goal

abbrev pub invariant-loop-used : goal.invariant-loop-used
invariant-loop-used l = (free : List Tag) × ReadSoFar l.bytes l.rest free

abbrev pub decreases-loop-used : goal.decreases-loop-used
decreases-loop-used l = length l.rest

use Rattle.std.proofs.Common.{length}
use Rattle.game_codec.proofs.TagsSoFar.{ReadSoFar}
use Rattle.game_codec.proofs.tags.read_tags.Given as goal

abbrev pub invariant-loop-tags : goal.invariant-loop-tags
invariant-loop-tags l = ReadSoFar l.bytes l.rest l.tags.items

abbrev pub decreases-loop-tags : goal.decreases-loop-tags
decreases-loop-tags l = length l.rest

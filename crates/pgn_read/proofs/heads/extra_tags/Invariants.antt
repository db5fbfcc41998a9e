use Rattle.std.proofs.Common.{◌≡◌, ◌++◌}
use Rattle.std.specs.Vec.Iter.{into_iter_items}
use Rattle.game_tree.specs.TagName.{free_of}
use Rattle.pgn_read.proofs.heads.extra_tags.Given as goal

-- The free tags so far and those of the tags that are left are all.
abbrev pub invariant-loop-tag : goal.invariant-loop-tag
invariant-loop-tag l = l.free.items ++ free_of (into_iter_items l.tag-iterator) ≡ free_of l.fn.tags.items

use Rattle.std.proofs.Common.{drop}
use Rattle.std.specs.List.{position_from}
use Rattle.game_tree.specs.TagList.{is_named}
use Rattle.game_tree.proofs.TagNameLemmas.{IsNext}
use Rattle.game_tree.proofs.tags.place_of.Given as goal

abbrev pub invariant-loop-tag : goal.invariant-loop-tag
invariant-loop-tag l = IsNext (position_from (is_named l.name)) l.list (drop l.tag-index l.list) l.tag-index l.place

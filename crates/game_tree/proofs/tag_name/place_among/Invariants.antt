use Rattle.std.proofs.Common.{drop}
use Rattle.std.specs.List.{position_from}
use Rattle.std.specs.Str.{bytes_eq}
use Rattle.game_tree.proofs.TagNameLemmas.{IsNext}
use Rattle.game_tree.proofs.tag_name.place_among.Given as goal

abbrev pub invariant-loop-other : goal.invariant-loop-other
invariant-loop-other l =
    IsNext (position_from (λ other. bytes_eq other.now l.name)) l.names (drop l.other-index l.names) l.other-index l.place

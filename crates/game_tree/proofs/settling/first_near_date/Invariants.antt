use Rattle.std.proofs.Common.{◌≡◌, drop}
use Rattle.game_tree.specs.Settle.{first_near_date}
use Rattle.game_tree.proofs.settling.first_near_date.Given as goal

abbrev pub invariant-loop-tag : goal.invariant-loop-tag
invariant-loop-tag l = first_near_date l.game (drop l.tag-index l.tags) ≡ first_near_date l.game l.tags

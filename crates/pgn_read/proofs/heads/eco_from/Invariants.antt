use Rattle.std.proofs.Common.{◌≡◌, drop}
use Rattle.std.specs.Prelude.{None, codes, if◌then◌else◌}
use Rattle.std.specs.Option.{unwrap_or}
use Rattle.game_tree.specs.Eco.{eco_read}
use Rattle.game_tree.specs.TagList.{is_named}
use Rattle.pgn_read.specs.Heads.{first_told}
use Rattle.pgn_read.proofs.heads.eco_from.Given as goal

-- The tags that are left tell it.
abbrev pub invariant-loop-tag : goal.invariant-loop-tag
invariant-loop-tag l = unwrap_or (first_told (λ tag. if is_named (codes "ECO") tag then eco_read tag.value else None) (drop l.tag-index l.tags)) 0 ≡ unwrap_or (first_told (λ tag. if is_named (codes "ECO") tag then eco_read tag.value else None) l.tags) 0

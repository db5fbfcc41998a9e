use Rattle.std.proofs.Common.{◌≡◌, take}
use Rattle.std.specs.Prelude.{count_by}
use Rattle.text_commands.proofs.showing.deleted_in.Given as goal

-- The deleted ones among the games so far.
abbrev pub invariant-loop-i : goal.invariant-loop-i
invariant-loop-i g l = record { count : l.count ≡ count_by (λ head. head.deleted) (take l.i (g.G.Games.heads l.games)) }

use Rattle.std.proofs.Common.{rules, arith, ◌∙◌}
use Rattle.game_filter.proofs.Renumberings.{moved_goes, moved_set, moved_all}
use Rattle.game_filter.proofs.plies.move_to_front.Goals.{then-is_some, else-is_some}
use Rattle.game_filter.proofs.plies.move_to_front.Goals as goal

pub loop-i-preserved : goal.loop-i-preserved
loop-i-preserved c = elim c.if-is_some.branch [
  | then-is_some w ↦
      moved_set c.args.to.now c.args.entries.now c.loop-i.entries c.if-is_some.entries c.loop-i.i c.loop-i.kept c.if-is_some.kept w.get-ply.result c.loop-i.invariant (search rules) c.requires.same_games (search rules) w.get-ply.ensures.entry (w.entries-is ∙ w.set.ensures.changed) w.kept-is
  | else-is_some w ↦
      moved_goes c.args.to.now c.args.entries.now c.loop-i.entries c.if-is_some.entries c.loop-i.i c.loop-i.kept c.if-is_some.kept c.loop-i.invariant (search rules) c.requires.same_games (search rules) w.entries-is w.kept-is
]

pub returns-clause-moved : goal.returns-clause-moved
returns-clause-moved c =
    moved_all c.args.to.now c.args.entries.now c.loop-i.entries c.loop-i.i c.loop-i.kept c.loop-i.invariant (omega (arith, c.loop-i-test.false, c.loop-i.invariant.len, c.loop-i.auto)) c.requires.same_games

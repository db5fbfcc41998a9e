use Rattle.std.proofs.Common.{rules, arith}
use Rattle.game_filter.proofs.Renumberings.{moved_goes, moved_stays, moved_all}
use Rattle.game_filter.proofs.renumbering.move_to_front.Goals.{then-is_some, else-is_some}
use Rattle.game_filter.proofs.renumbering.move_to_front.Goals as goal

pub loop-i-preserved : goal.loop-i-preserved
loop-i-preserved g c = elim c.if-is_some.branch [
  | then-is_some w ↦
      moved_stays c.args.to.now c.args.list.now c.loop-i.list c.if-is_some.list c.loop-i.i c.loop-i.kept c.if-is_some.kept c.loop-i.invariant (search rules) c.requires.same_games (search rules) (search rules) w.kept-is
  | else-is_some w ↦
      moved_goes c.args.to.now c.args.list.now c.loop-i.list c.if-is_some.list c.loop-i.i c.loop-i.kept c.if-is_some.kept c.loop-i.invariant (search rules) c.requires.same_games (search rules) w.list-is w.kept-is
]

pub returns-clause-moved : goal.returns-clause-moved
returns-clause-moved g c =
    moved_all c.args.to.now c.args.list.now c.loop-i.list c.loop-i.i c.loop-i.kept c.loop-i.invariant (omega (arith, c.loop-i-test.false, c.loop-i.invariant.len, c.loop-i.auto)) c.requires.same_games

use Rattle.std.proofs.Common.{◌∙◌}
use Rattle.pgn_read.proofs.TurnLaws.{pushed_legal, pushed_now}
use Rattle.pgn_read.proofs.turn.Turn.advance.Goals as goal

pub invariant_of-self-2 : goal.invariant_of-self-2
invariant_of-self-2 c = (
  rw c.keep.ensures.kept
      (pushed_legal c.make_room.new.earlier c.self.inside.now_at c.make_room.new.since.items c.in_ok-m.m c.make_room.ensures.legal c.make_room.ensures.come c.in_ok-m.ensures.legal),
  rw c.keep.ensures.kept
      (c.in_ok-m.ensures.played ∙ pushed_now c.make_room.new.earlier c.self.inside.now_at c.make_room.new.since.items c.in_ok-m.m c.make_room.ensures.come),
)

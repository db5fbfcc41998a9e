use Rattle.chess_text.proofs.StartLaws.{no_landing, not_so, one_more, too_far}
use Rattle.chess_text.proofs.san_playing.with_start.Goals as goal

pub returns-then-not-stands_so : goal.returns-then-not-stands_so
returns-then-not-stands_so c =
    record { with = not_so c.args.p.now c.args.g.now c.args.from c.args.starts c.stands_so.result c.stands_so.ensures.answers c.if-not-stands_so.true }

pub returns-then-not-may_reach : goal.returns-then-not-may_reach
returns-then-not-may_reach c =
    record { with = too_far c.args.p.now c.args.g.now c.args.from c.args.starts c.may_reach.result c.may_reach.ensures c.if-not-may_reach.true }

pub returns-then-not-may_land : goal.returns-then-not-may_land
returns-then-not-may_land c =
    record { with = no_landing c.args.p.now c.args.g.now c.args.from c.args.starts c.may_land.result c.may_land.ensures c.if-not-may_land.true }

pub returns : goal.returns
returns c =
    record { with = one_more c.args.p.now c.args.g.now c.args.from c.args.starts c.and_one.result (c.stands_so.ensures.answers.0 c.if-not-stands_so.false) c.and_one.ensures }

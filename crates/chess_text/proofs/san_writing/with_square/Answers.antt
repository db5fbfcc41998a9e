use Rattle.std.proofs.Common.{◌∙◌, ap, ◌||◌, Bool}
use Rattle.chess_text.proofs.RivalLaws.{man-passed, man-taken}
use Rattle.chess_text.proofs.san_writing.with_square.Goals as goal

pub returns-then-not-is_rival : goal.returns-then-not-is_rival
returns-then-not-is_rival c = record {
  tried = λ left after drops before.
      man-passed c.args.p.now c.args.kind c.args.m.now c.args.s left after c.args.seen c.is_rival.result c.is_rival.ensures.rival c.if-not-is_rival.true drops before;
}

pub returns : goal.returns
returns c = record {
  tried = λ left after drops before.
      man-taken c.args.p.now c.args.kind c.args.m.now c.args.s left after c.args.seen c.is_rival.result c.either.result c.either-2.result
      c.is_rival.ensures.rival c.if-not-is_rival.false
      (c.either.ensures ∙ ap (λ (b : Bool). c.args.seen.on_file || b) c.is_same_file.ensures)
      (c.either-2.ensures ∙ ap (λ (b : Bool). c.args.seen.on_rank || b) c.is_same_rank.ensures)
      drops before;
}

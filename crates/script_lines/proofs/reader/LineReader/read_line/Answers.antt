use Rattle.std.proofs.Common.{arith, ap, length, [], ◌∙◌}
use Rattle.script_lines.proofs.ReadingLaws.{never_open, took_filled, took_rest, took_twice}
use Rattle.script_lines.proofs.reader.LineReader.read_line.Goals as goal

pub returns-in-Ok-Ended-clause-line : goal.returns-in-Ok-Ended-clause-line
returns-in-Ok-Ended-clause-line g c = λ is.
    took_rest [] _ _ _ _ _ _ _
    (took_filled [] _ _ _ _ _ _ c.parts.invariant.part c.refill.ensures.kept c.refill.ensures.tagged c.refill.ensures.line c.refill.ensures.used)
    (c.take_part.ensures.line (cc (c.in-Ok-Ended.is, c.in-Ok-Ended.field-0-is)) (g.S.Source.left c.refill.new.input))

pub parts-preserved : goal.parts-preserved
parts-preserved g c = record {
  part =
      took_twice [] _ _ _ _ _ _
      (took_filled [] _ _ _ _ _ _ c.parts.invariant.part c.refill.ensures.kept c.refill.ensures.tagged c.refill.ensures.line c.refill.ensures.used)
      (c.take_part.ensures.open (cc (c.in-Ok-Open.is, c.in-Ok-Open.field-0-is)) (g.S.Source.left c.refill.new.input));
  unasked = never_open c.args.self.now.unread c.parts.self.unread c.args.input.now c.parts.input c.refill.new.input c.parts.self c.refill.new.self _ c.parts.invariant.unasked c.refill.ensures.unasked
      (c.take_part.ensures.none (cc (c.in-Ok-Open.is, c.in-Ok-Open.field-0-is)));
  sum = omega (arith, c.parts.invariant.sum, c.refill.ensures.sum, c.refill.ensures.used, c.take_part.ensures.sum);
  falls = omega (arith, c.parts.invariant.falls, c.refill.ensures.falls);
  faults = omega (arith, c.parts.invariant.faults, c.refill.ensures.counts);
  same = c.refill.ensures.same ∙ c.parts.invariant.same;
}

pub returns-in-Ok-Limit-clause-stuck : goal.returns-in-Ok-Limit-clause-stuck
returns-in-Ok-Limit-clause-stuck g c = (
  took_twice [] _ _ _ _ _ _
      (took_filled [] _ _ _ _ _ _ c.parts.invariant.part c.refill.ensures.kept c.refill.ensures.tagged c.refill.ensures.line c.refill.ensures.used)
      (c.take_part.ensures.limit (cc (c.in-Ok-Limit.is, c.in-Ok-Limit.field-0-is)) (g.S.Source.left c.refill.new.input)),
  c.take_part.ensures.full (cc (c.in-Ok-Limit.is, c.in-Ok-Limit.field-0-is)),
)

pub parts-smaller : goal.parts-smaller
parts-smaller g c =
    let none = ap length (c.take_part.ensures.all (cc (c.in-Ok-Open.is, c.in-Ok-Open.field-0-is))) in
    let some = c.refill.ensures.some (cc (c.in-Ok.is, c.if-not-some.false)) in
    omega (arith, none, some, c.refill.ensures.sum)

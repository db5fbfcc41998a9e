use Rattle.std.proofs.Common.{arith}
use Rattle.book_pages.proofs.ReachLemmas.{above, fewer_left}
use Rattle.book_pages.proofs.finding.raised.Goals as goal

pub loop-enough-init : goal.loop-enough-init
loop-enough-init c =
    let many = c.reached_by.ensures.count in
    let none = c.above_all-enough.ensures.none in
    record {
      asked = omega (arith, c.from-fewer.ensures);
      less = above c.args.met.now c.from-fewer.result c.above_all-enough.result (omega (arith, many, c.if-reached_by-le-MOST_PAGES.false)) none;
      many = omega (arith, many, c.if-reached_by-le-MOST_PAGES.false);
      few = omega (arith, none);
    }

pub returns-clause-needed : goal.returns-clause-needed
returns-clause-needed c = λ fewer from less.
    let more = fewer_left c.args.met.now fewer c.loop-enough.fewer (omega (arith, less, c.loop-enough-test.false, c.loop-enough.invariant.less)) in
    omega (arith, more, c.loop-enough.invariant.many)

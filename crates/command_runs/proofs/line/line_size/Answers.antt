use Rattle.std.proofs.Common.{arith}
use Rattle.command_runs.proofs.Lines.{size_all, size_end, size_more}
use Rattle.command_runs.proofs.line.line_size.Goals as goal

pub returns-then-piece-size-eq10 : goal.returns-then-piece-size-eq10
returns-then-piece-size-eq10 c =
    let e = size_end c.args.piece.now c.loop-size.size 0 c.loop-size-test.true c.if-piece-size-eq10.true in
    record { size = omega (arith, c.loop-size.invariant.rest, e); fits = omega (arith, c.loop-size-test.true); some = λ h. omega arith }

pub loop-size-preserved : goal.loop-size-preserved
loop-size-preserved c =
    let e = size_more c.args.piece.now c.loop-size.size 0 c.loop-size-test.true c.if-piece-size-eq10.false in
    record { within = omega (arith, c.loop-size-test.true); rest = omega (arith, c.loop-size.invariant.rest, e) }

pub returns : goal.returns
returns c =
    let e = size_all c.args.piece.now c.loop-size.size (omega (arith, c.loop-size-test.false)) in
    record { size = omega (arith, c.loop-size.invariant.rest, e); fits = c.loop-size.invariant.within; some = λ h. omega (arith, c.loop-size-test.false, h) }

use Rattle.std.proofs.Common.{arith}
use Rattle.game_codec.proofs.WalkLaws.{within_opens, within_closes, within_ends, within_passes}
use Rattle.game_codec.proofs.passing.pass_by.Goals as goal

pub returns-then-byte-eq13-clause-within : goal.returns-then-byte-eq13-clause-within
returns-then-byte-eq13-clause-within c = λ later within.
    within_opens c.args.byte c.args.behind.now later c.args.depth c.requires.open (omega (arith, c.if-byte-eq13.true)) within

pub returns-then-byte-eq14-clause-within : goal.returns-then-byte-eq14-clause-within
returns-then-byte-eq14-clause-within c = λ later within.
    within_closes c.args.byte c.args.behind.now later c.args.depth c.requires.open (omega (arith, c.if-byte-eq14.true)) within

pub returns-then-byte-eq15-clause-fault : goal.returns-then-byte-eq15-clause-fault
returns-then-byte-eq15-clause-fault c = λ later within.
    within_ends c.args.byte c.args.behind.now later c.args.depth c.requires.open (omega (arith, c.if-byte-eq15.true)) within

pub returns-clause-within : goal.returns-clause-within
returns-clause-within c = λ later within.
    within_passes c.args.byte c.args.behind.now later c.args.depth c.requires.open (λ e. omega (arith, c.if-byte-eq11.false, e))
    (λ e. omega (arith, c.if-byte-eq13.false, e)) (λ e. omega (arith, c.if-byte-eq14.false, e)) within

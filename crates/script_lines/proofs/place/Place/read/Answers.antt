use Rattle.std.proofs.Common.{arith, ◌≤◌, ◌-◌, [], length, take, refl}
use Rattle.std.proofs.lemmas.List.{length-take}
use Rattle.script_lines.specs.Fronts.{within}
use Rattle.script_lines.specs.Script.{longest_script}
use Rattle.script_lines.proofs.PlaceLaws.{ended_left, given_left, looked, looked_free, looked_open, looked_stands, over_left}
use Rattle.script_lines.proofs.StandingLaws.{end_fits, standing_at, standing_ended, standing_given, standing_over, standing_stuck}
use Rattle.script_lines.proofs.place.Place.read.Goals as goal

pub returns-in-Ok-Body-clause-given : goal.returns-in-Ok-Body-clause-given
returns-in-Ok-Body-clause-given g c =
    let seen =
    looked c.args.self.now c.look.new.self (g.S.Source.left c.args.input.now) (g.S.Source.left c.look.new.input) c.is_over.result c.is_some.result c.look.ensures.rest
    c.look.ensures.kept c.look.ensures.tagged c.look.ensures.used c.is_over.ensures.over c.if-is_over.false c.is_some.ensures c.if-is_some.false in
    let says = rw c.in-Ok-Body.field-0-is at c.in-Ok-Body.ensures.says in
    given_left c.args.self.now c.look.new.self c.give.new.self _ _ c.give.result (take c.give.result c.give.new.into) seen c.give.ensures.rest c.give.ensures.some
    c.give.ensures.there c.give.ensures.ends says.1 c.give.ensures.given c.give.ensures.unread

pub returns-in-Ok-Body-clause-stands : goal.returns-in-Ok-Body-clause-stands
returns-in-Ok-Body-clause-stands g c = λ s st.
    let seen =
    looked c.args.self.now c.look.new.self (g.S.Source.left c.args.input.now) (g.S.Source.left c.look.new.input) c.is_over.result c.is_some.result c.look.ensures.rest
    c.look.ensures.kept c.look.ensures.tagged c.look.ensures.used c.is_over.ensures.over c.if-is_over.false c.is_some.ensures c.if-is_some.false in
    let says = rw c.in-Ok-Body.field-0-is at c.in-Ok-Body.ensures.says in
    standing_at s _ c.give.new.self _ _ _ c.give.ensures.rest
    (standing_given s c.look.new.self c.give.new.self.reader c.give.new.self.at _ _ _ c.give.result c.give.ensures.there c.give.ensures.some c.give.ensures.tagged c.give.ensures.unread
    c.give.ensures.used c.give.ensures.ends (looked_open _ _ _ _ seen) (looked_free _ _ _ _ seen) says.1
    (looked_stands s _ _ _ _ _ _ _ _ seen c.look.ensures.sum c.look.ensures.falls c.look.ensures.counts st))

pub returns-in-Ok-Ends-clause-given : goal.returns-in-Ok-Ends-clause-given
returns-in-Ok-Ends-clause-given g c =
    let seen =
    looked c.args.self.now c.look.new.self (g.S.Source.left c.args.input.now) (g.S.Source.left c.look.new.input) c.is_over.result c.is_some.result c.look.ensures.rest
    c.look.ensures.kept c.look.ensures.tagged c.look.ensures.used c.is_over.ensures.over c.if-is_over.false c.is_some.ensures c.if-is_some.false in
    let says = rw c.in-Ok-Ends.field-0-is at c.in-Ok-Ends.ensures.says in
    ended_left c.args.self.now c.look.new.self c.pass_end.new.self _ _ c.in-Ok-Ends.size [] seen c.pass_end.ensures.rest says refl

pub returns-in-Ok-Ends-clause-stands : goal.returns-in-Ok-Ends-clause-stands
returns-in-Ok-Ends-clause-stands g c = λ s st.
    let seen =
    looked c.args.self.now c.look.new.self (g.S.Source.left c.args.input.now) (g.S.Source.left c.look.new.input) c.is_over.result c.is_some.result c.look.ensures.rest
    c.look.ensures.kept c.look.ensures.tagged c.look.ensures.used c.is_over.ensures.over c.if-is_over.false c.is_some.ensures c.if-is_some.false in
    let says = rw c.in-Ok-Ends.field-0-is at c.in-Ok-Ends.ensures.says in
    let inside : c.in-Ok-Ends.size ≤ length (within c.look.new.self.reader) = end_fits (within c.look.new.self.reader) c.in-Ok-Ends.size says.1.0 in
    let part = length-take (longest_script - c.look.new.self.reader.used) c.look.new.self.reader.unread in
    standing_at s _ c.pass_end.new.self _ _ _ c.pass_end.ensures.rest
    (standing_ended s c.look.new.self c.pass_end.new.self.reader _ _ _ c.in-Ok-Ends.size says (omega (arith, inside, part)) c.pass_end.ensures.tagged c.pass_end.ensures.unread c.pass_end.ensures.used
    (looked_open _ _ _ _ seen) (looked_free _ _ _ _ seen)
    (looked_stands s _ _ _ _ _ _ _ _ seen c.look.ensures.sum c.look.ensures.falls c.look.ensures.counts st))

pub returns-in-Ok-Open-clause-given : goal.returns-in-Ok-Open-clause-given
returns-in-Ok-Open-clause-given g c =
    let seen =
    looked c.args.self.now c.look.new.self (g.S.Source.left c.args.input.now) (g.S.Source.left c.look.new.input) c.is_over.result c.is_some.result c.look.ensures.rest
    c.look.ensures.kept c.look.ensures.tagged c.look.ensures.used c.is_over.ensures.over c.if-is_over.false c.is_some.ensures c.if-is_some.false in
    let says = rw c.in-Ok-Open.field-0-is at c.in-Ok-Open.ensures.says in
    over_left c.args.self.now c.look.new.self _ _ [] seen says.1.0 says.1.1 refl

pub returns-in-Ok-Open-clause-stands : goal.returns-in-Ok-Open-clause-stands
returns-in-Ok-Open-clause-stands g c = λ s st.
    let seen =
    looked c.args.self.now c.look.new.self (g.S.Source.left c.args.input.now) (g.S.Source.left c.look.new.input) c.is_over.result c.is_some.result c.look.ensures.rest
    c.look.ensures.kept c.look.ensures.tagged c.look.ensures.used c.is_over.ensures.over c.if-is_over.false c.is_some.ensures c.if-is_some.false in
    let says = rw c.in-Ok-Open.field-0-is at c.in-Ok-Open.ensures.says in
    standing_over s c.look.new.self _ _ _ says.0 says.1.0 (c.look.ensures.fits (cc (c.in-Ok-Open.is, c.in-Ok-Open.field-0-is))) (looked_open _ _ _ _ seen) (looked_free _ _ _ _ seen)
    (looked_stands s _ _ _ _ _ _ _ _ seen c.look.ensures.sum c.look.ensures.falls c.look.ensures.counts st)

pub returns-in-Err-clause-stands : goal.returns-in-Err-clause-stands
returns-in-Err-clause-stands g c = λ s st.
    let seen =
    looked c.args.self.now c.look.new.self (g.S.Source.left c.args.input.now) (g.S.Source.left c.look.new.input) c.is_over.result c.is_some.result c.look.ensures.rest
    c.look.ensures.kept c.look.ensures.tagged c.look.ensures.used c.is_over.ensures.over c.if-is_over.false c.is_some.ensures c.if-is_some.false in
    standing_stuck s c.look.new.self _ _ (g.S.Source.faults c.args.input.now) (g.S.Source.faults c.look.new.input) c.fault-in-Err.new.self c.in-Err.error c.in-Err.ensures.stuck
    c.in-Err.ensures.cause c.look.ensures.counts c.look.ensures.limit (looked_open _ _ _ _ seen)
    (looked_stands s _ _ _ _ _ _ _ _ seen c.look.ensures.sum c.look.ensures.falls (omega arith) st)
    (looked_stands s _ _ _ _ _ _ _ _ seen c.look.ensures.sum c.look.ensures.falls c.look.ensures.counts st)

use Rattle.std.proofs.Common.{None, arith, refl}
use Rattle.search_commands.proofs.DemoLaws.{carry_adding, demo_asks, demo_cuts, demo_serves, refusal_serves}
use Rattle.search_commands.proofs.demoing.demo.Goals as goal
use Rattle.search_commands.specs.Demo.{adding}
use Rattle.shell_state.proofs.CarryLaws.{carry_same}

pub returns-in-Ok-Plies-clause-serves : goal.returns-in-Ok-Plies-clause-serves
returns-in-Ok-Plies-clause-serves g c = λ s st.
    let adds = rw c.in-Ok-Plies.field-0-is at c.in-Ok-Plies.ensures.adds in
    let all = adds s st in
    demo_serves c.show.new.machine (g.F.Files.seen c.show.new.files) s c.args.seed c.args.games c.in-Ok-Plies.sum _ _ c.show.result all.1.1 all.1.0 (c.show.ensures.shows (adding s c.args.seed c.args.games).state all.0)

pub returns-in-Ok-Plies-clause-asks : goal.returns-in-Ok-Plies-clause-asks
returns-in-Ok-Plies-clause-asks g c = λ s st.
    let adds = rw c.in-Ok-Plies.field-0-is at c.in-Ok-Plies.ensures.adds in
    let all = adds s st in
    demo_asks s c.args.seed c.args.games _ _ all.1.1 (omega (arith, c.show.ensures.asks (adding s c.args.seed c.args.games).state all.0, c.add_games.ensures.none_asked))

pub returns-in-Ok-Plies-clause-carries : goal.returns-in-Ok-Plies-clause-carries
returns-in-Ok-Plies-clause-carries g c = λ s st.
    let adds = rw c.in-Ok-Plies.field-0-is at c.in-Ok-Plies.ensures.adds in
    let all = adds s st in
    carry_adding (g.F.Files.seen c.show.new.files) s c.args.seed c.args.games
    (carry_same c.add_games.new.machine (g.F.Files.seen c.add_games.new.files) (g.F.Files.seen c.show.new.files) (adding s c.args.seed c.args.games).state None c.show.ensures.unchanged all.0)

pub returns-in-Ok-Refused-clause-serves : goal.returns-in-Ok-Refused-clause-serves
returns-in-Ok-Refused-clause-serves g c = λ s st.
    let adds = rw c.in-Ok-Refused.field-0-is at c.in-Ok-Refused.ensures.adds in
    refusal_serves c.add_games.new.machine (g.F.Files.seen c.add_games.new.files) s c.args.seed c.args.games c.in-Ok-Refused.why _ _ c.write_refusal.result (adds s st)
    c.write_refusal.ensures.written c.write_refusal.ensures.halted c.write_refusal.ensures.output

pub returns-in-Ok-Refused-clause-carries : goal.returns-in-Ok-Refused-clause-carries
returns-in-Ok-Refused-clause-carries g c = λ s st. c.add_games.ensures.carries s st

pub returns-in-Err-clause-serves : goal.returns-in-Err-clause-serves
returns-in-Err-clause-serves g c = λ s st.
    demo_cuts c.in-Err.halt s c.args.seed c.args.games (g.K.Sink.taken c.args.out.now) c.in-Err.ensures.devices

pub returns-in-Err-clause-carries : goal.returns-in-Err-clause-carries
returns-in-Err-clause-carries g c = λ s st. c.add_games.ensures.carries s st

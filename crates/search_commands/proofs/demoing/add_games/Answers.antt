use Rattle.std.proofs.Common.{None, ◌∙◌, refl, arith}
use Rattle.search_commands.proofs.DemoLaws.{adding_ends, adding_first, adding_on, carry_adding, refused_on}
use Rattle.search_commands.proofs.demoing.add_games.Goals as goal
use Rattle.search_commands.specs.Demo.{adding}
use Rattle.shell_state.proofs.CarryLaws.{carry_of}

pub loop-number-init : goal.loop-number-init
loop-number-init g c = record {
  adds = λ s st. adding_first c.args.machine.now (g.F.Files.seen c.args.files.now) s c.args.seed c.new-generator.result c.new-generator.ensures.seeded st;
  short = omega arith;
  sound = c.requires.sound;
  choices = refl;
  asked = refl;
  counts = record { files = omega arith; input = omega arith; output = omega arith };
}

pub loop-number-preserved : goal.loop-number-preserved
loop-number-preserved g c =
    let adds = rw c.in-Ok-Plies.field-0-is at c.in-Ok-Plies.ensures.adds in
    let short = rw c.in-Ok-Plies.field-0-is at c.in-Ok-Plies.ensures.short in
    record {
      adds = λ s st. adding_on c.add_next.new.machine (g.F.Files.seen c.add_next.new.files) c.add_next.new.generator _ s c.args.seed c.loop-number.number
          (adds c.loop-number.sum (adding s c.args.seed c.loop-number.number) (c.loop-number.invariant.adds s st));
      short = omega (arith, short, c.loop-number.invariant.short);
      sound = c.in-Ok-Plies.ensures.sound;
      choices = c.add_next.ensures.choices ∙ c.loop-number.invariant.choices;
      asked = c.add_next.ensures.none_asked ∙ c.loop-number.invariant.asked;
      counts = omega (arith, c.add_next.ensures.causes.none_fell, c.loop-number.invariant.counts);
    }

pub returns-in-Ok-Refused-clause-adds : goal.returns-in-Ok-Refused-clause-adds
returns-in-Ok-Refused-clause-adds g c = λ s st.
    let adds = rw c.in-Ok-Refused.field-0-is at c.in-Ok-Refused.ensures.adds in
    adding_ends c.add_next.new.machine (g.F.Files.seen c.add_next.new.files) s c.args.seed c.loop-number.number c.args.games c.in-Ok-Refused.why c.loop-number-test.true
    (refused_on c.add_next.new.machine (g.F.Files.seen c.add_next.new.files) c.in-Ok-Refused.why s c.args.seed c.loop-number.number (adds c.loop-number.sum (adding s c.args.seed c.loop-number.number) (c.loop-number.invariant.adds s st)))

pub returns-in-Ok-Refused-clause-carries : goal.returns-in-Ok-Refused-clause-carries
returns-in-Ok-Refused-clause-carries g c = λ s st.
    carry_adding (g.F.Files.seen c.add_next.new.files) s c.args.seed c.loop-number.number
    (c.add_next.ensures.carries (adding s c.args.seed c.loop-number.number).state (c.loop-number.invariant.adds s st).stands)

pub returns-in-Err-clause-carries : goal.returns-in-Err-clause-carries
returns-in-Err-clause-carries g c = λ s st.
    carry_adding (g.F.Files.seen c.add_next.new.files) s c.args.seed c.loop-number.number
    (c.add_next.ensures.carries (adding s c.args.seed c.loop-number.number).state (c.loop-number.invariant.adds s st).stands)

pub returns-clause-carries : goal.returns-clause-carries
returns-clause-carries g c = λ s st.
    carry_adding (g.F.Files.seen c.loop-number.files) s c.args.seed c.loop-number.number
    (carry_of c.loop-number.machine (g.F.Files.seen c.loop-number.files) (adding s c.args.seed c.loop-number.number).state None (c.loop-number.invariant.adds s st).stands)

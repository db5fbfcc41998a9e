use Rattle.std.proofs.Common.{None, ◌≡◌, ◌-◌, ℕ, Result, Err, refl, sym, ap, ◌∙◌, subst, arith}
use Rattle.std.proofs.lemmas.Result.{err_from_is_err_and}
use Rattle.base_files.specs.declared.faults.Stop.TheVariants as stop
use Rattle.base_files.specs.Told.{adds}
use Rattle.command_runs.proofs.Joining.{halted_none}
use Rattle.command_runs.specs.Plain.{run}
use Rattle.pgn_read.specs.Items.{items_of}
use Rattle.pgn_read.specs.Readers.{Reader, told}
use Rattle.intake_commands.proofs.IntakeLaws.{flag_few, flag_number, took_last, took_none, took_on, took_short}
use Rattle.intake_commands.proofs.importing.take_in.Goals as goal
use Rattle.intake_commands.specs.Importing.{intake, none_taken}
use Rattle.intake_commands.specs.Intakes.{TakesIn, TookIn}
use Rattle.shell_state.proofs.CarryLaws.{carry_before, carry_later, carry_of}
use Rattle.shell_state.specs.declared.halt.Halt.{Halt}
use Rattle.shell_state.specs.declared.halt.Halt.TheVariants as halt

pub loop-taken-init : goal.loop-taken-init
loop-taken-init g c = record {
  took = λ s text st left.
      let T : Reader → Type 0 = λ r. TookIn c.args.machine.now (g.F.Files.seen c.args.files.now) s text (told r (g.B.Source.left c.args.body.now)) (adds (g.K.Sink.taken c.args.out.now) c.args.page.now.items) (adds (g.K.Sink.taken c.args.out.now) c.args.page.now.items) 0 0 in
      subst T (sym c.in_ok-reader.ensures.new) (took_none c.args.machine.now (g.F.Files.seen c.args.files.now) s text (g.B.Source.left c.args.body.now) (adds (g.K.Sink.taken c.args.out.now) c.args.page.now.items) left st);
  none_lost = λ front before. before;
  few = omega arith;
  free = ap (λ (r : Reader). r.stuck) c.in_ok-reader.ensures.new;
  sound = c.requires.sound;
  stays = λ s st. record { state = s; stands = st; carried = refl };
  choices = refl;
  asked = refl;
  same = refl;
  counts = record { files = omega arith; input = omega arith; output = omega arith };
}

pub loop-taken-preserved : goal.loop-taken-preserved
loop-taken-preserved g c =
    let i = c.loop-taken.invariant in
    let n = c.take_next.ensures in
    record {
      took = λ s text st left.
          took_on c.take_next.new.machine (g.F.Files.seen c.take_next.new.files) s text (told c.take_next.new.reader (g.B.Source.left c.take_next.new.body)) (adds (g.K.Sink.taken c.args.out.now) c.args.page.now.items) (adds (g.K.Sink.taken c.take_next.new.out) c.take_next.new.page.items)
          c.loop-taken.added c.loop-taken.taken c.from-added.result c.in-Ok-Some.field-0 c.in-Ok-Some.was_added c.in-Ok-Some.field-0-is i.few (c.from-added.ensures ∙ flag_number c.in-Ok-Some.was_added)
          (c.in-Ok-Some.ensures.took s text (adds (g.K.Sink.taken c.args.out.now) c.args.page.now.items) c.loop-taken.added (c.loop-taken.taken - c.loop-taken.added) (i.took s text st left) (omega (arith, i.few)));
      none_lost = λ front before. n.none_lost front (i.none_lost front before);
      few = flag_few c.in-Ok-Some.was_added c.loop-taken.added c.loop-taken.taken c.from-added.result i.few (c.from-added.ensures ∙ flag_number c.in-Ok-Some.was_added);
      free = c.in-Ok-Some.ensures.free;
      sound = c.in-Ok-Some.ensures.sound;
      stays = λ s st.
          let before = i.stays s st in
          let later = c.in-Ok-Some.ensures.stays before.state before.stands in
          record { state = later.state; stands = later.stands; carried = later.carried ∙ before.carried };
      choices = n.choices ∙ i.choices;
      asked = n.none_asked ∙ i.asked;
      same = n.same ∙ i.same;
      counts = record {
        files = omega (arith, n.causes.none_fell.files, i.counts.files);
        input = omega (arith, n.causes.none_fell.input, i.counts.input);
        output = omega (arith, n.causes.none_fell.output, i.counts.output);
      };
    }

pub returns-in-Ok-None-clause-takes : goal.returns-in-Ok-None-clause-takes
returns-in-Ok-None-clause-takes g c = λ s text st left.
    took_last c.take_next.new.machine (g.F.Files.seen c.take_next.new.files) s text (told c.take_next.new.reader (g.B.Source.left c.take_next.new.body)) (adds (g.K.Sink.taken c.args.out.now) c.args.page.now.items) (adds (g.K.Sink.taken c.take_next.new.out) c.take_next.new.page.items)
    c.loop-taken.added (c.loop-taken.taken - c.loop-taken.added) c.in-Ok-None.field-0 c.in-Ok-None.field-0-is
    (c.in-Ok-None.ensures.took s text (adds (g.K.Sink.taken c.args.out.now) c.args.page.now.items) c.loop-taken.added (c.loop-taken.taken - c.loop-taken.added) (c.loop-taken.invariant.took s text st left) (omega (arith, c.loop-taken.invariant.few)))

pub returns-in-Ok-None-clause-carries : goal.returns-in-Ok-None-clause-carries
returns-in-Ok-None-clause-carries g c = λ s st.
    let before = c.loop-taken.invariant.stays s st in
    carry_before (g.F.Files.seen c.take_next.new.files) s before.state None before.carried (c.take_next.ensures.carries before.state before.stands)

pub returns-in-Err-clause-takes : goal.returns-in-Err-clause-takes
returns-in-Err-clause-takes g c = λ s text st left.
    c.in-Err.ensures.took s text (adds (g.K.Sink.taken c.args.out.now) c.args.page.now.items) c.loop-taken.added (c.loop-taken.taken - c.loop-taken.added) (c.loop-taken.invariant.took s text st left) (omega (arith, c.loop-taken.invariant.few))

pub returns-in-Err-clause-carries : goal.returns-in-Err-clause-carries
returns-in-Err-clause-carries g c = λ s st.
    let before = c.loop-taken.invariant.stays s st in
    carry_before (g.F.Files.seen c.take_next.new.files) s before.state None before.carried (c.take_next.ensures.carries before.state before.stands)

pub returns-clause-takes : goal.returns-clause-takes
returns-clause-takes g c = λ s text st left. (
  took_short c.loop-taken.machine (g.F.Files.seen c.loop-taken.files) s text (told c.loop-taken.reader (g.B.Source.left c.loop-taken.body)) (adds (g.K.Sink.taken c.args.out.now) c.args.page.now.items) (adds (g.K.Sink.taken c.loop-taken.out) c.loop-taken.page.items)
      c.loop-taken.added (c.loop-taken.taken - c.loop-taken.added) (c.loop-taken.invariant.took s text st left),
  tt,
  tt,
)

pub returns-clause-carries : goal.returns-clause-carries
returns-clause-carries g c = λ s st.
    let before = c.loop-taken.invariant.stays s st in
    carry_later c.loop-taken.machine (g.F.Files.seen c.loop-taken.files) s before.state None before.carried before.stands

pub returns-in_err-reader-clause-takes : goal.returns-in_err-reader-clause-takes
returns-in_err-reader-clause-takes g c =
    let made = err_from_is_err_and c.from_residual.result c.from_residual.ensures.1 in
    let memory : c.from_residual.result ≡ Err (halt.Device stop.Memory) = made.1 ∙ ap (λ (e : Halt). Err e) made.2 in
    λ s text st left.
    let P : Result (ℕ × ℕ) Halt → Type 0 = λ r. TakesIn c.args.machine.now (g.F.Files.seen c.args.files.now) s (items_of text) (adds (g.K.Sink.taken c.args.out.now) c.args.page.now.items) (adds (g.K.Sink.taken c.args.out.now) c.args.page.now.items) r in
    subst P (sym memory) (halted_none (run intake (none_taken s) (items_of text)) (adds (g.K.Sink.taken c.args.out.now) c.args.page.now.items), tt, tt)

pub returns-in_err-reader-clause-carries : goal.returns-in_err-reader-clause-carries
returns-in_err-reader-clause-carries g c = λ s st. carry_of c.args.machine.now (g.F.Files.seen c.args.files.now) s None st

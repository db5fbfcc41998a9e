use Rattle.std.proofs.Common.{ℕ, List, true, Option, IfSome, arith, refl, sym, subst}
use Rattle.base_files.specs.declared.faults.Stop.TheVariants as stop
use Rattle.script_lines.specs.Bodies.{body_of}
use Rattle.script_lines.specs.Reading.{Reader}
use Rattle.script_lines.specs.Standing.{IsBegun}
use Rattle.shell_state.specs.declared.halt.Halt.TheVariants as halt
use Rattle.shell_session.specs.Running.{BodyDone, GoneOn, Halts}
use Rattle.session_status.specs.declared.status.Status.{Status}
use Rattle.shell_session.proofs.BodyLaws.{body_done, body_gone, body_halts, body_kept, body_short, drain_halts, in_body, short_word, standing_first, standing_from, text_left}
use Rattle.shell_session.specs.Around.{around, meanings}
use Rattle.shell_session.proofs.running.run_body.Goals as goal

pub returns-in_default-clause-halts : goal.returns-in_default-clause-halts
returns-in_default-clause-halts g c = λ d first most ahead stands told.
    body_short c.args.line.now c.args.word.now ahead c.args.desk.now (around (g.F.Files.seen c.args.files.now) first most (meanings (λ b. (goal.TreeView-dyn g (b.vtable, b.value)).rows b.value) (λ b. (goal.TreeView-dyn g (b.vtable, b.value)).told b.value) c.args.views.now)) d c.args.reader.used (g.S.Source.left c.args.input.now) (g.K.Sink.taken c.args.out.now) (g.F.Files.asked c.args.files.now) c.requires.word stands

pub returns-in_default-clause-kept : goal.returns-in_default-clause-kept
returns-in_default-clause-kept g c = record {
  sound = tt;
  unchanged = λ none. refl;
  choices = refl;
  counts = record { files = omega arith; input = omega arith; output = omega arith };
  ends = tt;
  why = tt;
  too_long = λ is. cc;
}

pub serve_in-requires-clause-begins : goal.serve_in-requires-clause-begins
serve_in-requires-clause-begins g c =
    let begun = subst (λ (w : List ℕ). IsBegun c.args.reader w c.in-Ok.place) c.as_bytes.ensures.bytes c.in-Ok.ensures.begins in
    standing_first c.args.reader c.args.word.now c.in-Ok.place (g.S.Source.left c.args.input.now) (g.S.Source.budget c.args.input.now) (g.S.Source.faults c.args.input.now) (short_word c.args.line.now c.args.word.now c.requires.order c.requires.word) begun

pub returns-in-Err-clause-halts : goal.returns-in-Err-clause-halts
returns-in-Err-clause-halts g c = λ d first most ahead stands told.
    let begun = subst (λ (w : List ℕ). IsBegun c.args.reader w c.in-Ok.place) c.as_bytes.ensures.bytes c.in-Ok.ensures.begins in
    let text : List ℕ = (body_of c.args.word.now true ahead).bytes in
    let at = in_body c.args.line.now c.args.word.now ahead c.args.reader (g.S.Source.left c.args.input.now) (g.S.Source.budget c.args.input.now) (g.S.Source.faults c.args.input.now) c.in-Ok.place c.serve_in.new.place (g.S.Source.left c.serve_in.new.input) (g.S.Source.budget c.serve_in.new.input) (g.S.Source.faults c.serve_in.new.input) c.requires.word told c.requires.within begun c.serve_in.ensures.stands in
    let cut = c.in-Err.ensures.serves d first most text stands (text_left c.args.reader c.args.word.now ahead c.in-Ok.place (g.S.Source.left c.args.input.now) begun told) in
    let P : Status → Type 0 = λ status. Halts status (around (g.F.Files.seen c.serve_in.new.files) first most (meanings (λ b. (goal.TreeView-dyn g (b.vtable, b.value)).rows b.value) (λ b. (goal.TreeView-dyn g (b.vtable, b.value)).told b.value) c.serve_in.new.views)) c.args.line.now d ahead c.args.reader.used (g.S.Source.left c.serve_in.new.input) (g.K.Sink.taken c.args.out.now) (g.K.Sink.taken c.serve_in.new.out) (g.F.Files.asked c.args.files.now) (g.F.Files.asked c.serve_in.new.files) in
    subst P (sym c.broken.ensures.status)
    (body_halts c.in-Err.halt c.serve_in.new.place.stuck c.args.line.now c.args.word.now ahead c.args.reader (g.S.Source.left c.args.input.now) (g.S.Source.budget c.args.input.now) (g.S.Source.faults c.args.input.now) c.serve_in.new.place (g.S.Source.left c.serve_in.new.input) (g.S.Source.budget c.serve_in.new.input) (g.S.Source.faults c.serve_in.new.input) d (around (g.F.Files.seen c.serve_in.new.files) first most (meanings (λ b. (goal.TreeView-dyn g (b.vtable, b.value)).rows b.value) (λ b. (goal.TreeView-dyn g (b.vtable, b.value)).told b.value) c.serve_in.new.views)) (g.K.Sink.taken c.args.out.now) (g.K.Sink.taken c.serve_in.new.out) (g.F.Files.asked c.args.files.now) (g.F.Files.asked c.serve_in.new.files) (g.F.Files.faults c.args.files.now) (g.F.Files.faults c.serve_in.new.files) c.in-Ok.place.refused (g.K.Sink.faults c.args.out.now) (g.K.Sink.faults c.serve_in.new.out)
    refl at cut.wrote cut.broken (record { carries = c.in-Err.ensures.carries d first most text stands (text_left c.args.reader c.args.word.now ahead c.in-Ok.place (g.S.Source.left c.args.input.now) begun told); views = c.in-Err.ensures.left d first most text stands (text_left c.args.reader c.args.word.now ahead c.in-Ok.place (g.S.Source.left c.args.input.now) begun told) }) c.in-Err.ensures.causes.why
    (c.serve_in.ensures.asks d first most stands))

pub returns-in-Err-clause-kept : goal.returns-in-Err-clause-kept
returns-in-Err-clause-kept g c =
    let begun = subst (λ (w : List ℕ). IsBegun c.args.reader w c.in-Ok.place) c.as_bytes.ensures.bytes c.in-Ok.ensures.begins in
    let st = standing_from c.args.reader c.args.word.now c.in-Ok.place c.serve_in.new.place (g.S.Source.left c.args.input.now) (g.S.Source.left c.serve_in.new.input) (g.S.Source.budget c.args.input.now) (g.S.Source.faults c.args.input.now) (g.S.Source.budget c.serve_in.new.input) (g.S.Source.faults c.serve_in.new.input) begun c.serve_in.ensures.stands in
    body_kept c.in-Err.halt c.serve_in.new.place.stuck c.args.word.now c.args.reader (g.S.Source.left c.args.input.now) (g.S.Source.budget c.args.input.now) (g.S.Source.faults c.args.input.now) c.serve_in.new.place (g.S.Source.left c.serve_in.new.input) (g.S.Source.budget c.serve_in.new.input) (g.S.Source.faults c.serve_in.new.input) (g.F.Files.faults c.args.files.now) (g.F.Files.faults c.serve_in.new.files) c.in-Ok.place.refused (g.K.Sink.faults c.args.out.now) (g.K.Sink.faults c.serve_in.new.out) _ c.broken.ensures.status refl st c.in-Err.ensures.causes.why
    c.serve_in.ensures.unchanged c.serve_in.ensures.choices c.serve_in.ensures.causes.none_fell.files c.serve_in.ensures.causes.none_fell.output

pub returns-in-Err-drain-clause-halts : goal.returns-in-Err-drain-clause-halts
returns-in-Err-drain-clause-halts g c = λ d first most ahead stands told.
    let begun = subst (λ (w : List ℕ). IsBegun c.args.reader w c.in-Ok.place) c.as_bytes.ensures.bytes c.in-Ok.ensures.begins in
    let text : List ℕ = (body_of c.args.word.now true ahead).bytes in
    let at = in_body c.args.line.now c.args.word.now ahead c.args.reader (g.S.Source.left c.args.input.now) (g.S.Source.budget c.args.input.now) (g.S.Source.faults c.args.input.now) c.in-Ok.place c.drain.new.self (g.S.Source.left c.drain.new.input) (g.S.Source.budget c.drain.new.input) (g.S.Source.faults c.drain.new.input) c.requires.word told c.requires.within begun (c.drain.ensures.stands _ c.serve_in.ensures.stands) in
    let did = c.in_default-serve_in.ensures.serves d first most text stands (text_left c.args.reader c.args.word.now ahead c.in-Ok.place (g.S.Source.left c.args.input.now) begun told) in
    let P : Status → Type 0 = λ status. Halts status (around (g.F.Files.seen c.serve_in.new.files) first most (meanings (λ b. (goal.TreeView-dyn g (b.vtable, b.value)).rows b.value) (λ b. (goal.TreeView-dyn g (b.vtable, b.value)).told b.value) c.serve_in.new.views)) c.args.line.now d ahead c.args.reader.used (g.S.Source.left c.drain.new.input) (g.K.Sink.taken c.args.out.now) (g.K.Sink.taken c.serve_in.new.out) (g.F.Files.asked c.args.files.now) (g.F.Files.asked c.serve_in.new.files) in
    subst P (sym c.broken-in-Err-drain.ensures.status)
    (drain_halts c.drain.new.self.stuck c.args.line.now c.args.word.now ahead c.args.reader (g.S.Source.left c.args.input.now) (g.S.Source.budget c.args.input.now) (g.S.Source.faults c.args.input.now) c.drain.new.self (g.S.Source.left c.drain.new.input) (g.S.Source.budget c.drain.new.input) (g.S.Source.faults c.drain.new.input) d c.serve_in.new.desk (around (g.F.Files.seen c.serve_in.new.files) first most (meanings (λ b. (goal.TreeView-dyn g (b.vtable, b.value)).rows b.value) (λ b. (goal.TreeView-dyn g (b.vtable, b.value)).told b.value) c.serve_in.new.views)) (g.K.Sink.taken c.args.out.now) (g.K.Sink.taken c.serve_in.new.out) (g.F.Files.asked c.args.files.now) (g.F.Files.asked c.serve_in.new.files) c.serve_in.new.place.refused
    refl at did c.in-Err-drain.ensures.cause (c.serve_in.ensures.asks d first most stands))

pub returns-in-Err-drain-clause-kept : goal.returns-in-Err-drain-clause-kept
returns-in-Err-drain-clause-kept g c =
    let begun = subst (λ (w : List ℕ). IsBegun c.args.reader w c.in-Ok.place) c.as_bytes.ensures.bytes c.in-Ok.ensures.begins in
    let st = standing_from c.args.reader c.args.word.now c.in-Ok.place c.drain.new.self (g.S.Source.left c.args.input.now) (g.S.Source.left c.drain.new.input) (g.S.Source.budget c.args.input.now) (g.S.Source.faults c.args.input.now) (g.S.Source.budget c.drain.new.input) (g.S.Source.faults c.drain.new.input) begun (c.drain.ensures.stands _ c.serve_in.ensures.stands) in
    body_kept (halt.Device stop.Read) c.drain.new.self.stuck c.args.word.now c.args.reader (g.S.Source.left c.args.input.now) (g.S.Source.budget c.args.input.now) (g.S.Source.faults c.args.input.now) c.drain.new.self (g.S.Source.left c.drain.new.input) (g.S.Source.budget c.drain.new.input) (g.S.Source.faults c.drain.new.input) (g.F.Files.faults c.args.files.now) (g.F.Files.faults c.serve_in.new.files) c.serve_in.new.place.refused (g.K.Sink.faults c.args.out.now) (g.K.Sink.faults c.serve_in.new.out) _ c.broken-in-Err-drain.ensures.status refl st c.in-Err-drain.ensures.cause
    c.serve_in.ensures.unchanged c.serve_in.ensures.choices c.serve_in.ensures.causes.none_fell.files c.serve_in.ensures.causes.none_fell.output

pub returns-in-Err-drain-clause-falls : goal.returns-in-Err-drain-clause-falls
returns-in-Err-drain-clause-falls g c = (c.drain.ensures.stands _ c.serve_in.ensures.stands).falls

pub returns-clause-done : goal.returns-clause-done
returns-clause-done g c = λ d first most ahead stands told.
    let begun = subst (λ (w : List ℕ). IsBegun c.args.reader w c.in-Ok.place) c.as_bytes.ensures.bytes c.in-Ok.ensures.begins in
    let text : List ℕ = (body_of c.args.word.now true ahead).bytes in
    let at = in_body c.args.line.now c.args.word.now ahead c.args.reader (g.S.Source.left c.args.input.now) (g.S.Source.budget c.args.input.now) (g.S.Source.faults c.args.input.now) c.in-Ok.place c.drain.new.self (g.S.Source.left c.drain.new.input) (g.S.Source.budget c.drain.new.input) (g.S.Source.faults c.drain.new.input) c.requires.word told c.requires.within begun (c.drain.ensures.stands _ c.serve_in.ensures.stands) in
    let did = c.in_default-serve_in.ensures.serves d first most text stands (text_left c.args.reader c.args.word.now ahead c.in-Ok.place (g.S.Source.left c.args.input.now) begun told) in
    let P : Option Reader → Type 0 = λ back. BodyDone c.args.line.now d ahead c.args.reader.used c.serve_in.new.desk (around (g.F.Files.seen c.serve_in.new.files) first most (meanings (λ b. (goal.TreeView-dyn g (b.vtable, b.value)).rows b.value) (λ b. (goal.TreeView-dyn g (b.vtable, b.value)).told b.value) c.serve_in.new.views)) back (g.S.Source.left c.drain.new.input) (g.K.Sink.taken c.args.out.now) (g.K.Sink.taken c.serve_in.new.out) (g.F.Files.asked c.args.files.now) (g.F.Files.asked c.serve_in.new.files) in
    subst P (sym c.reader_behind.ensures.behind)
    (body_done c.args.line.now c.args.word.now ahead c.args.reader (g.S.Source.left c.args.input.now) (g.S.Source.budget c.args.input.now) (g.S.Source.faults c.args.input.now) c.drain.new.self (g.S.Source.left c.drain.new.input) (g.S.Source.budget c.drain.new.input) (g.S.Source.faults c.drain.new.input) d c.serve_in.new.desk (around (g.F.Files.seen c.serve_in.new.files) first most (meanings (λ b. (goal.TreeView-dyn g (b.vtable, b.value)).rows b.value) (λ b. (goal.TreeView-dyn g (b.vtable, b.value)).told b.value) c.serve_in.new.views)) (g.K.Sink.taken c.args.out.now) (g.K.Sink.taken c.serve_in.new.out) (g.F.Files.asked c.args.files.now) (g.F.Files.asked c.serve_in.new.files) c.in_default-drain.ensures.over at did
    (c.serve_in.ensures.asks d first most stands))

pub returns-clause-kept : goal.returns-clause-kept
returns-clause-kept g c = record {
  sound = c.in_default-serve_in.ensures.sound;
  unchanged = c.serve_in.ensures.unchanged;
  choices = c.serve_in.ensures.choices;
  counts = record {
    files = c.serve_in.ensures.causes.none_fell.files;
    input = (c.drain.ensures.stands _ c.serve_in.ensures.stands).counts;
    output = c.serve_in.ensures.causes.none_fell.output;
  };
  ends = tt;
  why = tt;
  too_long = tt;
}

pub returns-clause-goes_on : goal.returns-clause-goes_on
returns-clause-goes_on g c =
    let begun = subst (λ (w : List ℕ). IsBegun c.args.reader w c.in-Ok.place) c.as_bytes.ensures.bytes c.in-Ok.ensures.begins in
    let st = standing_from c.args.reader c.args.word.now c.in-Ok.place c.drain.new.self (g.S.Source.left c.args.input.now) (g.S.Source.left c.drain.new.input) (g.S.Source.budget c.args.input.now) (g.S.Source.faults c.args.input.now) (g.S.Source.budget c.drain.new.input) (g.S.Source.faults c.drain.new.input) begun (c.drain.ensures.stands _ c.serve_in.ensures.stands) in
    let P : Option Reader → Type 0 = λ back. IfSome back (λ later. GoneOn c.args.reader (g.S.Source.budget c.args.input.now) later (g.S.Source.budget c.drain.new.input)) in
    subst P (sym c.reader_behind.ensures.behind) (body_gone c.drain.new.self.at c.args.reader c.drain.new.self.reader (g.S.Source.budget c.args.input.now) (g.S.Source.budget c.drain.new.input) (record { tagged = st.tagged; sum = st.sum; later = st.begins }))

pub returns-clause-falls : goal.returns-clause-falls
returns-clause-falls g c = (c.drain.ensures.stands _ c.serve_in.ensures.stands).falls

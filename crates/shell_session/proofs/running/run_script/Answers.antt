use Rattle.std.proofs.Common.{◌+◌, arith, [], length, refl, sym, ap, ◌∙◌, subst}
use Rattle.command_runs.specs.Plain.{after_all}
use Rattle.script_lines.specs.Clients.{Clients}
use Rattle.script_lines.specs.Reading.{Reader}
use Rattle.desk_commands.specs.Desk.{desks}
use Rattle.shell_session.specs.Session.{RanPart}
use Rattle.session_status.specs.declared.status.Status.{Status}
use Rattle.shell_session.proofs.KeptLaws.{kept_none, kept_on, kept_read, kept_stuck}
use Rattle.shell_session.proofs.RunningLaws.{at_last, at_line, if_err, last_quiet, on_ok, paid_done, paid_last, ran_finished, ran_halted, ran_last, ran_last_halted, ran_more, ran_none, ran_short, ran_stuck, read_too_much}
use Rattle.shell_session.specs.Around.{around, meanings, told_all}
use Rattle.shell_session.proofs.running.run_script.Goals as goal

pub returns-in_default-clause-part : goal.returns-in_default-clause-part
returns-in_default-clause-part g c = λ d first most script stands told.
    let fresh : Reader = record { tagged = c.args.desk.now.clients.tagged; unread = []; line = []; used = 0 } in
    ran_short d script _ _ _ fresh _ _ _ _ _ (ran_none d script _ _ _ _ fresh (g.F.Files.asked c.args.files.now) _ told refl refl c.requires.fresh stands)

pub lines-init : goal.lines-init
lines-init g c = record {
  ran = λ d first most script stands told. ran_none d script _ _ _ _ _ _ _ told c.in-Ok.ensures.new (c.is_tagged.ensures.tagged ∙ ap (λ (clients : Clients). clients.tagged) c.clients.ensures.clients) c.requires.fresh stands;
  kept = kept_none (g.S.Source.budget c.args.input.now) (g.S.Source.budget c.args.input.now) c.requires.sound;
  untaken = λ none. refl;
  none_lost = λ front before. before;
  sum =
      let used = ap (λ (r : Reader). r.used) c.in-Ok.ensures.new in
      let unread = ap (λ (r : Reader). length r.unread) c.in-Ok.ensures.new in
      omega (arith, used, unread);
}

pub lines-preserved : goal.lines-preserved
lines-preserved g c =
    let took = c.next.ensures.line c.in-Ok-Line.line (cc (c.in-Ok-Line.is, c.in-Ok-Line.field-0-is)) in
    let more = c.next.ensures.ahead c.in-Ok-Line.line (cc (c.in-Ok-Line.is, c.in-Ok-Line.field-0-is)) in
    let done = rw c.in-Ok-Some.field-0-is at c.in-Ok-Some.ensures.done in
    let gone = rw c.in-Ok-Some.field-0-is at c.in-Ok-Some.ensures.goes_on in
    record {
      ran = λ d first most script stands told.
          let at = at_line d script _ _ _ _ _ _ _ _ _ _ c.in-Ok-Line.line (c.lines.invariant.ran d first most script stands told) took in
          ran_more d script _ _ _ _ _ _ _ _ _ _ _ _ _ _ _ at.2 (gone.tagged ∙ took.tagged ∙ (c.lines.invariant.ran d first most script stands told).tagged) (done (after_all desks d at.2.done) first (λ k. most k + told_all d at.2.done k) at.0 at.2.stands at.1);
      kept = kept_on (kept_read (g.S.Source.faults c.next.new.input) (g.S.Source.budget c.next.new.input) c.lines.invariant.kept c.next.ensures.counts) c.in-Ok-Some.ensures.kept
          (omega (arith, c.next.ensures.sum, c.lines.invariant.sum));
      untaken = λ none. absurd (omega (arith, none, c.next.ensures.sum, more, gone.later));
      none_lost = λ front before. c.run_task.ensures.none_lost front (c.lines.invariant.none_lost front before);
      sum = omega (arith, c.next.ensures.sum, gone.sum, c.lines.invariant.sum);
    }

pub returns-in-Ok-None-clause-all : goal.returns-in-Ok-None-clause-all
returns-in-Ok-None-clause-all g c = λ d first most script stands told.
    let took = c.next.ensures.line c.in-Ok-Line.line (cc (c.in-Ok-Line.is, c.in-Ok-Line.field-0-is)) in
    let done = rw c.in-Ok-None.field-0-is at c.in-Ok-None.ensures.done in
    let at = at_line d script _ _ _ _ _ _ _ _ _ _ c.in-Ok-Line.line (c.lines.invariant.ran d first most script stands told) took in
    (ran_finished d script _ _ _ _ _ _ _ _ _ _ _ _ _ _ at.2 (done (after_all desks d at.2.done) first (λ k. most k + told_all d at.2.done k) at.0 at.2.stands at.1)).0

pub returns-in-Ok-None-clause-kept : goal.returns-in-Ok-None-clause-kept
returns-in-Ok-None-clause-kept g c =
    kept_on (kept_read (g.S.Source.faults c.next.new.input) (g.S.Source.budget c.next.new.input) c.lines.invariant.kept c.next.ensures.counts) c.in-Ok-None.ensures.kept
    (omega (arith, c.next.ensures.sum, c.lines.invariant.sum))

pub returns-in-Ok-None-clause-asks : goal.returns-in-Ok-None-clause-asks
returns-in-Ok-None-clause-asks g c = λ d first most script stands told.
    let took = c.next.ensures.line c.in-Ok-Line.line (cc (c.in-Ok-Line.is, c.in-Ok-Line.field-0-is)) in
    let done = rw c.in-Ok-None.field-0-is at c.in-Ok-None.ensures.done in
    let at = at_line d script _ _ _ _ _ _ _ _ _ _ c.in-Ok-Line.line (c.lines.invariant.ran d first most script stands told) took in
    (ran_finished d script _ _ _ _ _ _ _ _ _ _ _ _ _ _ at.2 (done (after_all desks d at.2.done) first (λ k. most k + told_all d at.2.done k) at.0 at.2.stands at.1)).1

pub returns-in-Err-run_task-clause-part : goal.returns-in-Err-run_task-clause-part
returns-in-Err-run_task-clause-part g c = λ d first most script stands told.
    let took = c.next.ensures.line c.in-Ok-Line.line (cc (c.in-Ok-Line.is, c.in-Ok-Line.field-0-is)) in
    let at = at_line d script _ _ _ _ _ _ _ _ _ _ c.in-Ok-Line.line (c.lines.invariant.ran d first most script stands told) took in
    (ran_halted d script _ _ _ _ _ _ _ _ _ _ _ _ _ c.in-Err-run_task.status at.2 c.in-Ok-Line.ensures.within
    (c.in-Err-run_task.ensures.halts (after_all desks d at.2.done) first (λ k. most k + told_all d at.2.done k) at.0 at.2.stands at.1)).0

pub returns-in-Err-run_task-clause-kept : goal.returns-in-Err-run_task-clause-kept
returns-in-Err-run_task-clause-kept g c =
    kept_on (kept_read (g.S.Source.faults c.next.new.input) (g.S.Source.budget c.next.new.input) c.lines.invariant.kept c.next.ensures.counts) c.in-Err-run_task.ensures.kept
    (omega (arith, c.next.ensures.sum, c.lines.invariant.sum))

pub returns-in-Err-run_task-clause-asks : goal.returns-in-Err-run_task-clause-asks
returns-in-Err-run_task-clause-asks g c = λ d first most script stands told.
    let took = c.next.ensures.line c.in-Ok-Line.line (cc (c.in-Ok-Line.is, c.in-Ok-Line.field-0-is)) in
    let at = at_line d script _ _ _ _ _ _ _ _ _ _ c.in-Ok-Line.line (c.lines.invariant.ran d first most script stands told) took in
    (ran_halted d script _ _ _ _ _ _ _ _ _ _ _ _ _ c.in-Err-run_task.status at.2 c.in-Ok-Line.ensures.within
    (c.in-Err-run_task.ensures.halts (after_all desks d at.2.done) first (λ k. most k + told_all d at.2.done k) at.0 at.2.stands at.1)).1

pub returns-in-Ok-None-clause-untaken : goal.returns-in-Ok-None-clause-untaken
returns-in-Ok-None-clause-untaken g c = λ none.
    let more = c.next.ensures.ahead c.in-Ok-Line.line (cc (c.in-Ok-Line.is, c.in-Ok-Line.field-0-is)) in
    absurd (omega (arith, none, more, c.next.ensures.sum, c.lines.invariant.sum, c.run_task.ensures.falls))

pub returns-in-Err-run_task-clause-untaken : goal.returns-in-Err-run_task-clause-untaken
returns-in-Err-run_task-clause-untaken g c = λ none.
    let more = c.next.ensures.ahead c.in-Ok-Line.line (cc (c.in-Ok-Line.is, c.in-Ok-Line.field-0-is)) in
    absurd (omega (arith, none, more, c.next.ensures.sum, c.lines.invariant.sum, c.run_task.ensures.falls))

pub returns-in-Ok-Last-clause-all : goal.returns-in-Ok-Last-clause-all
returns-in-Ok-Last-clause-all g c =
    on_ok c.run_last_task.result _ _ (λ did d first most script stands told.
    let says = c.next.ensures.last c.in-Ok-Last.line (cc (c.in-Ok-Last.is, c.in-Ok-Last.field-0-is)) in
    let at = at_last d script _ _ _ _ _ _ _ _ _ _ c.in-Ok-Last.line (c.lines.invariant.ran d first most script stands told) says.took says.says in
    ran_last d script _ _ _ _ _ c.in-Ok-Last.line _ _ _ _ _ _ at.1 c.in-Ok-Last.ensures.within (did (after_all desks d at.1.done) first (λ k. most k + told_all d at.1.done k) at.1.stands at.0))
    c.run_last_task.ensures.done

pub returns-in-Ok-Last-clause-part : goal.returns-in-Ok-Last-clause-part
returns-in-Ok-Last-clause-part g c =
    if_err c.run_last_task.result _ _ (λ status stops d first most script stands told.
    let says = c.next.ensures.last c.in-Ok-Last.line (cc (c.in-Ok-Last.is, c.in-Ok-Last.field-0-is)) in
    let at = at_last d script _ _ _ _ _ _ _ _ _ _ c.in-Ok-Last.line (c.lines.invariant.ran d first most script stands told) says.took says.says in
    ran_last_halted d script _ _ _ _ c.in-Ok-Last.line _ _ _ _ _ _ status at.1 (stops (after_all desks d at.1.done) first (λ k. most k + told_all d at.1.done k) at.1.stands at.0))
    c.run_last_task.ensures.halts

pub returns-in-Ok-Last-clause-kept : goal.returns-in-Ok-Last-clause-kept
returns-in-Ok-Last-clause-kept g c =
    kept_on (kept_read (g.S.Source.faults c.next.new.input) (g.S.Source.budget c.next.new.input) c.lines.invariant.kept c.next.ensures.counts) c.run_last_task.ensures.kept
    (omega (arith, c.next.ensures.sum, c.lines.invariant.sum))

pub returns-in-Ok-Last-clause-asks : goal.returns-in-Ok-Last-clause-asks
returns-in-Ok-Last-clause-asks g c = λ d first most script stands told.
    let says = c.next.ensures.last c.in-Ok-Last.line (cc (c.in-Ok-Last.is, c.in-Ok-Last.field-0-is)) in
    let at = at_last d script _ _ _ _ _ _ _ _ _ _ c.in-Ok-Last.line (c.lines.invariant.ran d first most script stands told) says.took says.says in
    paid_last d script _ _ _ c.in-Ok-Last.line _ _ _ _ _ at.1 (c.run_last_task.ensures.asks (after_all desks d at.1.done) first (λ k. most k + told_all d at.1.done k) at.1.stands at.0)

pub returns-in-Ok-Last-clause-untaken : goal.returns-in-Ok-Last-clause-untaken
returns-in-Ok-Last-clause-untaken g c = λ none.
    let says = c.next.ensures.last c.in-Ok-Last.line (cc (c.in-Ok-Last.is, c.in-Ok-Last.field-0-is)) in
    let quiet =
    last_quiet _ says.took.part.front _ c.in-Ok-Last.line says.took.part.feeds says.says
    (omega (arith, none, says.took.part.used, c.next.ensures.sum, c.next.ensures.falls, c.run_last_task.ensures.falls, c.lines.invariant.sum)) in
    c.run_last_task.ensures.kept.unchanged quiet
    ∙ c.lines.invariant.untaken (omega (arith, none, c.next.ensures.sum, c.next.ensures.falls, c.run_last_task.ensures.falls, c.lines.invariant.sum))

pub returns-in-Err-clause-part : goal.returns-in-Err-clause-part
returns-in-Err-clause-part g c = λ d first most script stands told.
    let P : Status → Type 0 = λ status. RanPart status d script (g.K.Sink.taken c.args.out.now) (g.K.Sink.taken c.lines.out) (g.S.Source.left c.next.new.input) (around (g.F.Files.seen c.lines.files) first most (meanings (λ b. (goal.TreeView-dyn g (b.vtable, b.value)).rows b.value) (λ b. (goal.TreeView-dyn g (b.vtable, b.value)).told b.value) c.lines.views)) in
    subst P (sym c.from.ensures) (ran_stuck c.in-Err.error d script _ _ _ _ _ _ _ _ _ _ (c.lines.invariant.ran d first most script stands told) c.in-Err.ensures.stuck)

pub returns-in-Err-clause-kept : goal.returns-in-Err-clause-kept
returns-in-Err-clause-kept g c =
    kept_stuck c.in-Err.error _ (g.S.Source.faults c.next.new.input) (g.S.Source.budget c.next.new.input) c.from.ensures c.lines.invariant.kept c.next.ensures.counts c.in-Err.ensures.cause
    (λ full. read_too_much c.in-Err.error _ _ _ _ _ _ _ full c.in-Err.ensures.stuck c.next.ensures.sum c.lines.invariant.sum)

pub returns-in-Err-clause-asks : goal.returns-in-Err-clause-asks
returns-in-Err-clause-asks g c = λ d first most script stands told. paid_done d script _ _ _ _ _ _ _ _ (c.lines.invariant.ran d first most script stands told)

pub returns-in-Err-clause-untaken : goal.returns-in-Err-clause-untaken
returns-in-Err-clause-untaken g c = λ none.
    c.lines.invariant.untaken (omega (arith, none, c.next.ensures.sum, c.next.ensures.falls, c.lines.invariant.sum))

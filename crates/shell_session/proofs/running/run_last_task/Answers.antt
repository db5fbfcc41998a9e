use Rattle.std.proofs.Common.{◌+◌, [], arith, length, refl}
use Rattle.script_text.specs.Tasks.{body_word}
use Rattle.shell_session.proofs.BodyLaws.{last_alone, last_asks, last_did, last_halts, last_halts_asks, last_not_on, nothing_left, worded}
use Rattle.shell_session.proofs.KeptLaws.{kept_alone, kept_then}
use Rattle.shell_session.proofs.RunningLaws.{if_err, on_ok}
use Rattle.shell_session.specs.Around.{around, meanings}
use Rattle.shell_session.proofs.running.run_last_task.Goals as goal

pub returns-then-is_none-clause-done : goal.returns-then-is_none-clause-done
returns-then-is_none-clause-done g c =
    on_ok c.run_last.result _ _ (λ did d first most stands told. record { did = did d first most stands; left = nothing_left c.args.reader.unread (g.S.Source.left c.args.input.now) told }) c.run_last.ensures.done

pub returns-then-is_none-clause-halts : goal.returns-then-is_none-clause-halts
returns-then-is_none-clause-halts g c =
    if_err c.run_last.result _ _
    (λ status stops d first most stands told. last_alone c.args.line d (around (g.F.Files.seen c.run_last.new.files) first most (meanings (λ b. (goal.TreeView-dyn g (b.vtable, b.value)).rows b.value) (λ b. (goal.TreeView-dyn g (b.vtable, b.value)).told b.value) c.run_last.new.views)) (g.S.Source.left c.args.input.now) _ _ status (stops d first most stands)) c.run_last.ensures.stops

pub returns-in-Ok-None-clause-done : goal.returns-in-Ok-None-clause-done
returns-in-Ok-None-clause-done g c = λ d first most stands told.
    let word = worded c.body_word.result _ (body_word c.args.line.order) c.is_none.result c.body_word.ensures.word c.is_none.ensures c.if-is_none.false in
    let done = rw c.in-Ok-None.field-0-is at c.in-Ok-None.ensures.done in
    last_did c.args.line word.0 d c.args.reader.used c.run_task.new.desk (around (g.F.Files.seen c.run_task.new.files) first most (meanings (λ b. (goal.TreeView-dyn g (b.vtable, b.value)).rows b.value) (λ b. (goal.TreeView-dyn g (b.vtable, b.value)).told b.value) c.run_task.new.views)) (g.S.Source.left c.run_task.new.input) (g.K.Sink.taken c.args.out.now) (g.K.Sink.taken c.run_task.new.out) (g.F.Files.asked c.args.files.now) (g.F.Files.asked c.run_task.new.files) word.1 (done d first most [] stands told)

pub returns-in-Ok-None-clause-asks : goal.returns-in-Ok-None-clause-asks
returns-in-Ok-None-clause-asks g c = λ d first most stands told.
    let word = worded c.body_word.result _ (body_word c.args.line.order) c.is_none.result c.body_word.ensures.word c.is_none.ensures c.if-is_none.false in
    let done = rw c.in-Ok-None.field-0-is at c.in-Ok-None.ensures.done in
    last_asks c.args.line word.0 d c.args.reader.used c.run_task.new.desk (around (g.F.Files.seen c.run_task.new.files) first most (meanings (λ b. (goal.TreeView-dyn g (b.vtable, b.value)).rows b.value) (λ b. (goal.TreeView-dyn g (b.vtable, b.value)).told b.value) c.run_task.new.views)) (g.S.Source.left c.run_task.new.input) (g.K.Sink.taken c.args.out.now) (g.K.Sink.taken c.run_task.new.out) (g.F.Files.asked c.args.files.now) (g.F.Files.asked c.run_task.new.files) word.1 (done d first most [] stands told)

pub returns-in-Err-clause-halts : goal.returns-in-Err-clause-halts
returns-in-Err-clause-halts g c = λ d first most stands told.
    let word = worded c.body_word.result _ (body_word c.args.line.order) c.is_none.result c.body_word.ensures.word c.is_none.ensures c.if-is_none.false in
    last_halts c.args.line word.0 d c.args.reader.used (around (g.F.Files.seen c.run_task.new.files) first most (meanings (λ b. (goal.TreeView-dyn g (b.vtable, b.value)).rows b.value) (λ b. (goal.TreeView-dyn g (b.vtable, b.value)).told b.value) c.run_task.new.views)) (g.S.Source.left c.run_task.new.input) (g.K.Sink.taken c.args.out.now) (g.K.Sink.taken c.run_task.new.out) (g.F.Files.asked c.args.files.now) (g.F.Files.asked c.run_task.new.files) c.in-Err.status word.1 c.requires.within (c.in-Err.ensures.halts d first most [] stands told)

pub returns-in-Err-clause-asks : goal.returns-in-Err-clause-asks
returns-in-Err-clause-asks g c = λ d first most stands told.
    let word = worded c.body_word.result _ (body_word c.args.line.order) c.is_none.result c.body_word.ensures.word c.is_none.ensures c.if-is_none.false in
    last_halts_asks c.args.line word.0 d c.args.reader.used (around (g.F.Files.seen c.run_task.new.files) first most (meanings (λ b. (goal.TreeView-dyn g (b.vtable, b.value)).rows b.value) (λ b. (goal.TreeView-dyn g (b.vtable, b.value)).told b.value) c.run_task.new.views)) (g.S.Source.left c.run_task.new.input) (g.K.Sink.taken c.args.out.now) (g.K.Sink.taken c.run_task.new.out) (g.F.Files.asked c.args.files.now) (g.F.Files.asked c.run_task.new.files) c.in-Err.status word.1 (c.in-Err.ensures.halts d first most [] stands told)

pub returns-then-is_none-clause-kept : goal.returns-then-is_none-clause-kept
returns-then-is_none-clause-kept g c =
    kept_alone (g.S.Source.faults c.args.input.now) (g.S.Source.budget c.args.input.now + (c.args.reader.used + length c.args.reader.unread)) (g.S.Source.budget c.args.input.now) c.run_last.ensures.kept

pub returns-clause-done : goal.returns-clause-done
returns-clause-done g c =
    let word = worded c.body_word.result _ (body_word c.args.line.order) c.is_none.result c.body_word.ensures.word c.is_none.ensures c.if-is_none.false in
    let done = rw c.in-Ok-Some.field-0-is at c.in-Ok-Some.ensures.done in
    on_ok c.run_end.result _ _ (λ did d first most stands told.
    absurd (last_not_on c.args.line word.0 d c.args.reader.used c.run_task.new.desk (around (g.F.Files.seen c.run_task.new.files) first most (meanings (λ b. (goal.TreeView-dyn g (b.vtable, b.value)).rows b.value) (λ b. (goal.TreeView-dyn g (b.vtable, b.value)).told b.value) c.run_task.new.views)) _ (g.S.Source.left c.run_task.new.input) (g.K.Sink.taken c.args.out.now) (g.K.Sink.taken c.run_task.new.out) (g.F.Files.asked c.args.files.now) (g.F.Files.asked c.run_task.new.files) word.1 (done d first most [] stands told)))
    c.run_end.ensures.done

pub returns-clause-halts : goal.returns-clause-halts
returns-clause-halts g c =
    let word = worded c.body_word.result _ (body_word c.args.line.order) c.is_none.result c.body_word.ensures.word c.is_none.ensures c.if-is_none.false in
    let done = rw c.in-Ok-Some.field-0-is at c.in-Ok-Some.ensures.done in
    if_err c.run_end.result _ _ (λ status cut d first most stands told.
    absurd (last_not_on c.args.line word.0 d c.args.reader.used c.run_task.new.desk (around (g.F.Files.seen c.run_task.new.files) first most (meanings (λ b. (goal.TreeView-dyn g (b.vtable, b.value)).rows b.value) (λ b. (goal.TreeView-dyn g (b.vtable, b.value)).told b.value) c.run_task.new.views)) _ (g.S.Source.left c.run_task.new.input) (g.K.Sink.taken c.args.out.now) (g.K.Sink.taken c.run_task.new.out) (g.F.Files.asked c.args.files.now) (g.F.Files.asked c.run_task.new.files) word.1 (done d first most [] stands told)))
    c.run_end.ensures.stops

pub returns-clause-asks : goal.returns-clause-asks
returns-clause-asks g c = λ d first most stands told.
    let word = worded c.body_word.result _ (body_word c.args.line.order) c.is_none.result c.body_word.ensures.word c.is_none.ensures c.if-is_none.false in
    let done = rw c.in-Ok-Some.field-0-is at c.in-Ok-Some.ensures.done in
    absurd (last_not_on c.args.line word.0 d c.args.reader.used c.run_task.new.desk (around (g.F.Files.seen c.run_task.new.files) first most (meanings (λ b. (goal.TreeView-dyn g (b.vtable, b.value)).rows b.value) (λ b. (goal.TreeView-dyn g (b.vtable, b.value)).told b.value) c.run_task.new.views)) _ (g.S.Source.left c.run_task.new.input) (g.K.Sink.taken c.args.out.now) (g.K.Sink.taken c.run_task.new.out) (g.F.Files.asked c.args.files.now) (g.F.Files.asked c.run_task.new.files) word.1 (done d first most [] stands told))

pub returns-clause-kept : goal.returns-clause-kept
returns-clause-kept g c =
    let b = g.S.Source.budget c.args.input.now + (c.args.reader.used + length c.args.reader.unread) in
    kept_then (λ _. refl) c.in-Ok-Some.ensures.kept (kept_alone (g.S.Source.faults c.run_task.new.input) b (g.S.Source.budget c.run_task.new.input) c.run_end.ensures.kept) (omega arith)

pub returns-then-is_none-clause-asks : goal.returns-then-is_none-clause-asks
returns-then-is_none-clause-asks g c = λ d first most lives told. c.run_last.ensures.asks d first most lives

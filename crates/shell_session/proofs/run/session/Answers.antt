use Rattle.std.proofs.Common.{◌≡◌, ◌⊎◌, ℕ, List, length, map, string_bytes, sym, ap, ◌∙◌, subst, None}
use Rattle.command_runs.specs.Counts.{counts}
use Rattle.std.proofs.lemmas.List.{with_items_is}
use Rattle.std.specs.Vec.{with_items}
use Rattle.shell_session.specs.Around.{around, meanings}
use Rattle.shell_session.specs.Session.{Answers, Due, Inlet, StaysIfRefused, given, Chooses, Reads, WhyStatus}
use Rattle.shell_session.specs.Words.{Wanted, words_read}
use Rattle.session_status.specs.declared.status.Status.{Status}
use Rattle.session_status.specs.declared.status.Status.TheVariants.{Done, Memory, Usage}
use Rattle.session_status.specs.Stops.{status_of}
use Rattle.shell_session.proofs.AnswerLaws.{chooses_running, chosen, due_of, line_session, opened_by, part_session, stays_line, stays_running, stays_same, why_line, why_running, whole_session, reads_line, stop_interrupts, words_refused, words_running}
use Rattle.shell_session.proofs.PriceLaws.{asks_opening, asks_script}
use Rattle.shell_session.proofs.ViewLaws.{meanings_few, none_told}
use Rattle.shell_session.proofs.run.session.Goals as goal

pub returns-in-Err-write_opening-clause-answers : goal.returns-in-Err-write_opening-clause-answers
returns-in-Err-write_opening-clause-answers g c = λ index names games script i n told left.
    let words : List (List ℕ) = map string_bytes c.args.words.now in
    let wanted : Wanted (List ℕ) = record { name = c.in-Some.wanted.name.now; create = c.in-Some.wanted.create; strict = c.in-Some.wanted.strict; desk = c.in-Some.wanted.desk } in
    let input : Inlet = record { left = g.S.Source.left c.args.input.now; budget = g.S.Source.budget c.args.input.now; faults = g.S.Source.faults c.args.input.now } in
    let P : Status → Type 0 = λ status. Answers (given words index names games (g.F.Files.seen c.args.files.now).fresh script (meanings (λ b. (goal.TreeView-dyn g (b.vtable, b.value)).rows b.value) (λ b. (goal.TreeView-dyn g (b.vtable, b.value)).told b.value) c.args.views.now.items)) (g.K.Sink.taken c.args.out.now) (g.K.Sink.taken c.write_opening.new.out) input input (around (g.F.Files.seen c.open.new.files) (meanings (λ b. (goal.TreeView-dyn g (b.vtable, b.value)).rows b.value) (λ b. (goal.TreeView-dyn g (b.vtable, b.value)).told b.value) c.args.views.now.items) none_told (meanings (λ b. (goal.TreeView-dyn g (b.vtable, b.value)).rows b.value) (λ b. (goal.TreeView-dyn g (b.vtable, b.value)).told b.value) c.args.views.now.items)) status in
    subst P (sym c.from.ensures)
    (line_session words index names games script (meanings (λ b. (goal.TreeView-dyn g (b.vtable, b.value)).rows b.value) (λ b. (goal.TreeView-dyn g (b.vtable, b.value)).told b.value) c.args.views.now.items) (g.F.Files.seen c.args.files.now) (g.F.Files.seen c.open.new.files) wanted c.in-Ok.opened.0 c.in-Ok.opened.1 c.games.result _ _ input c.in-Err-write_opening.stop _ _
    (sym c.in-Some.ensures.read) c.in-Ok.ensures.opens c.games.ensures.games c.in-Err-write_opening.ensures.halted c.open.ensures.contents c.in-Err-write_opening.ensures.causes.why i n told)

pub returns-in-Err-write_opening-clause-due : goal.returns-in-Err-write_opening-clause-due
returns-in-Err-write_opening-clause-due g c = λ index names games script i n told left no_files no_input no_output.
    let words : List (List ℕ) = map string_bytes c.args.words.now in
    let wanted : Wanted (List ℕ) = record { name = c.in-Some.wanted.name.now; create = c.in-Some.wanted.create; strict = c.in-Some.wanted.strict; desk = c.in-Some.wanted.desk } in
    let input : Inlet = record { left = g.S.Source.left c.args.input.now; budget = g.S.Source.budget c.args.input.now; faults = g.S.Source.faults c.args.input.now } in
    let P : Status → Type 0 = λ status. (status ≡ Memory) ⊎ Due (given words index names games (g.F.Files.seen c.args.files.now).fresh script (meanings (λ b. (goal.TreeView-dyn g (b.vtable, b.value)).rows b.value) (λ b. (goal.TreeView-dyn g (b.vtable, b.value)).told b.value) c.args.views.now.items)) status in
    subst P (sym c.from.ensures)
    (due_of (given words index names games (g.F.Files.seen c.args.files.now).fresh script (meanings (λ b. (goal.TreeView-dyn g (b.vtable, b.value)).rows b.value) (λ b. (goal.TreeView-dyn g (b.vtable, b.value)).told b.value) c.args.views.now.items)) (g.K.Sink.taken c.args.out.now) (g.K.Sink.taken c.write_opening.new.out) input input (around (g.F.Files.seen c.open.new.files) (meanings (λ b. (goal.TreeView-dyn g (b.vtable, b.value)).rows b.value) (λ b. (goal.TreeView-dyn g (b.vtable, b.value)).told b.value) c.args.views.now.items) none_told (meanings (λ b. (goal.TreeView-dyn g (b.vtable, b.value)).rows b.value) (λ b. (goal.TreeView-dyn g (b.vtable, b.value)).told b.value) c.args.views.now.items)) (status_of c.in-Err-write_opening.stop) _ _ _ _ _ _
    (line_session words index names games script (meanings (λ b. (goal.TreeView-dyn g (b.vtable, b.value)).rows b.value) (λ b. (goal.TreeView-dyn g (b.vtable, b.value)).told b.value) c.args.views.now.items) (g.F.Files.seen c.args.files.now) (g.F.Files.seen c.open.new.files) wanted c.in-Ok.opened.0 c.in-Ok.opened.1 c.games.result _ _ input c.in-Err-write_opening.stop _ _
    (sym c.in-Some.ensures.read) c.in-Ok.ensures.opens c.games.ensures.games c.in-Err-write_opening.ensures.halted c.open.ensures.contents c.in-Err-write_opening.ensures.causes.why i n told)
    (why_line c.in-Err-write_opening.stop _ _ _ _ _ c.in-Err-write_opening.ensures.causes.why)
    no_files no_input no_output)

pub returns-in-Err-write_opening-clause-words : goal.returns-in-Err-write_opening-clause-words
returns-in-Err-write_opening-clause-words g c =
    let words : List (List ℕ) = map string_bytes c.args.words.now in
    let wanted : Wanted (List ℕ) = record { name = c.in-Some.wanted.name.now; create = c.in-Some.wanted.create; strict = c.in-Some.wanted.strict; desk = c.in-Some.wanted.desk } in
    let stop = c.in-Err-write_opening.stop in (
      λ (is : c.from.result ≡ Usage). absurd (words_running (status_of stop) (stop_interrupts stop) (sym c.from.ensures ∙ is)),
      λ (none : words_read words ≡ None). absurd (words_refused (words_read words) wanted none (sym c.in-Some.ensures.read)),
    )

pub returns-in-Err-write_opening-clause-why : goal.returns-in-Err-write_opening-clause-why
returns-in-Err-write_opening-clause-why g c =
    let i = g.S.Source.faults c.args.input.now in
    let W : Status → Type 0 = λ status.
    WhyStatus status (counts (g.F.Files.faults c.args.files.now) i (g.K.Sink.faults c.args.out.now)) (counts (g.F.Files.faults c.open.new.files) i (g.K.Sink.faults c.write_opening.new.out)) in
    subst W (sym c.from.ensures) (why_line c.in-Err-write_opening.stop _ _ i _ _ c.in-Err-write_opening.ensures.causes.why)

pub returns-in-Err-write_opening-clause-reads : goal.returns-in-Err-write_opening-clause-reads
returns-in-Err-write_opening-clause-reads g c =
    let input : Inlet = record { left = g.S.Source.left c.args.input.now; budget = g.S.Source.budget c.args.input.now; faults = g.S.Source.faults c.args.input.now } in
    subst (λ (status : Status). Reads status input input) (sym c.from.ensures) (reads_line c.in-Err-write_opening.stop input)

pub returns-in-Err-write_opening-clause-choices : goal.returns-in-Err-write_opening-clause-choices
returns-in-Err-write_opening-clause-choices g c =
    let words : List (List ℕ) = map string_bytes c.args.words.now in
    let wanted : Wanted (List ℕ) = record { name = c.in-Some.wanted.name.now; create = c.in-Some.wanted.create; strict = c.in-Some.wanted.strict; desk = c.in-Some.wanted.desk } in
    let old = (g.F.Files.seen c.args.files.now).choices in
    let new = (g.F.Files.seen c.open.new.files).choices in
    subst (λ (status : Status). Chooses status words old new) (sym c.from.ensures)
    (chooses_running (status_of c.in-Err-write_opening.stop) words old new (stop_interrupts c.in-Err-write_opening.stop)
    (chosen words wanted old new (sym c.in-Some.ensures.read) c.in-Ok.ensures.chosen))

pub returns-in-Ok-run_script-clause-answers : goal.returns-in-Ok-run_script-clause-answers
returns-in-Ok-run_script-clause-answers g c = λ index names games script i n told left.
    let wanted : Wanted (List ℕ) = record { name = c.in-Some.wanted.name.now; create = c.in-Some.wanted.create; strict = c.in-Some.wanted.strict; desk = c.in-Some.wanted.desk } in
    whole_session (map string_bytes c.args.words.now) index names games script (meanings (λ b. (goal.TreeView-dyn g (b.vtable, b.value)).rows b.value) (λ b. (goal.TreeView-dyn g (b.vtable, b.value)).told b.value) c.args.views.now.items) (g.F.Files.seen c.args.files.now) (g.F.Files.seen c.open.new.files) (g.F.Files.seen c.run_script.new.files) (meanings (λ b. (goal.TreeView-dyn g (b.vtable, b.value)).rows b.value) (λ b. (goal.TreeView-dyn g (b.vtable, b.value)).told b.value) (with_items c.args.views.now c.run_script.new.views).items) wanted c.in-Ok.opened.0 c.in-Ok.opened.1 c.games.result _ (g.K.Sink.taken c.write_opening.new.out) _
    (record { left = g.S.Source.left c.args.input.now; budget = g.S.Source.budget c.args.input.now; faults = g.S.Source.faults c.args.input.now })
    (record { left = g.S.Source.left c.run_script.new.input; budget = g.S.Source.budget c.run_script.new.input; faults = g.S.Source.faults c.run_script.new.input })
    (sym c.in-Some.ensures.read) c.in-Ok.ensures.opens (meanings_few (λ b. (goal.TreeView-dyn g (b.vtable, b.value)).rows b.value) (λ b. (goal.TreeView-dyn g (b.vtable, b.value)).told b.value) c.args.views.now.items c.requires.few) _ _ (ap (λ l. meanings (λ b. (goal.TreeView-dyn g (b.vtable, b.value)).rows b.value) (λ b. (goal.TreeView-dyn g (b.vtable, b.value)).told b.value) l) c.as_mut_slice.ensures.value) (ap (λ l. meanings (λ b. (goal.TreeView-dyn g (b.vtable, b.value)).rows b.value) (λ b. (goal.TreeView-dyn g (b.vtable, b.value)).told b.value) l) (sym (with_items_is c.args.views.now c.run_script.new.views (c.run_script.ensures.number ∙ (ap (λ l. length l) c.as_mut_slice.ensures.value ∙ sym c.args.views.now.ok.0))))) c.games.ensures.games c.in_default-write_opening.ensures.written c.in-Ok-run_script.ensures.all i n told left

pub returns-in-Ok-run_script-clause-due : goal.returns-in-Ok-run_script-clause-due
returns-in-Ok-run_script-clause-due g c = λ index names games script i n told left no_files no_input no_output.
    let wanted : Wanted (List ℕ) = record { name = c.in-Some.wanted.name.now; create = c.in-Some.wanted.create; strict = c.in-Some.wanted.strict; desk = c.in-Some.wanted.desk } in
    let input : Inlet = record { left = g.S.Source.left c.args.input.now; budget = g.S.Source.budget c.args.input.now; faults = g.S.Source.faults c.args.input.now } in
    let input' : Inlet = record { left = g.S.Source.left c.run_script.new.input; budget = g.S.Source.budget c.run_script.new.input; faults = g.S.Source.faults c.run_script.new.input } in
    due_of (given (map string_bytes c.args.words.now) index names games (g.F.Files.seen c.args.files.now).fresh script (meanings (λ b. (goal.TreeView-dyn g (b.vtable, b.value)).rows b.value) (λ b. (goal.TreeView-dyn g (b.vtable, b.value)).told b.value) c.args.views.now.items)) (g.K.Sink.taken c.args.out.now) (g.K.Sink.taken c.run_script.new.out) input input' (around (g.F.Files.seen c.run_script.new.files) (meanings (λ b. (goal.TreeView-dyn g (b.vtable, b.value)).rows b.value) (λ b. (goal.TreeView-dyn g (b.vtable, b.value)).told b.value) c.args.views.now.items) none_told (meanings (λ b. (goal.TreeView-dyn g (b.vtable, b.value)).rows b.value) (λ b. (goal.TreeView-dyn g (b.vtable, b.value)).told b.value) (with_items c.args.views.now c.run_script.new.views).items)) Done _ _ _ _ _ _
    (whole_session (map string_bytes c.args.words.now) index names games script (meanings (λ b. (goal.TreeView-dyn g (b.vtable, b.value)).rows b.value) (λ b. (goal.TreeView-dyn g (b.vtable, b.value)).told b.value) c.args.views.now.items) (g.F.Files.seen c.args.files.now) (g.F.Files.seen c.open.new.files) (g.F.Files.seen c.run_script.new.files) (meanings (λ b. (goal.TreeView-dyn g (b.vtable, b.value)).rows b.value) (λ b. (goal.TreeView-dyn g (b.vtable, b.value)).told b.value) (with_items c.args.views.now c.run_script.new.views).items) wanted c.in-Ok.opened.0 c.in-Ok.opened.1 c.games.result _ (g.K.Sink.taken c.write_opening.new.out) _ input input'
    (sym c.in-Some.ensures.read) c.in-Ok.ensures.opens (meanings_few (λ b. (goal.TreeView-dyn g (b.vtable, b.value)).rows b.value) (λ b. (goal.TreeView-dyn g (b.vtable, b.value)).told b.value) c.args.views.now.items c.requires.few) _ _ (ap (λ l. meanings (λ b. (goal.TreeView-dyn g (b.vtable, b.value)).rows b.value) (λ b. (goal.TreeView-dyn g (b.vtable, b.value)).told b.value) l) c.as_mut_slice.ensures.value) (ap (λ l. meanings (λ b. (goal.TreeView-dyn g (b.vtable, b.value)).rows b.value) (λ b. (goal.TreeView-dyn g (b.vtable, b.value)).told b.value) l) (sym (with_items_is c.args.views.now c.run_script.new.views (c.run_script.ensures.number ∙ (ap (λ l. length l) c.as_mut_slice.ensures.value ∙ sym c.args.views.now.ok.0))))) c.games.ensures.games c.in_default-write_opening.ensures.written c.in-Ok-run_script.ensures.all i n told left)
    tt no_files no_input no_output

pub returns-clause-answers : goal.returns-clause-answers
returns-clause-answers g c = λ index names games script i n told left.
    let wanted : Wanted (List ℕ) = record { name = c.in-Some.wanted.name.now; create = c.in-Some.wanted.create; strict = c.in-Some.wanted.strict; desk = c.in-Some.wanted.desk } in
    part_session (map string_bytes c.args.words.now) index names games script (meanings (λ b. (goal.TreeView-dyn g (b.vtable, b.value)).rows b.value) (λ b. (goal.TreeView-dyn g (b.vtable, b.value)).told b.value) c.args.views.now.items) (g.F.Files.seen c.args.files.now) (g.F.Files.seen c.open.new.files) (g.F.Files.seen c.run_script.new.files) (meanings (λ b. (goal.TreeView-dyn g (b.vtable, b.value)).rows b.value) (λ b. (goal.TreeView-dyn g (b.vtable, b.value)).told b.value) (with_items c.args.views.now c.run_script.new.views).items) wanted c.in-Ok.opened.0 c.in-Ok.opened.1 c.games.result _ (g.K.Sink.taken c.write_opening.new.out) _
    (record { left = g.S.Source.left c.args.input.now; budget = g.S.Source.budget c.args.input.now; faults = g.S.Source.faults c.args.input.now })
    (record { left = g.S.Source.left c.run_script.new.input; budget = g.S.Source.budget c.run_script.new.input; faults = g.S.Source.faults c.run_script.new.input })
    c.in-Err-run_script.status
    (sym c.in-Some.ensures.read) c.in-Ok.ensures.opens (meanings_few (λ b. (goal.TreeView-dyn g (b.vtable, b.value)).rows b.value) (λ b. (goal.TreeView-dyn g (b.vtable, b.value)).told b.value) c.args.views.now.items c.requires.few) _ _ (ap (λ l. meanings (λ b. (goal.TreeView-dyn g (b.vtable, b.value)).rows b.value) (λ b. (goal.TreeView-dyn g (b.vtable, b.value)).told b.value) l) c.as_mut_slice.ensures.value) (ap (λ l. meanings (λ b. (goal.TreeView-dyn g (b.vtable, b.value)).rows b.value) (λ b. (goal.TreeView-dyn g (b.vtable, b.value)).told b.value) l) (sym (with_items_is c.args.views.now c.run_script.new.views (c.run_script.ensures.number ∙ (ap (λ l. length l) c.as_mut_slice.ensures.value ∙ sym c.args.views.now.ok.0))))) c.games.ensures.games c.in_default-write_opening.ensures.written c.in-Err-run_script.ensures.part c.in-Err-run_script.ensures.kept.ends i n told left

pub returns-clause-due : goal.returns-clause-due
returns-clause-due g c = λ index names games script i n told left no_files no_input no_output.
    let wanted : Wanted (List ℕ) = record { name = c.in-Some.wanted.name.now; create = c.in-Some.wanted.create; strict = c.in-Some.wanted.strict; desk = c.in-Some.wanted.desk } in
    let input : Inlet = record { left = g.S.Source.left c.args.input.now; budget = g.S.Source.budget c.args.input.now; faults = g.S.Source.faults c.args.input.now } in
    let input' : Inlet = record { left = g.S.Source.left c.run_script.new.input; budget = g.S.Source.budget c.run_script.new.input; faults = g.S.Source.faults c.run_script.new.input } in
    due_of (given (map string_bytes c.args.words.now) index names games (g.F.Files.seen c.args.files.now).fresh script (meanings (λ b. (goal.TreeView-dyn g (b.vtable, b.value)).rows b.value) (λ b. (goal.TreeView-dyn g (b.vtable, b.value)).told b.value) c.args.views.now.items)) (g.K.Sink.taken c.args.out.now) (g.K.Sink.taken c.run_script.new.out) input input' (around (g.F.Files.seen c.run_script.new.files) (meanings (λ b. (goal.TreeView-dyn g (b.vtable, b.value)).rows b.value) (λ b. (goal.TreeView-dyn g (b.vtable, b.value)).told b.value) c.args.views.now.items) none_told (meanings (λ b. (goal.TreeView-dyn g (b.vtable, b.value)).rows b.value) (λ b. (goal.TreeView-dyn g (b.vtable, b.value)).told b.value) (with_items c.args.views.now c.run_script.new.views).items)) c.in-Err-run_script.status _ _ _ _ _ _
    (part_session (map string_bytes c.args.words.now) index names games script (meanings (λ b. (goal.TreeView-dyn g (b.vtable, b.value)).rows b.value) (λ b. (goal.TreeView-dyn g (b.vtable, b.value)).told b.value) c.args.views.now.items) (g.F.Files.seen c.args.files.now) (g.F.Files.seen c.open.new.files) (g.F.Files.seen c.run_script.new.files) (meanings (λ b. (goal.TreeView-dyn g (b.vtable, b.value)).rows b.value) (λ b. (goal.TreeView-dyn g (b.vtable, b.value)).told b.value) (with_items c.args.views.now c.run_script.new.views).items) wanted c.in-Ok.opened.0 c.in-Ok.opened.1 c.games.result _ (g.K.Sink.taken c.write_opening.new.out) _ input input' c.in-Err-run_script.status
    (sym c.in-Some.ensures.read) c.in-Ok.ensures.opens (meanings_few (λ b. (goal.TreeView-dyn g (b.vtable, b.value)).rows b.value) (λ b. (goal.TreeView-dyn g (b.vtable, b.value)).told b.value) c.args.views.now.items c.requires.few) _ _ (ap (λ l. meanings (λ b. (goal.TreeView-dyn g (b.vtable, b.value)).rows b.value) (λ b. (goal.TreeView-dyn g (b.vtable, b.value)).told b.value) l) c.as_mut_slice.ensures.value) (ap (λ l. meanings (λ b. (goal.TreeView-dyn g (b.vtable, b.value)).rows b.value) (λ b. (goal.TreeView-dyn g (b.vtable, b.value)).told b.value) l) (sym (with_items_is c.args.views.now c.run_script.new.views (c.run_script.ensures.number ∙ (ap (λ l. length l) c.as_mut_slice.ensures.value ∙ sym c.args.views.now.ok.0))))) c.games.ensures.games c.in_default-write_opening.ensures.written c.in-Err-run_script.ensures.part c.in-Err-run_script.ensures.kept.ends i n told left)
    (why_running c.in-Err-run_script.status _ (g.F.Files.faults c.open.new.files) _ _ _ _ (g.K.Sink.faults c.write_opening.new.out) _ c.open.ensures.counts c.in_default-write_opening.ensures.causes.none_fell.output c.in-Err-run_script.ensures.kept.why)
    no_files no_input no_output

pub returns-clause-choices : goal.returns-clause-choices
returns-clause-choices g c =
    let wanted : Wanted (List ℕ) = record { name = c.in-Some.wanted.name.now; create = c.in-Some.wanted.create; strict = c.in-Some.wanted.strict; desk = c.in-Some.wanted.desk } in
    chooses_running c.in-Err-run_script.status (map string_bytes c.args.words.now) _ _ c.in-Err-run_script.ensures.kept.ends
    (chosen (map string_bytes c.args.words.now) wanted _ _ (sym c.in-Some.ensures.read) (c.run_script.ensures.kept.choices ∙ c.in-Ok.ensures.chosen))

pub returns-in-Err-write_opening-clause-asks : goal.returns-in-Err-write_opening-clause-asks
returns-in-Err-write_opening-clause-asks g c = λ index names games script i n told left.
    asks_opening (given (map string_bytes c.args.words.now) index names games (g.F.Files.seen c.args.files.now).fresh script (meanings (λ b. (goal.TreeView-dyn g (b.vtable, b.value)).rows b.value) (λ b. (goal.TreeView-dyn g (b.vtable, b.value)).told b.value) c.args.views.now.items)) _ _ (g.F.Files.seen c.args.files.now).index i c.open.ensures.asks

pub returns-in-Ok-run_script-clause-asks : goal.returns-in-Ok-run_script-clause-asks
returns-in-Ok-run_script-clause-asks g c = λ index names games script i n told left.
    let wanted : Wanted (List ℕ) = record { name = c.in-Some.wanted.name.now; create = c.in-Some.wanted.create; strict = c.in-Some.wanted.strict; desk = c.in-Some.wanted.desk } in
    asks_script (map string_bytes c.args.words.now) index names games script (meanings (λ b. (goal.TreeView-dyn g (b.vtable, b.value)).rows b.value) (λ b. (goal.TreeView-dyn g (b.vtable, b.value)).told b.value) c.args.views.now.items) (g.F.Files.seen c.args.files.now) (g.F.Files.seen c.open.new.files) wanted c.in-Ok.opened.0 c.in-Ok.opened.1
    (g.S.Source.left c.args.input.now) _ _ _ (sym c.in-Some.ensures.read) c.in-Ok.ensures.opens (meanings_few (λ b. (goal.TreeView-dyn g (b.vtable, b.value)).rows b.value) (λ b. (goal.TreeView-dyn g (b.vtable, b.value)).told b.value) c.args.views.now.items c.requires.few) _ (ap (λ l. meanings (λ b. (goal.TreeView-dyn g (b.vtable, b.value)).rows b.value) (λ b. (goal.TreeView-dyn g (b.vtable, b.value)).told b.value) l) c.as_mut_slice.ensures.value) c.open.ensures.asks c.run_script.ensures.asks i n told left

pub returns-clause-asks : goal.returns-clause-asks
returns-clause-asks g c = λ index names games script i n told left.
    let wanted : Wanted (List ℕ) = record { name = c.in-Some.wanted.name.now; create = c.in-Some.wanted.create; strict = c.in-Some.wanted.strict; desk = c.in-Some.wanted.desk } in
    asks_script (map string_bytes c.args.words.now) index names games script (meanings (λ b. (goal.TreeView-dyn g (b.vtable, b.value)).rows b.value) (λ b. (goal.TreeView-dyn g (b.vtable, b.value)).told b.value) c.args.views.now.items) (g.F.Files.seen c.args.files.now) (g.F.Files.seen c.open.new.files) wanted c.in-Ok.opened.0 c.in-Ok.opened.1
    (g.S.Source.left c.args.input.now) _ _ _ (sym c.in-Some.ensures.read) c.in-Ok.ensures.opens (meanings_few (λ b. (goal.TreeView-dyn g (b.vtable, b.value)).rows b.value) (λ b. (goal.TreeView-dyn g (b.vtable, b.value)).told b.value) c.args.views.now.items c.requires.few) _ (ap (λ l. meanings (λ b. (goal.TreeView-dyn g (b.vtable, b.value)).rows b.value) (λ b. (goal.TreeView-dyn g (b.vtable, b.value)).told b.value) l) c.as_mut_slice.ensures.value) c.open.ensures.asks c.run_script.ensures.asks i n told left

pub returns-in-Err-write_opening-clause-silent : goal.returns-in-Err-write_opening-clause-silent
returns-in-Err-write_opening-clause-silent g c =
    let P : Status → Type 0 = λ status. StaysIfRefused status (g.K.Sink.taken c.args.out.now) (g.K.Sink.taken c.write_opening.new.out) in
    subst P (sym c.from.ensures) (stays_line c.in-Err-write_opening.stop _ _)

pub returns-clause-silent : goal.returns-clause-silent
returns-clause-silent g c = stays_running c.in-Err-run_script.status _ _ c.in-Err-run_script.ensures.kept.ends

pub returns-in-Err-write_opening-clause-untouched : goal.returns-in-Err-write_opening-clause-untouched
returns-in-Err-write_opening-clause-untouched g c =
    let views = meanings (λ b. (goal.TreeView-dyn g (b.vtable, b.value)).rows b.value) (λ b. (goal.TreeView-dyn g (b.vtable, b.value)).told b.value) c.args.views.now.items in
    stays_same c.from.result views

pub returns-clause-untouched : goal.returns-clause-untouched
returns-clause-untouched g c = stays_running c.in-Err-run_script.status _ _ c.in-Err-run_script.ensures.kept.ends

pub returns-in-Ok-run_script-clause-opened : goal.returns-in-Ok-run_script-clause-opened
returns-in-Ok-run_script-clause-opened g c = λ taken. opened_by _ _ _ c.games.result c.in-Ok.opened.1 c.in_default-write_opening.ensures.written c.run_script.ensures.none_lost

pub returns-clause-opened : goal.returns-clause-opened
returns-clause-opened g c = λ taken. opened_by _ _ _ c.games.result c.in-Ok.opened.1 c.in_default-write_opening.ensures.written c.run_script.ensures.none_lost

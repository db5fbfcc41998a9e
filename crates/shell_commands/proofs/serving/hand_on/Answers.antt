use Rattle.std.proofs.Common.{ap, refl, sym, ◌∙◌}
use Rattle.shell_commands.proofs.ShownLaws.{said_serves}
use Rattle.shell_commands.proofs.TurnLaws.{kept_bodyless, kept_unshown, kept_writes, turn_by, turn_unshown}
use Rattle.shell_commands.proofs.ViewLaws.{fault_done}
use Rattle.shell_commands.proofs.serving.hand_on.Goals as goal
use Rattle.shell_commands.specs.Parts.{is_unshown}
use Rattle.shell_commands.specs.Tasks.{order_work}
use Rattle.shell_state.proofs.Served.{on_ok}
use Rattle.script_text.specs.Tasks.{task}
use Rattle.std.proofs.Common.{Err}

pub returns-in-Slots-clause-turn : goal.returns-in-Slots-clause-turn
returns-in-Slots-clause-turn g c = λ s text st told right. rw c.in-Ok.is (c.serve_slot.ensures.turn s text st right)

pub returns-in-Slots-clause-kept : goal.returns-in-Slots-clause-kept
returns-in-Slots-clause-kept g c = rw c.in-Ok.is (kept_bodyless _ c.serve_slot.ensures.kept)

pub returns-in-Searches-clause-turn : goal.returns-in-Searches-clause-turn
returns-in-Searches-clause-turn g c = λ s text st told right. rw c.in-Ok.is (c.serve_search.ensures.turn s text st right)

pub returns-in-Searches-clause-kept : goal.returns-in-Searches-clause-kept
returns-in-Searches-clause-kept g c = rw c.in-Ok.is (kept_bodyless _ c.serve_search.ensures.kept)

pub returns-in-Games-clause-turn : goal.returns-in-Games-clause-turn
returns-in-Games-clause-turn g c = λ s text st told right. rw c.in-Ok.is (c.serve_demo.ensures.turn s text st right)

pub returns-in-Games-clause-kept : goal.returns-in-Games-clause-kept
returns-in-Games-clause-kept g c = rw c.in-Ok.is (kept_bodyless _ c.serve_demo.ensures.kept)

pub returns-in-Lines-clause-turn : goal.returns-in-Lines-clause-turn
returns-in-Lines-clause-turn g c = λ s text st told right. rw c.in-Ok.is (c.serve_line.ensures.turn (g.F.Files.seen c.args.files.now) s text st right)

pub returns-in-Lines-clause-kept : goal.returns-in-Lines-clause-kept
returns-in-Lines-clause-kept g c = rw c.in-Ok.is (c.serve_line.ensures.kept (g.F.Files.seen c.args.files.now) (g.F.Files.asked c.args.files.now) (g.F.Files.faults c.args.files.now) (g.B.Source.faults c.args.body.now) c.requires.sound)

pub returns-in-Edits-clause-turn : goal.returns-in-Edits-clause-turn
returns-in-Edits-clause-turn g c = λ s text st told right. rw c.in-Ok.is (c.serve_edit.ensures.turn s text st told right)

pub returns-in-Edits-clause-kept : goal.returns-in-Edits-clause-kept
returns-in-Edits-clause-kept g c = rw c.in-Ok.is c.serve_edit.ensures.kept

pub returns-in-Marks-clause-turn : goal.returns-in-Marks-clause-turn
returns-in-Marks-clause-turn g c = λ s text st told right.
    rw c.in-Ok.is (turn_unshown c.in-Ok.command text (ap is_unshown (sym c.in-Marks.ensures.part)) right (c.write_mark.ensures.serves c.args.window (g.F.Files.seen c.args.files.now) s text st))

pub returns-in-Marks-clause-kept : goal.returns-in-Marks-clause-kept
returns-in-Marks-clause-kept g c = rw c.in-Ok.is (kept_unshown (c.write_mark.ensures.kept c.args.window (g.F.Files.seen c.args.files.now) (g.F.Files.asked c.args.files.now) (g.F.Files.faults c.args.files.now) (g.B.Source.faults c.args.body.now) c.requires.sound))

pub returns-in-Answers-clause-turn : goal.returns-in-Answers-clause-turn
returns-in-Answers-clause-turn g c = λ s text st told right.
    rw c.in-Ok.is (turn_unshown c.in-Ok.command text (ap is_unshown (sym c.in-Answers.ensures.part)) right (c.write_answer.ensures.serves c.args.window (g.F.Files.seen c.args.files.now) s text st))

pub returns-in-Answers-clause-kept : goal.returns-in-Answers-clause-kept
returns-in-Answers-clause-kept g c = rw c.in-Ok.is (kept_unshown (c.write_answer.ensures.kept c.args.window (g.F.Files.seen c.args.files.now) (g.F.Files.asked c.args.files.now) (g.F.Files.faults c.args.files.now) (g.B.Source.faults c.args.body.now) c.requires.sound))

pub returns-in-Texts-clause-turn : goal.returns-in-Texts-clause-turn
returns-in-Texts-clause-turn g c = λ s text st told right.
    rw c.in-Ok.is (turn_unshown c.in-Ok.command text (ap is_unshown (sym c.in-Texts.ensures.part)) right (c.write_text.ensures.serves c.args.window s text st told))

pub returns-in-Texts-clause-kept : goal.returns-in-Texts-clause-kept
returns-in-Texts-clause-kept g c = rw c.in-Ok.is (kept_unshown (c.write_text.ensures.kept c.args.window))

pub returns-in-Err-clause-turn : goal.returns-in-Err-clause-turn
returns-in-Err-clause-turn g c = λ s text st told right.
    rw c.in-Err.is
    (turn_by {t = task (Err c.in-Err.fault) text} (said_serves c.fault_line.result c.say.result c.args.machine.now (order_work c.args.window (Err c.in-Err.fault) text) (g.F.Files.seen c.args.files.now) s _ _ c.fault_line.ensures (on_ok _ c.fault_line.result st) c.say.ensures.said)
    (on_ok _ c.say.result (fault_done _ _ c.args.window s c.in-Err.fault text c.args.views.now right)) (λ i none. refl))

pub returns-in-Err-clause-kept : goal.returns-in-Err-clause-kept
returns-in-Err-clause-kept g c = rw c.in-Err.is (kept_writes _ _ _ _ _ _ _ _ refl refl (λ is. cc) (λ i other. refl) refl (on_ok _ c.say.result c.requires.sound) c.say.ensures.none_lost c.say.ensures.causes)

use Rattle.std.proofs.Common.{refl}
use Rattle.script_text.specs.declared.command.Command.TheVariants.{Demo}
use Rattle.search_commands.specs.Demo.{demo_work}
use Rattle.shell_commands.proofs.ShownLaws.{shown_behind}
use Rattle.shell_commands.proofs.TurnLaws.{causes_memory, kept_changes, kept_err, kept_then, turn_by, turn_shown}
use Rattle.shell_commands.proofs.ViewLaws.{not_games}
use Rattle.shell_commands.proofs.changes.serve_demo.Goals as goal
use Rattle.shell_state.proofs.CarryLaws.{if_err}

pub returns-in-Ok-clause-turn : goal.returns-in-Ok-clause-turn
returns-in-Ok-clause-turn g c = λ s text st right.
    let demo = Demo c.in-Demo.seed c.in-Demo.games in
    let done = c.in-Ok.ensures.serves s st in
    rw c.in-Demo.is
    (turn_shown demo text (not_games demo refl) done.stands right c.show_rows.ensures.updated
    (shown_behind c.show_rows.result c.demo.new.machine c.show_rows.new.machine (demo_work c.in-Demo.seed c.in-Demo.games) (g.F.Files.seen c.demo.new.files) s _ _ c.show_rows.ensures.updated.same c.show_rows.ensures.memory done))

pub returns-in-Ok-clause-kept : goal.returns-in-Ok-clause-kept
returns-in-Ok-clause-kept g c =
    rw c.in-Demo.is
    (kept_then _ _ _ _ _ _ _ _ (λ is. cc) (λ s text st. if_err c.show_rows.result _ tt)
    (kept_changes refl c.in-Ok.ensures.sound c.demo.ensures.carries (λ s text st. tt) (λ late. absurd cc) c.demo.ensures.choices tt c.demo.ensures.asks c.demo.ensures.none_lost c.in-Ok.ensures.causes)
    c.show_rows.ensures.updated.same c.show_rows.ensures.updated.others c.show_rows.ensures.updated.number (λ told grew. grew) (causes_memory c.show_rows.result 0 0 _ c.show_rows.ensures.memory))

pub returns-in-Err-clause-turn : goal.returns-in-Err-clause-turn
returns-in-Err-clause-turn g c = λ s text st right. rw c.in-Demo.is (turn_by (c.in-Err.ensures.serves s st) tt (λ i none. refl))

pub returns-in-Err-clause-kept : goal.returns-in-Err-clause-kept
returns-in-Err-clause-kept g c =
    rw c.in-Demo.is
    (kept_err (kept_changes refl tt c.demo.ensures.carries (λ s text st. tt) (λ late. absurd cc) c.demo.ensures.choices tt c.demo.ensures.asks c.demo.ensures.none_lost c.in-Err.ensures.causes))

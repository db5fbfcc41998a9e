use Rattle.std.proofs.Common.{refl, ◌∙◌}
use Rattle.shell_commands.proofs.ShownLaws.{said_ok, said_serves}
use Rattle.shell_commands.proofs.TurnLaws.{causes_silent, kept_reads, kept_writes, turn_by}
use Rattle.shell_commands.proofs.ViewLaws.{not_named, unwatch_left, unwatched, view_done, watch_done, watch_left}
use Rattle.shell_commands.proofs.slots.serve_slot.Goals as goal
use Rattle.shell_state.proofs.Causing.{causes_write, unsaid_without}
use Rattle.shell_state.proofs.Served.{line_serves, on_ok, search_cuts}
use Rattle.view_commands.specs.Views.{unwatch_work, view_work, watch_work}

pub returns-in-Ok-clause-turn : goal.returns-in-Ok-clause-turn
returns-in-Ok-clause-turn g c = λ s text st right.
    rw c.in-Watch.is
    (turn_by
    (line_serves c.write_line.result c.watch.new.machine (watch_work c.args.window c.in-Watch.number c.in-Watch.board c.in-Watch.side) c.as_slice.result.now (g.F.Files.seen c.watch.new.files) s _ _
    (c.in-Ok.ensures.stands s st right) (c.as_slice.ensures.value ∙ c.in-Ok.ensures.line s st right) c.write_line.ensures.written c.write_line.ensures.halted c.write_line.ensures.output)
    (on_ok _ c.write_line.result
    (watch_done _ _ c.args.window s c.in-Watch.number c.in-Watch.board c.in-Watch.side text c.args.views.now c.watch.new.views right (c.in-Ok.ensures.right s st right) (c.in-Ok.ensures.told s st right)))
    (watch_left c.args.window s c.in-Watch.number c.in-Watch.board c.in-Watch.side c.args.views.now c.watch.new.views c.watch.ensures.left))

pub returns-in-Ok-clause-kept : goal.returns-in-Ok-clause-kept
returns-in-Ok-clause-kept g c =
    rw c.in-Watch.is
    (kept_reads refl refl (λ is. cc) (λ i other. c.watch.ensures.left i (not_named c.args.window c.in-Watch.number i other)) c.watch.ensures.number (on_ok _ c.write_line.result c.in-Ok.ensures.sound) c.watch.ensures.unchanged
    (λ late. unsaid_without c.write_line.result 0 0 _ _ _ _ c.write_line.ensures.causes) c.watch.ensures.asks c.write_line.ensures.none_lost
    (causes_write c.write_line.result _ _ _ _ c.watch.ensures.causes.none_fell.files c.write_line.ensures.causes))

pub returns-in-Err-clause-turn : goal.returns-in-Err-clause-turn
returns-in-Err-clause-turn g c = λ s text st right.
    rw c.in-Watch.is
    (turn_by (search_cuts c.in-Err.halt s (watch_work c.args.window c.in-Watch.number c.in-Watch.board c.in-Watch.side) _ _ refl refl (c.in-Err.ensures.devices s st)) tt
    (watch_left c.args.window s c.in-Watch.number c.in-Watch.board c.in-Watch.side c.args.views.now c.watch.new.views c.watch.ensures.left))

pub returns-in-Err-clause-kept : goal.returns-in-Err-clause-kept
returns-in-Err-clause-kept g c =
    rw c.in-Watch.is
    (kept_reads refl refl (λ is. cc) (λ i other. c.watch.ensures.left i (not_named c.args.window c.in-Watch.number i other)) c.watch.ensures.number tt c.watch.ensures.unchanged (λ late is. refl) c.watch.ensures.asks (λ told grew. grew)
    (causes_silent _ _ _ 0 0 _ (record { none_fell = c.in-Err.ensures.causes.none_fell; why = c.in-Err.ensures.causes.why })))

pub returns-in-View-clause-turn : goal.returns-in-View-clause-turn
returns-in-View-clause-turn g c = λ s text st right.
    let seen = g.F.Files.seen c.args.files.now in
    rw c.in-View.is
    (turn_by (said_serves c.view.result c.say.result c.args.machine.now (view_work c.args.window c.in-View.number) seen s _ _ (c.view.ensures.text seen s st right) (on_ok _ c.view.result st) c.say.ensures.said)
    (on_ok _ c.say.result (view_done _ _ c.args.window s c.in-View.number text c.args.views.now right)) (λ i none. refl))

pub returns-in-View-clause-kept : goal.returns-in-View-clause-kept
returns-in-View-clause-kept g c =
    rw c.in-View.is (kept_writes _ _ _ 0 _ _ _ _ refl refl (λ is. cc) (λ i other. refl) refl (on_ok _ c.say.result c.requires.sound) c.say.ensures.none_lost c.say.ensures.causes)

pub returns-in-Unwatch-clause-turn : goal.returns-in-Unwatch-clause-turn
returns-in-Unwatch-clause-turn g c = λ s text st right.
    let seen = g.F.Files.seen c.args.files.now in
    rw c.in-Unwatch.is
    (turn_by
    (said_serves c.unwatch.result c.say-in-Unwatch.result c.unwatch.new.machine (unwatch_work c.args.window c.in-Unwatch.number) seen s _ _ (c.unwatch.ensures.line seen s st) (c.unwatch.ensures.stands seen s st) c.say-in-Unwatch.ensures.said)
    (said_ok _ c.unwatch.result c.say-in-Unwatch.result _ _ c.say-in-Unwatch.ensures.said
    (unwatched c.unwatch.result _ _ c.args.window s c.in-Unwatch.number text c.args.views.now c.unwatch.new.views (c.unwatch.ensures.right seen s st right) (c.unwatch.ensures.told seen s st right)))
    (unwatch_left c.args.window s c.in-Unwatch.number c.args.views.now c.unwatch.new.views (c.unwatch.ensures.left seen s st)))

pub returns-in-Unwatch-clause-kept : goal.returns-in-Unwatch-clause-kept
returns-in-Unwatch-clause-kept g c =
    rw c.in-Unwatch.is
    (kept_writes _ _ _ 0 _ _ _ _ refl refl (λ is. cc) c.unwatch.ensures.others c.unwatch.ensures.number
    (said_ok _ c.unwatch.result c.say-in-Unwatch.result _ _ c.say-in-Unwatch.ensures.said (c.unwatch.ensures.sound _ c.requires.sound)) c.say-in-Unwatch.ensures.none_lost c.say-in-Unwatch.ensures.causes)

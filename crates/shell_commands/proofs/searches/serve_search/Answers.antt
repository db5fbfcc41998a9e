use Rattle.std.proofs.Common.{refl, sym, subst, ◌∙◌}
use Rattle.shell_commands.proofs.TurnLaws.{causes_memory, kept_err, kept_then, simple_of, settled_none, turn_by, turn_shown, updated_by}
use Rattle.shell_commands.proofs.ViewLaws.{not_searches, searches_late, searches_read}
use Rattle.shell_commands.proofs.searches.serve_search.Goals as goal
use Rattle.shell_commands.specs.Tasks.{command_work}
use Rattle.shell_state.proofs.CarryLaws.{if_err}
use Rattle.shell_state.proofs.Served.{on_ok, search_cuts}
use Rattle.shell_state.specs.Ends.{IsDevice}
use Rattle.shell_state.specs.Stands.{Holding, Stands}
use Rattle.shell_state.specs.declared.halt.Halt.{Halt}

pub returns-in-Err-clause-turn : goal.returns-in-Err-clause-turn
returns-in-Err-clause-turn g c = λ s text st right.
    let command = c.args.command.now in
    turn_by (search_cuts c.in-Err.halt s (command_work c.args.window command text) _ _ (searches_read c.args.window command text c.requires.command.is) (searches_late c.args.window command text c.requires.command.is) (c.in-Err.ensures.devices s st)) tt (λ i none. refl)

pub returns-in-Err-clause-kept : goal.returns-in-Err-clause-kept
returns-in-Err-clause-kept g c = kept_err (c.in-Err.ensures.kept c.args.window (g.K.Sink.taken c.args.out.now) (g.K.Sink.faults c.args.out.now))

pub show_rows-requires-clause-fits : goal.show_rows-requires-clause-fits
show_rows-requires-clause-fits g c = let kept = c.in-Ok.ensures.kept c.args.window (g.K.Sink.taken c.args.out.now) (g.K.Sink.faults c.args.out.now) in record { filters = kept.sound.fits; tables = kept.sound.tables }

pub returns-in-Ok-show_rows-clause-turn : goal.returns-in-Ok-show_rows-clause-turn
returns-in-Ok-show_rows-clause-turn g c = λ s text st right.
    let command = c.args.command.now in
    let seen = g.F.Files.seen c.search_games.new.files in
    let later = c.in-Ok.ensures.stands c.args.window s text st in
    let same = c.in-Ok-show_rows.ensures.updated.same in
    turn_shown command text (not_searches command c.requires.command.is) later right (updated_by c.in-Ok-show_rows.ensures.updated (on_ok _ c.write_found.result c.write_found.ensures.same))
    (c.write_found.ensures.serves c.args.window seen s text (subst (λ (h : Holding). Stands h seen ((command_work c.args.window command text).after s)) (sym same) later))

pub returns-in-Ok-show_rows-clause-kept : goal.returns-in-Ok-show_rows-clause-kept
returns-in-Ok-show_rows-clause-kept g c =
    let plain = simple_of c.args.command.now _ c.requires.command.is refl in
    kept_then _ _ _ _ _ _ _ _ plain.export (λ s text st. if_err c.write_found.result _ (settled_none _ plain.left))
    (c.in-Ok.ensures.kept c.args.window (g.K.Sink.taken c.args.out.now) (g.K.Sink.faults c.args.out.now)) (on_ok _ c.write_found.result (c.write_found.ensures.same ∙ c.in-Ok-show_rows.ensures.updated.same)) c.show_rows.ensures.updated.others c.show_rows.ensures.updated.number
    c.write_found.ensures.none_lost c.write_found.ensures.causes

pub returns-in-Err-show_rows-clause-turn : goal.returns-in-Err-show_rows-clause-turn
returns-in-Err-show_rows-clause-turn g c = λ s text st right.
    let command = c.args.command.now in
    turn_shown command text (not_searches command c.requires.command.is) (c.in-Ok.ensures.stands c.args.window s text st) right c.in-Err-show_rows.ensures.updated
    (search_cuts _ s (command_work c.args.window command text) _ _ (searches_read c.args.window command text c.requires.command.is) (searches_late c.args.window command text c.requires.command.is)
    (subst (λ (h : Halt). IsDevice h) (sym c.in-Err-show_rows.ensures.memory) tt))

pub returns-in-Err-show_rows-clause-kept : goal.returns-in-Err-show_rows-clause-kept
returns-in-Err-show_rows-clause-kept g c =
    let plain = simple_of c.args.command.now _ c.requires.command.is refl in
    kept_then _ _ _ _ _ _ _ _ plain.export (λ s text st. settled_none _ plain.left) (c.in-Ok.ensures.kept c.args.window (g.K.Sink.taken c.args.out.now) (g.K.Sink.faults c.args.out.now)) tt c.in-Err-show_rows.ensures.updated.others
    c.in-Err-show_rows.ensures.updated.number (λ told grew. grew) (causes_memory _ 0 0 _ c.in-Err-show_rows.ensures.memory)

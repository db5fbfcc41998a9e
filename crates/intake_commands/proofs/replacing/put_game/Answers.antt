use Rattle.std.proofs.Common.{rules, None, ◌<◌, Err, [], ◌∷◌, length, refl, sym, ap, ◌∙◌, subst, arith}
use Rattle.std.specs.Prelude.{codes}
use Rattle.base_core.specs.Represents.{Kept}
use Rattle.pgn_read.specs.declared.item.Item.TheVariants as item
use Rattle.filter_seat.proofs.SavedLaws.{lent_items, all_long}
use Rattle.filter_seat.specs.SavedFilters.{kept_to_start}
use Rattle.intake_commands.proofs.AddLaws.{few_games, index_keeps, index_there, not_replaced_says, not_replaced_stands, one_among, replace_fits, replace_says, replace_stands, room_there, tables_put}
use Rattle.intake_commands.proofs.OneGameLaws.{not_put_device}
use Rattle.intake_commands.proofs.replacing.put_game.Given as given
use Rattle.intake_commands.proofs.replacing.put_game.Goals as goal
use Rattle.intake_commands.proofs.replacing.put_game.Goals.{After-replace_game-replaced}
use Rattle.intake_commands.specs.Importing.{state_with, the_one}
use Rattle.shell_state.proofs.AddingLaws.{placed_so, placed_there}
use Rattle.shell_state.proofs.CarryLaws.{carry_appended}
use Rattle.shell_state.proofs.EditedLaws.{carry_err, err_not_failed, not_failed, ok_by, ok_not_failed}
use Rattle.shell_state.proofs.Quietly.{if_err_so, held_by, if_ok, tables_with}
use Rattle.shell_state.proofs.TableLaws.{hits_fit}
use Rattle.shell_state.specs.Lines.{game_line}
use Rattle.shell_state.specs.Stands.{Holding, Sound, Stands}

-- What was held, and where the game stands in it.
module _ (g : given.Over) (c : After-replace_game-replaced g) where
  abbrev held : Kept → Holding
  held kept = held_by kept (tables_with c.machine.inside.index c.machine.inside.slots.watches) c.machine.inside.seat.filter c.machine.inside.seat.saved.items

  sound : Sound (held c.machine.inside.base) (g.F.Files.seen c.args.files.now)
  sound = subst (λ (h : Holding). Sound h (g.F.Files.seen c.args.files.now)) (sym c.machine.view_is) c.requires.sound

  there : c.args.i < length c.machine.inside.base.entries
  there = subst (λ (h : Holding). c.args.i < length h.kept.entries) (sym c.machine.view_is) c.requires.there

pub put_at_start-requires : goal.put_at_start-requires
put_at_start-requires g c =
    let called = (goal.at.put_at_start-requires g c).After-replace_game-replaced in
    let fits = (sound g called).fits in
    record {
      there = omega (arith, there g called, fits.filter);
      same_games = all_long c.machine.inside.seat.saved.items c.as_mut_slice.result.now c.machine.inside.seat.filter (length c.machine.inside.base.entries)
          c.as_mut_slice.ensures.value fits.filter fits.saved;
    }

pub replace_in_index-requires : goal.replace_in_index-requires
replace_in_index-requires g c =
    let called = (goal.at.replace_in_index-requires g c).After-replace_game-replaced in
    let games = length c.machine.inside.base.entries in
    record { there = index_there c.machine.inside.index c.args.i games (there g called) (sound g called).tables.index; legal = c.requires.fit.legal }

pub set_game-requires : goal.set_game-requires
set_game-requires g c =
    let called = (goal.at.set_game-requires g c).After-replace_game-replaced in
    let games = length c.machine.inside.base.entries in
    record {
      game = room_there c.args.i c.machine.inside.slots.watches games (there g called)
          (few_games c.replace_game-replaced.new.self games c.keeps_sound.ensures.sound c.replace_game-replaced.ensures.count) (sound g called).tables.hits;
    }

pub refused_line-requires : goal.refused_line-requires
refused_line-requires g c =
    let placed = placed_so c.in-Err.error c.machine.inside.base c.args.i _ _ c.in-Err.ensures.why (there g (goal.at.refused_line-requires g c).After-replace_game-replaced) in
    record { there = placed_there c.in-Err.error _ _ placed }

pub returns-in_err-replace_in_index-in-Ok-clause-carries : goal.returns-in_err-replace_in_index-in-Ok-clause-carries
returns-in_err-replace_in_index-in-Ok-clause-carries g c = λ s st. carry_appended c.args.machine.now _ _ _ s None c.in-Ok.ensures.appended st

pub returns-in_err-set_game-in-Ok-clause-carries : goal.returns-in_err-set_game-in-Ok-clause-carries
returns-in_err-set_game-in-Ok-clause-carries g c = λ s st. carry_appended c.args.machine.now _ _ _ s None c.in-Ok.ensures.appended st

pub returns-in_err-game_line-in-Ok-clause-carries : goal.returns-in_err-game_line-in-Ok-clause-carries
returns-in_err-game_line-in-Ok-clause-carries g c = λ s st. carry_appended c.args.machine.now _ _ _ s None c.in-Ok.ensures.appended st

pub returns-in_ok-game_line-in-Ok : goal.returns-in_ok-game_line-in-Ok
returns-in_ok-game_line-in-Ok g c =
    let called = (goal.at.returns-in_ok-game_line-in-Ok g c).After-replace_game-replaced in
    let before = sound g called in
    let machine = c.machine.inside in
    let base = c.replace_game-replaced.new.self in
    let games = length machine.base.entries in
    let tables = tables_with c.replace_in_index.new.index c.set_game.new.self.watches in
    let saved_is = lent_items (kept_to_start c.args.i) machine.seat.saved c.as_mut_slice.result.now c.put_at_start.new.saved c.as_mut_slice.ensures.value
    c.put_at_start.ensures.saved in
    let count = c.replace_game-replaced.ensures.count in
    let indexed = c.in_ok-replace_in_index-in-Ok.ensures.replaced in
    let watched = c.in_ok-set_game-in-Ok.ensures.watched in
    record {
      line = rw (sym c.machine.view_is)
          (λ s st. replace_says machine.base _ _ _ _ s c.args.i c.args.head.now c.args.game.now _ st c.in-Ok.ensures.room
          (c.in_ok-game_line-in-Ok.ensures ∙ ap (game_line (codes "replaced ")) c.from.ensures));
      stands = rw (sym c.machine.view_is)
          (λ s st. replace_stands machine.base base _ _ _ _ _ _ _ _ s c.args.i c.args.head.now c.args.game.now st before.at_end
          c.in-Ok.ensures.replaced c.in-Ok.ensures.room c.in-Ok.ensures.appended c.in-Ok.ensures.unsaved c.replace_game-replaced.ensures.names
          c.put_at_start.ensures.filter saved_is
          (tables_put _ _ s c.args.head.now c.args.game.now _ c.args.i c.hits_of-hits.result machine.slots.watches c.set_game.new.self.watches st (there g called)
          indexed refl c.set_game.ensures.number c.hits_of-hits.ensures.hits watched));
      devices = search rules;
      sound = record {
        tables = record {
          index = index_keeps machine.index c.replace_in_index.new.index c.args.i games (length base.entries) c.args.game.now indexed count before.tables.index;
          hits = hits_fit c.args.i c.hits_of-hits.result machine.slots.watches c.set_game.new.self.watches games (length base.entries)
              watched (one_among c.args.i games (length base.entries) (there g called) count) before.tables.hits;
        };
        fits = replace_fits machine.base base (tables_with machine.index machine.slots.watches) tables machine.seat.filter _ machine.seat.saved.items _ c.args.i count
            c.put_at_start.ensures.filter saved_is before.fits;
        base = c.keeps_sound.ensures.sound;
        at_end = c.replace_game-replaced.ensures.at_end (ok_not_failed _ _ c.in-Ok.is);
      };
      carries = λ s st. carry_appended c.args.machine.now _ _ _ s None c.in-Ok.ensures.appended st;
      choices = search rules;
      none_asked = search rules;
      causes = search rules;
    }

pub returns-in-Err : goal.returns-in-Err
returns-in-Err g c =
    let called = (goal.at.returns-in-Err g c).After-replace_game-replaced in
    let machine = c.machine.inside in
    let seen' = g.F.Files.seen c.replace_game-replaced.new.files in
    let placed = placed_so c.in-Err.error machine.base c.args.i _ _ c.in-Err.ensures.why (there g called) in
    record {
      line = rw (sym c.machine.view_is) (λ s st. if_ok _ _ c.refused_line.result
          (λ line ends. not_replaced_says machine.base _ _ _ _ s c.args.i c.args.head.now c.args.game.now c.in-Err.error line.items st placed ends)
          c.refused_line.ensures.line);
      stands = rw (sym c.machine.view_is) (λ s st. ok_by _ _ c.refused_line.result
          (λ line ends.
          let same = c.in-Err.ensures.none_added (err_not_failed (Err c.in-Err.error) c.in-Err.error refl (not_failed c.in-Err.error line.items ends)) in
          subst (λ (k : Kept). Stands (held g called k) seen' (state_with s c.args.i (the_one s.shared.base (item.Good c.args.head.now c.args.game.now ∷ []))))
          (sym c.in-Err.ensures.unchanged)
          (not_replaced_stands machine.base _ _ _ _ _ s c.args.i c.args.head.now c.args.game.now c.in-Err.error line.items st placed ends same)) c.refused_line.ensures.line);
      devices = if_err_so _ _ c.refused_line.result (λ halt ends. not_put_device c.in-Err.error halt _ _ placed ends) c.refused_line.ensures.halt;
      sound = search rules;
      carries = λ s st. carry_err c.in-Err.error (Err c.in-Err.error) c.args.machine.now _ _ s None refl c.in-Err.ensures.in_part c.in-Err.ensures.none_added st;
      choices = search rules;
      none_asked = search rules;
      causes = search rules;
    }

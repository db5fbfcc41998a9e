use Rattle.std.proofs.Common.{rules, ◌≡◌, ◌≤◌, ◌<◌, ◌+◌, ℕ, Err, length, refl, sym, ap, ◌∙◌, subst, None, arith}
use Rattle.std.specs.Prelude.{IfSome, codes}
use Rattle.base_core.specs.Represents.{Kept}
use Rattle.edit_commands.proofs.RetagLaws.{one_among, room_among}
use Rattle.edit_commands.proofs.TagLaws.{did_tag, refused_tag, refused_says, refused_stands, tag_price, tag_says, tag_stands}
use Rattle.edit_commands.proofs.tagging.set_tag.Given as given
use Rattle.edit_commands.proofs.tagging.set_tag.Goals as goal
use Rattle.edit_commands.proofs.tagging.set_tag.Goals.{After-set_tag-edited}
use Rattle.edit_commands.specs.Editing.{tag_after, tag_work}
use Rattle.pos_index.specs.Hits.{Index}
use Rattle.shell_state.proofs.CarryLaws.{carry_appended}
use Rattle.shell_state.proofs.EditedLaws.{fits_count, carry_err, err_not_failed, not_failed, ok_by, ok_not_failed}
use Rattle.shell_state.proofs.PassingLaws.{asked_at}
use Rattle.shell_state.proofs.Quietly.{held_by, if_ok, tables_with}
use Rattle.shell_state.proofs.TableLaws.{hits_fit}
use Rattle.shell_state.specs.Lines.{game_line}
use Rattle.shell_state.specs.Stands.{Asks, Holding, Sound, Stands, len_at}

-- What was held, where the game stands in it, and what was asked of the files.
module _ (g : given.Over) (c : After-set_tag-edited g) where
  abbrev held : Kept → Holding
  held kept = held_by kept (tables_with c.machine.inside.index c.machine.inside.slots.watches) c.machine.inside.seat.filter c.machine.inside.seat.saved.items

  sound : Sound (held c.machine.inside.base) (g.F.Files.seen c.args.files.now)
  sound = subst (λ (h : Holding). Sound h (g.F.Files.seen c.args.files.now)) (sym c.machine.view_is) c.requires.sound

  there : c.args.i < length c.machine.inside.base.entries
  there = subst (λ (h : Holding). c.args.i < length h.kept.entries) (sym c.machine.view_is) c.requires.there

  asked : Asks c.args.machine.now (tag_work c.args.i c.args.edit.now) (g.F.Files.asked c.args.files.now) (g.F.Files.asked c.set_tag-edited.new.files)
  asked =
      let P : Holding → Type 0 = λ h. g.F.Files.asked c.set_tag-edited.new.files ≤ g.F.Files.asked c.args.files.now + len_at h.kept.entries c.args.i in
      omega (arith, subst P c.machine.view_is (asked_at c.machine.inside.base.entries c.args.i _ _ there c.set_tag-edited.ensures.asks), tag_price c.args.machine.now c.args.i)

pub set_game-requires : goal.set_game-requires
set_game-requires g c =
    let called = (goal.at.set_game-requires g c).After-set_tag-edited in
    record { game = room_among c.machine.inside.base c.args.i c.machine.inside.slots.watches (sound g called).base (there g called) (sound g called).tables.hits }

pub returns-in_err-set_game-in-Ok-clause-carries : goal.returns-in_err-set_game-in-Ok-clause-carries
returns-in_err-set_game-in-Ok-clause-carries g c = λ s st. carry_appended c.args.machine.now _ _ _ s None c.in-Ok.ensures.edited.appended st

pub returns-in_err-game_line-in-Ok-clause-carries : goal.returns-in_err-game_line-in-Ok-clause-carries
returns-in_err-game_line-in-Ok-clause-carries g c = λ s st. carry_appended c.args.machine.now _ _ _ s None c.in-Ok.ensures.edited.appended st

pub returns-in_err-set_game-in-Ok-clause-asks : goal.returns-in_err-set_game-in-Ok-clause-asks
returns-in_err-set_game-in-Ok-clause-asks g c = asked g (goal.at.returns-in_err-set_game-in-Ok-clause-asks g c).After-set_tag-edited

pub returns-in_err-game_line-in-Ok-clause-asks : goal.returns-in_err-game_line-in-Ok-clause-asks
returns-in_err-game_line-in-Ok-clause-asks g c = asked g (goal.at.returns-in_err-game_line-in-Ok-clause-asks g c).After-set_tag-edited

pub returns-in_ok-game_line-in-Ok : goal.returns-in_ok-game_line-in-Ok
returns-in_ok-game_line-in-Ok g c =
    let called = (goal.at.returns-in_ok-game_line-in-Ok g c).After-set_tag-edited in
    let machine = c.machine.inside in
    let base = c.set_tag-edited.new.self in
    let edited = c.in-Ok.ensures.edited in
    let count = c.set_tag-edited.ensures.count in
    let watched = c.in_ok-set_game-in-Ok.ensures.watched in
    let line_is = c.in_ok-game_line-in-Ok.ensures ∙ ap (game_line (codes "tagged ")) c.from.ensures in
    record {
      line = rw (sym c.machine.view_is) (λ s st. tag_says machine.base base _ _ _ _ _ _ s c.args.i c.args.edit.now _ st (there g called) edited line_is);
      stands = rw (sym c.machine.view_is)
          (λ s st. tag_stands machine.base base machine.index machine.slots.watches c.set_game.new.self.watches c.retagged-hits.result _ _ _ _ _ s c.args.i
          c.args.edit.now st (there g called)
          edited c.in-Ok.ensures.tagged c.in-Ok.ensures.unsaved c.set_tag-edited.ensures.names c.set_game.ensures.number c.retagged-hits.ensures.hits watched);
      devices = search rules;
      sound = record {
        tables = record {
          index = subst (λ (n : ℕ). IfSome machine.index (λ (x : Index). length x.rows ≡ n)) (sym count) (sound g called).tables.index;
          hits = hits_fit c.args.i c.retagged-hits.result machine.slots.watches c.set_game.new.self.watches (length machine.base.entries) (length base.entries)
              watched (one_among c.args.i (length machine.base.entries) (length base.entries) (there g called) count) (sound g called).tables.hits;
        };
        fits = fits_count machine.base base (tables_with machine.index machine.slots.watches) _ _ count (sound g called).fits;
        base = c.keeps_sound.ensures.sound;
        at_end = c.set_tag-edited.ensures.at_end (ok_not_failed _ _ c.in-Ok.is);
      };
      carries = λ s st. carry_appended c.args.machine.now _ _ _ s None edited.appended st;
      choices = search rules;
      tagged = rw (sym c.machine.view_is) (did_tag c.args.i c.args.edit.now machine.base base _ _ _ _ line_is edited);
      asks = asked g called;
      causes = search rules;
    }

pub returns-in-Err : goal.returns-in-Err
returns-in-Err g c =
    let called = (goal.at.returns-in-Err g c).After-set_tag-edited in
    let machine = c.machine.inside in
    let seen' = g.F.Files.seen c.set_tag-edited.new.files in
    let why = c.in-Err.ensures.why in
    record {
      line = rw (sym c.machine.view_is) (λ s st. if_ok _ _ c.refused_line.result
          (λ line ends. refused_says machine.base _ _ _ _ s c.args.i c.args.edit.now c.in-Err.error _ line.items st (there g called) why ends) c.refused_line.ensures.line);
      stands = rw (sym c.machine.view_is) (λ s st. ok_by _ _ c.refused_line.result
          (λ line ends.
          let same = c.in-Err.ensures.none_added (err_not_failed (Err c.in-Err.error) c.in-Err.error refl (not_failed c.in-Err.error line.items ends)) in
          subst (λ (k : Kept). Stands (held g called k) seen' (tag_after s c.args.i c.args.edit.now)) (sym c.in-Err.ensures.unchanged)
          (refused_stands machine.base _ _ _ _ seen' s c.args.i c.args.edit.now c.in-Err.error _ line.items st (there g called) why ends same)) c.refused_line.ensures.line);
      devices = search rules;
      sound = search rules;
      carries = λ s st. carry_err c.in-Err.error (Err c.in-Err.error) c.args.machine.now _ _ s None refl c.in-Err.ensures.in_part c.in-Err.ensures.none_added st;
      choices = search rules;
      tagged = rw (sym c.machine.view_is) (if_ok _ _ c.refused_line.result
          (λ line ends. refused_tag c.args.i c.args.edit.now machine.base c.set_tag-edited.new.self _ _ c.in-Err.error line.items ends c.in-Err.ensures.unchanged)
          c.refused_line.ensures.line);
      asks = asked g called;
      causes = search rules;
    }

use Rattle.std.proofs.Common.{None, Err, length, refl, sym, subst, ◌≡◌, ◌+◌, ◌∙◌, ap, ℕ, false, true}
use Rattle.std.specs.Vec.{with_items}
use Rattle.filter_seat.proofs.SavedLaws.{lent_items}
use Rattle.filter_seat.specs.SavedFilters.{without_last}
use Rattle.shell_state.specs.Refusing.{index_is_full}
use Rattle.shell_state.proofs.AddingLaws.{few_before, index_grows, add_fits, filter_short, game_added, index_last, one_behind, room_for, tables_grow}
use Rattle.shell_state.proofs.CarryLaws.{carry_appended, carry_of}
use Rattle.shell_state.proofs.EditedLaws.{carry_err, ok_not_failed}
use Rattle.shell_state.proofs.machine.Machine.add.Goals as goal
use Rattle.shell_state.proofs.TableLaws.{hits_fit}
use Rattle.shell_state.proofs.Quietly.{tables_with}
use Rattle.shell_state.specs.Stands.{Holding, Sound, Stands, Tables, depth_of}

pub add_to_index-requires : goal.add_to_index-requires
add_to_index-requires g c =
    let sound = subst (λ (h : Holding). Sound h (g.F.Files.seen c.args.files.now)) (sym c.self.view_is) c.requires.sound in
    let roomy : index_is_full (depth_of c.self.inside.index) (length c.self.inside.base.entries + 1) ≡ false =
    subst (λ (h : Holding). index_is_full (depth_of h.tables.index) (length h.kept.entries + 1) ≡ false) (sym c.self.view_is) (sym c.index_is_full.ensures.full ∙ c.if-index_is_full.false) in
    record {
      last = index_last c.self.inside.index (length c.self.inside.base.entries) c.in-Ok.number c.in-Ok.ensures.number sound.tables.index;
      room = ap (λ (n : ℕ). index_is_full (depth_of c.self.inside.index) (n + 1)) c.in-Ok.ensures.number ∙ roomy;
      legal = c.requires.legal;
    }

pub push-requires : goal.push-requires
push-requires g c =
    let sound = subst (λ (h : Holding). Sound h (g.F.Files.seen c.args.files.now)) (sym c.self.view_is) c.requires.sound in
    record { room = filter_short c.add-added.new.self c.self.inside.seat.filter (length c.self.inside.base.entries) c.keeps_sound.ensures.sound c.in-Ok.ensures.count sound.fits.filter }

pub returns-in_err-push-in-Ok-clause-carries : goal.returns-in_err-push-in-Ok-clause-carries
returns-in_err-push-in-Ok-clause-carries g c = λ s st. carry_appended c.args.self.now (g.F.Files.seen c.args.files.now) (g.F.Files.seen c.add-added.new.files) _ s None c.in-Ok.ensures.appended st

pub returns-in_err-leave_out-in-Ok-clause-carries : goal.returns-in_err-leave_out-in-Ok-clause-carries
returns-in_err-leave_out-in-Ok-clause-carries g c = λ s st. carry_appended c.args.self.now (g.F.Files.seen c.args.files.now) (g.F.Files.seen c.add-added.new.files) _ s None c.in-Ok.ensures.appended st

pub returns-in_err-add_to_index-in-Ok-clause-carries : goal.returns-in_err-add_to_index-in-Ok-clause-carries
returns-in_err-add_to_index-in-Ok-clause-carries g c = λ s st. carry_appended c.args.self.now (g.F.Files.seen c.args.files.now) (g.F.Files.seen c.add-added.new.files) _ s None c.in-Ok.ensures.appended st

pub returns-in_err-set_game-in-Ok-clause-carries : goal.returns-in_err-set_game-in-Ok-clause-carries
returns-in_err-set_game-in-Ok-clause-carries g c = λ s st. carry_appended c.args.self.now (g.F.Files.seen c.args.files.now) (g.F.Files.seen c.add-added.new.files) _ s None c.in-Ok.ensures.appended st

pub returns-in_ok-set_game-in-Ok-clause-carries : goal.returns-in_ok-set_game-in-Ok-clause-carries
returns-in_ok-set_game-in-Ok-clause-carries g c = λ s st. carry_appended c.args.self.now (g.F.Files.seen c.args.files.now) (g.F.Files.seen c.add-added.new.files) _ s None c.in-Ok.ensures.appended st

pub returns-after-refused-clause-carries : goal.returns-after-refused-clause-carries
returns-after-refused-clause-carries g c = λ s st.
    carry_err c.in-Err.error (Err c.in-Err.error) c.args.self.now (g.F.Files.seen c.args.files.now) (g.F.Files.seen c.add-added.new.files) s None refl c.in-Err.ensures.in_part c.in-Err.ensures.none_added st

pub set_game-requires : goal.set_game-requires
set_game-requires g c =
    let sound = subst (λ (h : Holding). Sound h (g.F.Files.seen c.args.files.now)) (sym c.self.view_is) c.requires.sound in
    record {
      game = room_for c.in-Ok.number c.self.inside.slots.watches (length c.self.inside.base.entries) c.in-Ok.ensures.number
          (few_before c.add-added.new.self (length c.self.inside.base.entries) c.keeps_sound.ensures.sound c.in-Ok.ensures.count) sound.tables.hits;
    }

pub returns-in_ok-set_game-in-Ok-clause-adds : goal.returns-in_ok-set_game-in-Ok-clause-adds
returns-in_ok-set_game-in-Ok-clause-adds g c = λ s st.
    let st' = subst (λ (h : Holding). Stands h (g.F.Files.seen c.args.files.now) s) (sym c.self.view_is) st in
    let sound = subst (λ (h : Holding). Sound h (g.F.Files.seen c.args.files.now)) (sym c.self.view_is) c.requires.sound in
    let roomy : index_is_full (depth_of c.self.inside.index) (length c.self.inside.base.entries + 1) ≡ false =
    subst (λ (h : Holding). index_is_full (depth_of h.tables.index) (length h.kept.entries + 1) ≡ false) (sym c.self.view_is) (sym c.index_is_full.ensures.full ∙ c.if-index_is_full.false) in
    let tables : Tables = tables_with c.self.inside.index c.self.inside.slots.watches in
    let tables' : Tables = tables_with c.add_to_index.new.index c.set_game.new.self.watches in
    game_added c.self.inside.base c.add-added.new.self tables tables' c.self.inside.seat.filter c.push.new.self c.self.inside.seat.saved.items (with_items c.self.inside.seat.saved c.leave_out.new.saved).items (g.F.Files.seen c.args.files.now) (g.F.Files.seen c.add-added.new.files) s c.args.head.now c.args.game.now c.in-Ok.number st' sound.at_end
    c.in-Ok.ensures.added c.in-Ok.ensures.room c.in-Ok.ensures.appended c.in-Ok.ensures.unsaved c.add-added.ensures.names c.in_ok-push-in-Ok.ensures.added
    (lent_items without_last c.self.inside.seat.saved c.as_mut_slice.result.now c.leave_out.new.saved c.as_mut_slice.ensures.value c.in_ok-leave_out-in-Ok.ensures.left_out)
    roomy
    (tables_grow _ _ s c.args.head.now c.args.game.now c.add_to_index.new.index c.in-Ok.number c.hits_of-hits.result c.self.inside.slots.watches c.set_game.new.self.watches st' c.in-Ok.ensures.number
    c.in_ok-add_to_index-in-Ok.ensures.added refl c.set_game.ensures.number c.hits_of-hits.ensures.hits c.in_ok-set_game-in-Ok.ensures.watched)
    c.in-Ok.ensures.number

pub returns-in_ok-set_game-in-Ok-clause-sound : goal.returns-in_ok-set_game-in-Ok-clause-sound
returns-in_ok-set_game-in-Ok-clause-sound g c =
    let sound = subst (λ (h : Holding). Sound h (g.F.Files.seen c.args.files.now)) (sym c.self.view_is) c.requires.sound in
    record {
      tables = record {
        index = index_grows c.self.inside.index c.add_to_index.new.index (length c.self.inside.base.entries) (length c.add-added.new.self.entries) c.args.game.now
            c.in_ok-add_to_index-in-Ok.ensures.added c.in-Ok.ensures.count sound.tables.index;
        hits = hits_fit c.in-Ok.number c.hits_of-hits.result c.self.inside.slots.watches c.set_game.new.self.watches (length c.self.inside.base.entries) (length c.add-added.new.self.entries)
            c.in_ok-set_game-in-Ok.ensures.watched (one_behind c.in-Ok.number (length c.self.inside.base.entries) (length c.add-added.new.self.entries) c.in-Ok.ensures.number c.in-Ok.ensures.count) sound.tables.hits;
      };
      fits = add_fits c.self.inside.base c.add-added.new.self (tables_with c.self.inside.index c.self.inside.slots.watches) (tables_with c.add_to_index.new.index c.set_game.new.self.watches) c.self.inside.seat.filter c.push.new.self c.self.inside.seat.saved.items (with_items c.self.inside.seat.saved c.leave_out.new.saved).items c.in-Ok.ensures.count c.in_ok-push-in-Ok.ensures.added
          (lent_items without_last c.self.inside.seat.saved c.as_mut_slice.result.now c.leave_out.new.saved c.as_mut_slice.ensures.value c.in_ok-leave_out-in-Ok.ensures.left_out) sound.fits;
      base = c.keeps_sound.ensures.sound;
      at_end = c.add-added.ensures.at_end (ok_not_failed _ _ c.in-Ok.is);
    }

pub returns-then-index_is_full-clause-carries : goal.returns-then-index_is_full-clause-carries
returns-then-index_is_full-clause-carries g c = λ s st. carry_of c.args.self.now (g.F.Files.seen c.args.files.now) s None st

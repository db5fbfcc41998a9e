use Rattle.std.proofs.Common.{rules, ◌≡◌, ℕ, List, length, map, Option, sym, ap, ◌∙◌, subst, Some, arith, option_map}
use Rattle.std.specs.Vec.{with_items}
use Rattle.base_core.specs.Compacted.{compacted}
use Rattle.base_core.specs.Represents.{Kept}
use Rattle.base_files.specs.Seen.{Seen}
use Rattle.compact_base.proofs.ListLaws.{numbers-long}
use Rattle.compact_base.specs.Compacting.{numbering}
use Rattle.game_filter.specs.Renumbering.{Numbering, renumbered}
use Rattle.edit_commands.proofs.CompactLaws.{AreMoved, compact_device, compact_fits, compact_price, compact_says, compact_stands, done_carry, done_so, fresh_carry, full_says, full_stands, refused_so, saved_moved, index_left_fits, index_long, slots_left_fit, slots_long}
use Rattle.edit_commands.proofs.compacting.compact_line.Given as given
use Rattle.edit_commands.proofs.compacting.compact_line.Goals as goal
use Rattle.edit_commands.proofs.compacting.compact_line.Goals.{After-compact-compacted, In-Ok}
use Rattle.edit_commands.specs.Compacting.{compact_after, compact_work}
use Rattle.filter_seat.proofs.SavedLaws.{all_long, lent_items}
use Rattle.filter_seat.specs.SavedFilters.{kept_renumbered}
use Rattle.edit_commands.specs.Indexed.{renumbered_index}
use Rattle.pos_index.specs.Hits.{Index}
use Rattle.std.specs.Prelude.{IfSome}
use Rattle.shell_state.proofs.EditedLaws.{ok_by}
use Rattle.shell_state.proofs.Quietly.{if_err_so, held_by, if_ok, tables_with}
use Rattle.shell_state.specs.Carrying.{StillCarry}
use Rattle.shell_state.specs.Slots.{HitTable, tables_in}
use Rattle.tree_live.specs.Slots.{in_slot}
use Rattle.shell_state.specs.State.{State}
use Rattle.shell_state.specs.Stands.{Asks, Holding, Sound, Stands}

-- What was held, what it stood for, and what was asked of the files.
module _ (g : given.Over) (c : After-compact-compacted g) where
  abbrev held : Kept → Holding
  held kept = held_by kept (tables_with c.machine.inside.index c.machine.inside.slots.watches) c.machine.inside.seat.filter c.machine.inside.seat.saved.items

  sound : Sound (held c.machine.inside.base) (g.F.Files.seen c.args.files.now)
  sound = subst (λ (h : Holding). Sound h (g.F.Files.seen c.args.files.now)) (sym c.machine.view_is) c.requires.sound

  asked : Asks c.args.machine.now compact_work (g.F.Files.asked c.args.files.now) (g.F.Files.asked c.compact-compacted.new.files)
  asked = rw (sym c.machine.view_is) (omega (arith, c.compact-compacted.ensures.asks, compact_price (held c.machine.inside.base)))

-- What holds once it is compacted.
module _ (g : given.Over) (c : In-Ok g) where
  all : length c.in-Ok.renumbering.to ≡ length c.machine.inside.base.entries
  all = ap (λ (r : Numbering). length r.to) c.in-Ok.ensures.numbers ∙ numbers-long c.machine.inside.base.entries

  carried : (s : State) → Stands c.args.machine.now (g.F.Files.seen c.args.files.now) s → StillCarry (g.F.Files.seen c.compact-compacted.new.files) s (Some compacted)
  carried = rw (sym c.machine.view_is) (λ s st.
      done_carry _ c.compact-compacted.new.base _ (g.F.Files.seen c.compact-compacted.new.files) s st c.in-Ok.ensures.committed c.in-Ok.ensures.means c.in-Ok.ensures.compacted)

pub returns-in-Err : goal.returns-in-Err
returns-in-Err g c =
    let machine = c.machine.inside in
    let called = (goal.at.returns-in-Err g c).After-compact-compacted in
    let seen' = g.F.Files.seen c.compact-compacted.new.files in
    let same : c.compact-compacted.new.base ≡ c.args.machine.now.kept = c.in-Err.ensures.unchanged ∙ ap (λ (h : Holding). h.kept) c.machine.view_is in
    record {
      line = rw (sym c.machine.view_is) (λ s st. if_ok _ _ c.uncompacted.result
          (λ line ends. full_says machine.base _ _ _ _ s c.in-Err.error _ _ line.items st c.in-Err.ensures.why ends) c.uncompacted.ensures.line);
      stands = rw (sym c.machine.view_is) (λ s st. ok_by _ _ c.uncompacted.result
          (λ line ends. subst (λ (k : Kept). Stands (held g called k) seen' (compact_after s)) (sym c.in-Err.ensures.unchanged)
          (full_stands machine.base _ _ _ _ _ s c.in-Err.error _ _ line.items st c.in-Err.ensures.unbegun c.in-Err.ensures.why ends)) c.uncompacted.ensures.line);
      devices = rw (sym c.machine.view_is) (λ s st. if_err_so _ _ c.uncompacted.result
          (λ halt ends. compact_device c.in-Err.error halt machine.base _ _ _ _ s st c.in-Err.ensures.same ends) c.uncompacted.ensures.halt);
      copied = if_ok _ _ c.uncompacted.result
          (λ line ends. refused_so c.args.machine.now.kept c.compact-compacted.new.base (g.F.Files.seen c.args.files.now) seen' c.in-Err.error line.items same ends)
          c.uncompacted.ensures.line;
      sound = search rules;
      carries = λ s st. fresh_carry c.args.machine.now (g.F.Files.seen c.args.files.now) seen' s (Some compacted) c.in-Err.ensures.left st;
      choices = ap (λ (s : Seen). s.choices) c.in-Err.ensures.left;
      asks = asked g called;
      causes = search rules;
    }

pub renumber_index-requires : goal.renumber_index-requires
renumber_index-requires g c =
    let at = goal.at.renumber_index-requires g c in
    let tables = (sound g at.After-compact-compacted).tables in
    record { rows = index_long c.in-Ok.renumbering.to (length c.machine.inside.base.entries) c.machine.inside.index (all g at.In-Ok) tables.index }

pub renumber-requires : goal.renumber-requires
renumber-requires g c =
    let at = goal.at.renumber-requires g c in
    let tables = (sound g at.After-compact-compacted).tables in
    record { same_games = slots_long c.in-Ok.renumbering.to (length c.machine.inside.base.entries) c.machine.inside.slots.watches (all g at.In-Ok) tables.hits }

pub renumber_all-requires : goal.renumber_all-requires
renumber_all-requires g c =
    let at = goal.at.renumber_all-requires g c in
    let fits = (sound g at.After-compact-compacted).fits in
    let saved = c.machine.inside.seat.saved.items in
    record {
      same_games = all g at.In-Ok ∙ sym fits.filter;
      saved_games = all_long saved c.as_mut_slice.result.now c.machine.inside.seat.filter (length c.machine.inside.base.entries) c.as_mut_slice.ensures.value
          fits.filter fits.saved;
    }

pub returns-in_err-renumber-in-Ok-clause-carries : goal.returns-in_err-renumber-in-Ok-clause-carries
returns-in_err-renumber-in-Ok-clause-carries g c = carried g (goal.at.returns-in_err-renumber-in-Ok-clause-carries g c).In-Ok

pub returns-in_err-compacted_line-in-Ok-clause-carries : goal.returns-in_err-compacted_line-in-Ok-clause-carries
returns-in_err-compacted_line-in-Ok-clause-carries g c = carried g (goal.at.returns-in_err-compacted_line-in-Ok-clause-carries g c).In-Ok

pub returns-in_ok-compacted_line-in-Ok : goal.returns-in_ok-compacted_line-in-Ok
returns-in_ok-compacted_line-in-Ok g c =
    let called = (goal.at.returns-in_ok-compacted_line-in-Ok g c).After-compact-compacted in
    let done = (goal.at.returns-in_ok-compacted_line-in-Ok g c).In-Ok in
    let machine = c.machine.inside in
    let before = sound g called in
    let games = length machine.base.entries in
    let base = c.compact-compacted.new.base in
    let watches = c.renumber.new.self.watches in
    let watched = c.in_ok-renumber-in-Ok.ensures.watched in
    let saved = (with_items machine.seat.saved c.renumber_all.new.saved).items in
    let to = c.in-Ok.renumbering.to in
    let kept = c.in-Ok.renumbering.kept in
    let to_is : to ≡ (numbering machine.base.entries).to = ap (λ (r : Numbering). r.to) c.in-Ok.ensures.numbers in
    let kept_is : kept ≡ (numbering machine.base.entries).kept = ap (λ (r : Numbering). r.kept) c.in-Ok.ensures.numbers in
    let count : length base.entries ≡ kept = c.in-Ok.ensures.count ∙ sym kept_is in
    let rises = c.renumber_all.ensures.rises in
    let moved : saved ≡ map (kept_renumbered to) machine.seat.saved.items =
    lent_items (kept_renumbered to) machine.seat.saved c.as_mut_slice.result.now c.renumber_all.new.saved c.as_mut_slice.ensures.value c.renumber_all.ensures.saved in
    let seen' = g.F.Files.seen c.compact-compacted.new.files in
    let index_fits = index_left_fits to kept games machine.index rises (all g done) before.tables.index in
    let hits_fit = slots_left_fit to kept games machine.slots.watches watches rises (all g done) watched before.tables.hits in
    let saved_fit = saved_moved to kept games machine.seat.saved.items rises (all g done) before.fits.saved in
    record {
      line = rw (sym c.machine.view_is) (λ s st. compact_says machine.base _ _ _ _ s c.in_ok-compacted_line-in-Ok.field-0.items c.games-games.result c.kept.result st
          c.in-Ok.ensures.room (c.games-games.ensures.games ∙ ap (λ (h : Holding). length h.kept.entries) (sym c.machine.view_is)) (c.kept.ensures.kept ∙ kept_is)
          c.in_ok-compacted_line-in-Ok.ensures.line);
      stands = rw (sym c.machine.view_is) (λ s st.
          let P : List (Option ℕ) → Type 0 = λ n. Stands (held_by base (tables_with (option_map (renumbered_index n) machine.index) watches)
          (renumbered n machine.seat.filter) (map (kept_renumbered n) machine.seat.saved.items)) seen' (compact_after s) in
          rw (c.renumber_index.ensures.renumbered, c.renumber_all.ensures.filter, moved)
          (subst P (sym to_is)
          (compact_stands machine.base base machine.index machine.slots.watches watches machine.seat.filter machine.seat.saved.items _ seen' s st
          c.in-Ok.ensures.committed c.in-Ok.ensures.means c.in-Ok.ensures.compacted c.in-Ok.ensures.saved c.in-Ok.ensures.room
          (subst (λ (n : List (Option ℕ)). AreMoved n machine.slots.watches watches) to_is (c.renumber.ensures.number, watched)))));
      devices = search rules;
      copied = done_so c.args.machine.now machine.base base _ seen' c.games-games.result c.kept.result c.in_ok-compacted_line-in-Ok.field-0.items
          (ap (λ (h : Holding). h.kept) c.machine.view_is) c.games-games.ensures.games (c.kept.ensures.kept ∙ sym count) c.in_ok-compacted_line-in-Ok.ensures.line
          c.in-Ok.ensures.copied;
      sound = record {
        tables = record {
          index = rw c.renumber_index.ensures.renumbered (subst (λ (n : ℕ). IfSome (option_map (renumbered_index to) machine.index) (λ (x : Index). length x.rows ≡ n))
              (sym count) index_fits);
          hits = subst (λ (n : ℕ). (k : ℕ) → IfSome (in_slot (tables_in watches) k) (λ (table : HitTable). length table.hits ≡ n)) (sym count) hits_fit;
        };
        fits = compact_fits base (tables_with c.renumber_index.new.index watches) c.renumber_all.new.filter (map (kept_renumbered to) machine.seat.saved.items) saved
            kept count c.renumber_all.ensures.long moved saved_fit;
        base = c.keeps_sound.ensures.sound;
        at_end = c.compact-compacted.ensures.at_end;
      };
      carries = carried g done;
      choices = ap (λ (s : Seen). s.choices) c.in-Ok.ensures.committed.put;
      asks = asked g called;
      causes = search rules;
    }

pub returns-in_err-renumber-in-Ok-clause-asks : goal.returns-in_err-renumber-in-Ok-clause-asks
returns-in_err-renumber-in-Ok-clause-asks g c = asked g (goal.at.returns-in_err-renumber-in-Ok-clause-asks g c).After-compact-compacted

pub returns-in_err-compacted_line-in-Ok-clause-asks : goal.returns-in_err-compacted_line-in-Ok-clause-asks
returns-in_err-compacted_line-in-Ok-clause-asks g c = asked g (goal.at.returns-in_err-compacted_line-in-Ok-clause-asks g c).After-compact-compacted

pub returns-in_err-renumber-in-Ok-clause-choices : goal.returns-in_err-renumber-in-Ok-clause-choices
returns-in_err-renumber-in-Ok-clause-choices g c = ap (λ (s : Seen). s.choices) c.in-Ok.ensures.committed.put

pub returns-in_err-compacted_line-in-Ok-clause-choices : goal.returns-in_err-compacted_line-in-Ok-clause-choices
returns-in_err-compacted_line-in-Ok-clause-choices g c = ap (λ (s : Seen). s.choices) c.in-Ok.ensures.committed.put

use Rattle.std.proofs.Common.{rules, ◌≡◌, ◌+◌, ◌<◌, ℕ, false, List, Option, Some, length, ap, refl, sym, subst, ◌∙◌, arith}
use Rattle.std.specs.Prelude.{is_some}
use Rattle.cell_core.specs.Packed.{packed_of}
use Rattle.game_filter.specs.declared.op.Op.TheVariants.{Ignore}
use Rattle.pos_index.specs.Hits.{Index, IndexesAll, rows_told}
use Rattle.shell_state.proofs.IndexLaws.{indexes_all}
use Rattle.shell_state.proofs.Quietly.{end_stays, filter_is, held_by, tables_with}
use Rattle.shell_state.specs.Slots.{exactly, slot_at}
use Rattle.shell_state.specs.Slots.Slot.{empty, shows}
use Rattle.shell_state.specs.Stands.{Asks, Holding, Sound, Stands, Tables}
use Rattle.shell_state.specs.State.{State, games_of}
use Rattle.shell_state.proofs.PriceLaws.{position_price}
use Rattle.sig_index.specs.declared.pos_query.PosQuery.{PosQuery}
use Rattle.tree_live.specs.Slots.{Slotted, in_slot}
use Rattle.tree_live.specs.Watching.{Watched}
use Rattle.view_commands.specs.Views.{AreRight, own_slot, showing, shown_hits, watch_line, watch_work}
use Rattle.view_commands.proofs.HitLaws.{fits_with, new_hits, slots_count}
use Rattle.view_commands.proofs.PriceLaws.{price_of_all}
use Rattle.view_commands.proofs.SlotLaws.{IsSlotOf, empty_stays, from_count, held_below, held_line, held_shows, held_some, none_held, on_board, own_is, same_state, slot_counts, slot_own, slotted, watch_from, watch_is, watch_left, watch_right, watch_stands, watch_told}
use Rattle.view_commands.proofs.watching.watch.Given as given
use Rattle.view_commands.proofs.watching.watch.Goals as goal
use Rattle.view_commands.proofs.watching.watch.Goals.{After-holds, After-read_hits}

-- What holds of the slot that the number names, once it is looked up.
module _ (g : given.Over) (c : After-holds g) where
  abbrev held : List (Option Watched) → Holding
  held watches = held_by c.machine.inside.base (tables_with c.machine.inside.index watches) c.machine.inside.seat.filter c.machine.inside.seat.saved.items

  sound : Sound (held c.machine.inside.slots.watches) (g.F.Files.seen c.args.files.now)
  sound = subst (λ (h : Holding). Sound h (g.F.Files.seen c.args.files.now)) (sym c.machine.view_is) c.requires.sound

  named : IsSlotOf c.args.window c.args.number c.slot_of-k.result
  named = record { room = c.requires.room; slot = c.slot_of-k.ensures.slot; past = c.slot_of-k.ensures.past }

  module _ (s : State) (st : Stands c.args.machine.now (g.F.Files.seen c.args.files.now) s) where
    here : Stands (held c.machine.inside.slots.watches) (g.F.Files.seen c.args.files.now) s
    here = subst (λ (h : Holding). Stands h (g.F.Files.seen c.args.files.now) s) (sym c.machine.view_is) st

    eight : length s.slots ≡ 8
    eight = slots_count s c.machine.inside.slots.watches (ap (λ (t : Tables). t.hits) here.tables) ∙ c.holds.ensures.eight

    own : own_slot c.args.window s c.args.number ≡ slot_at s.slots c.slot_of-k.result
    own = own_is c.args.window s c.args.number c.slot_of-k.result named eight

    after : (watch_work c.args.window c.args.number c.args.board.now c.args.side).after s
        ≡ slotted s c.slot_of-k.result (showing (packed_of c.args.board.now c.args.side) (slot_at s.slots c.slot_of-k.result))
    after = watch_is c.args.window s c.args.number c.slot_of-k.result c.args.board.now c.args.side named eight

    -- Where it has no view it is empty, and the state stays.
    module _ (right : AreRight (λ b. (goal.TreeView-dyn g (b.vtable, b.value)).rows b.value) c.args.window s c.args.views.now) (bare : c.holds.result ≡ false) where
      none : slot_at s.slots c.slot_of-k.result ≡ empty
      none = none_held _ c.args.window s c.args.views.now c.args.number c.slot_of-k.result _ _ c.holds.result named c.machine.invariant.1.0 c.machine.invariant.1.1 eight right
          c.holds.ensures.holds bare

      stays : (watch_work c.args.window c.args.number c.args.board.now c.args.side).after s ≡ s
      stays = after ∙ same_state s c.slot_of-k.result _ (empty_stays (packed_of c.args.board.now c.args.side) _ none)

-- What was asked of the files.
asked : (g : given.Over) (c : After-read_hits g)
    → Asks c.args.machine.now (watch_work c.args.window c.args.number c.args.board.now c.args.side) (g.F.Files.asked c.args.files.now) (g.F.Files.asked c.read_hits.new.files)
asked g c =
    let machine = c.machine.inside in
    let filter = machine.seat.filter in
    let query : PosQuery = exactly c.args.board.now c.args.side in
    let fits = (subst (λ (h : Holding). Sound h (g.F.Files.seen c.args.files.now)) (sym c.machine.view_is) c.requires.sound).fits in
    let as-held = ap (λ (i : Option Index). price_of_all query (rows_told i) machine.base filter) c.as_ref-index.ensures.value in
    let price = position_price Ignore query filter (held_by machine.base (tables_with machine.index machine.slots.watches) filter machine.seat.saved.items) in
    rw (sym c.machine.view_is) (omega (arith, c.read_hits.ensures.asks filter fits.filter, as-held, price))

pub returns-then-not-holds-clause-line : goal.returns-then-not-holds-clause-line
returns-then-not-holds-clause-line g c = λ s st right.
    let looked = (goal.at.returns-then-not-holds-clause-line g c).After-holds in
    c.in_ok-game_line.ensures ∙ ap (watch_line c.args.number) (sym (own g looked s st ∙ none g looked s st right c.if-not-holds.true))

pub returns-then-not-holds-clause-stands : goal.returns-then-not-holds-clause-stands
returns-then-not-holds-clause-stands g c = λ s st right. rw (stays g (goal.at.returns-then-not-holds-clause-stands g c).After-holds s st right c.if-not-holds.true) st

pub returns-then-not-holds-clause-right : goal.returns-then-not-holds-clause-right
returns-then-not-holds-clause-right g c = λ s st right. rw (stays g (goal.at.returns-then-not-holds-clause-right g c).After-holds s st right c.if-not-holds.true) right

pub returns-in-Err-clause-asks : goal.returns-in-Err-clause-asks
returns-in-Err-clause-asks g c = asked g (goal.at.returns-in-Err-clause-asks g c).After-read_hits

pub returns-in_err-watch-clause-asks : goal.returns-in_err-watch-clause-asks
returns-in_err-watch-clause-asks g c = asked g (goal.at.returns-in_err-watch-clause-asks g c).After-read_hits

pub returns-in_err-game_line-2-clause-asks : goal.returns-in_err-game_line-2-clause-asks
returns-in_err-game_line-2-clause-asks g c = asked g (goal.at.returns-in_err-game_line-2-clause-asks g c).After-read_hits

-- Where it has a view, that is told the hits of the new tree.
pub returns : goal.returns
returns g c =
    let looked = (goal.at.returns g c).After-holds in
    let machine = c.machine.inside in
    let w = c.args.window in
    let number = c.args.number in
    let k = c.slot_of-k.result in
    let seen = g.F.Files.seen c.args.files.now in
    let watches' = c.watch.new.self.watches in
    let packed = c.pack-packed.ensures.packed in
    let watched = ap (λ (x : Slotted). x.watches) c.in_ok-watch.ensures.watched in
    let has = c.if-not-holds.false in
    let below : k < 8 = held_below k machine.slots.count c.holds.result _ c.machine.invariant.1.1 c.holds.ensures.holds has in
    let own_k = slot_own w number k (named g looked) below in
    let less = slot_counts w number k (named g looked) below in
    let at : machine.slots.first + k ≡ k = omega (arith, c.machine.invariant.1.0) in
    let place : machine.slots.first + k ≡ w.first + number = omega (arith, at, c.slot_of-k.ensures.slot less) in
    let viewed = ap (λ (n : ℕ). is_some (in_slot c.args.views.now n)) (sym at) ∙ held_some k machine.slots.count c.holds.result _ c.holds.ensures.holds has in
    let count = ap length c.as_slice.ensures.value ∙ c.in-Ok.ensures.number in
    let on = on_board c.args.board.now c.args.side c.pack-packed.result packed c.pack-packed.ensures.given_back in
    let read = λ (s : State) (st : Stands c.args.machine.now seen s).
    let st' = here g looked s st in
    let is = subst (λ (i : Option Index). IndexesAll i (games_of s)) (sym c.as_ref-index.ensures.value) (indexes_all _ _ s st') in
    c.as_slice.ensures.value ∙ c.in-Ok.ensures.hits st'.games s.shared.base st'.told st'.base is in
    let hits = λ (s : State) (st : Stands c.args.machine.now seen s).
    new_hits s _ c.pack-packed.result machine.seat.filter c.as_slice.result.now (read s st) on (filter_is (here g looked s st)) (count ∙ sym (sound g looked).fits.filter) in
    record {
      line = λ s st right. c.in_ok-game_line-2.ensures ∙ held_line _ s number _ _ (right k own_k) viewed ∙ ap (watch_line number) (sym (own g looked s st));
      stands = λ s st right. rw (c.read_hits.ensures.unchanged, after g looked s st)
          (watch_stands machine.base machine.index machine.slots.watches watches' machine.seat.filter machine.seat.saved.items seen s k c.pack-packed.result _ _
          c.as_slice.result.now (here g looked s st) watched
          (held_shows _ s _ _ _ (right k own_k) viewed ∙ ap shows (sym packed)) (read s st) on);
      right = λ s st right. rw (after g looked s st)
          (watch_right _ w s k _ c.pack-packed.result _ (watch_from c.pack-packed.result machine.seat.filter c.as_slice.result.now) machine.slots.watches watches'
          c.args.views.now c.watch.new.views right
          (held_shows _ s _ _ _ (right k own_k) viewed ∙ ap shows (sym packed)) (omega (arith, below, eight g looked s st))
          (omega (arith, below, c.holds.ensures.eight)) at (hits s st)
          watched c.in_ok-watch.ensures.here c.watch.ensures.others);
      told = λ s st right. watch_told _ w number _ _ (shown_hits s (packed_of c.args.board.now c.args.side)) c.args.views.now c.watch.new.views less place
          (hits s st ∙ ap (shown_hits s) packed) c.watch.ensures.told c.watch.ensures.others;
      left = watch_left w number _ c.args.views.now c.watch.new.views less place c.watch.ensures.others;
      number = search rules;
      devices = search rules;
      sound =
          let before = sound g looked in
          record {
            fits = before.fits;
            tables = record {
              index = before.tables.index;
              hits = fits_with machine.slots.watches watches' k (Some (watch_from c.pack-packed.result machine.seat.filter c.as_slice.result.now)) _ watched
                  (from_count c.pack-packed.result machine.seat.filter c.as_slice.result.now (count ∙ sym before.fits.filter) ∙ count) before.tables.hits;
            };
            base = before.base;
            at_end = end_stays refl c.read_hits.ensures.unchanged before.at_end;
          };
      unchanged = search rules;
      asks = asked g (goal.at.returns g c).After-read_hits;
      causes = search rules;
    }

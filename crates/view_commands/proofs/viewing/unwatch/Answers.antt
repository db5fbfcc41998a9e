use Rattle.std.proofs.Common.{rules, List, Option, length, ◌≡◌, ◌+◌, None, true, ap, sym, subst, ◌∙◌, arith}
use Rattle.base_files.specs.Seen.{Seen}
use Rattle.shell_state.proofs.Quietly.{held_by, if_ok, tables_with}
use Rattle.shell_state.proofs.Served.{on_ok}
use Rattle.shell_state.specs.Slots.{slot_at}
use Rattle.shell_state.specs.Stands.{Holding, Sound, Stands, Tables}
use Rattle.shell_state.specs.State.{State}
use Rattle.tree_live.specs.Slots.{Slotted, in_slot}
use Rattle.tree_live.specs.Watching.{Watched}
use Rattle.view_commands.specs.Views.{is_own, left, own_slot, unwatch_line, unwatch_work}
use Rattle.view_commands.proofs.HitLaws.{IsWatchOf, fits_with, slots_count, watches_of}
use Rattle.view_commands.proofs.SlotLaws.{IsSlotOf, left_empty, left_line, left_right, left_same, left_stands, no_left_line, own_is, shown_none, shown_own, shown_some, slot_own, slotted, some_below, stays_right, stays_standing, unwatch_is}
use Rattle.view_commands.proofs.viewing.unwatch.Given as given
use Rattle.view_commands.proofs.viewing.unwatch.Goals as goal
use Rattle.view_commands.proofs.viewing.unwatch.Goals.{After-unwatch, in-Ok, in-Err}

-- What holds of the slot that the number names.
module _ (g : given.Over) (c : After-unwatch g) where
  abbrev held : List (Option Watched) → Holding
  held watches = held_by c.machine.inside.base (tables_with c.machine.inside.index watches) c.machine.inside.seat.filter c.machine.inside.seat.saved.items

  named : IsSlotOf c.args.window c.args.number c.slot_of.result
  named = record { room = c.requires.room; slot = c.slot_of.ensures.slot; past = c.slot_of.ensures.past }

  module _ (seen : Seen) (s : State) (st : Stands c.args.machine.now seen s) where
    here : Stands (held c.machine.inside.slots.watches) seen s
    here = subst (λ (h : Holding). Stands h seen s) (sym c.machine.view_is) st

    eight : length s.slots ≡ 8
    eight = slots_count s c.machine.inside.slots.watches (ap (λ (t : Tables). t.hits) here.tables) ∙ c.unwatch.ensures.eight

    is : IsWatchOf s (slot_at s.slots c.slot_of.result) (in_slot c.machine.inside.slots.watches c.slot_of.result)
    is = watches_of s c.machine.inside.slots.watches (ap (λ (t : Tables). t.hits) here.tables) c.slot_of.result

    own : own_slot c.args.window s c.args.number ≡ slot_at s.slots c.slot_of.result
    own = own_is c.args.window s c.args.number c.slot_of.result named eight

    after : (unwatch_work c.args.window c.args.number).after s ≡ slotted s c.slot_of.result (left (slot_at s.slots c.slot_of.result))
    after = unwatch_is c.args.window s c.args.number c.slot_of.result named eight

pub returns : goal.returns
returns g c =
    let called = (goal.at.returns g c).After-unwatch in
    let machine = c.machine.inside in
    let watches = machine.slots.watches in
    let w = c.args.window in
    let number = c.args.number in
    let k = c.slot_of.result in
    let r = c.match-unwatch.result in
    elim c.match-unwatch.branch [
      | in-Ok b ↦
          let some = b.in-Ok.ensures.answer in
          let own_k = slot_own w number k (named g called) (some_below watches k c.unwatch.ensures.eight some) in
          let watched = ap (λ (x : Slotted). x.watches) b.in-Ok.ensures.watched in
          record {
            line = λ seen s st. rw b.result-is (if_ok _ _ b.game_line.result
                (λ line line_is. line_is ∙ left_line number _ (shown_some s _ _ (is g called seen s st) some) ∙ ap (unwatch_line number) (sym (own g called seen s st)))
                b.game_line.ensures);
            stands = λ seen s st. on_ok _ r (rw (after g called seen s st)
                (left_stands machine.base machine.index watches c.unwatch.new.self.watches machine.seat.filter machine.seat.saved.items seen s k
                (here g called seen s st) watched));
            right = λ seen s st right. on_ok _ r (rw (after g called seen s st)
                (left_right _ w s k (machine.slots.first + k) _ c.args.views.now c.unwatch.new.views right
                (left_empty _ (shown_some s _ _ (is g called seen s st) some)) (omega (arith, c.machine.invariant.1.0))
                b.in-Ok.ensures.gone c.unwatch.ensures.others));
            told = search rules;
            left = λ seen s st j not. c.unwatch.ensures.others j (λ e.
                let here : j ≡ k = omega (arith, e, c.machine.invariant.1.0) in
                shown_own w s k j own_k (shown_some s _ _ (is g called seen s st) some) here not);
            others = λ j not. c.unwatch.ensures.others j (λ e.
                let here : j ≡ k = omega (arith, e, c.machine.invariant.1.0) in
                let yes : is_own w j ≡ true = ap (is_own w) here ∙ own_k in
                absurd (cc (not, yes)));
            number = search rules;
            sound = rw (sym c.machine.view_is) (λ seen sound. on_ok _ r (record {
              fits = sound.fits;
              tables = record { index = sound.tables.index; hits = fits_with watches c.unwatch.new.self.watches k None _ watched tt sound.tables.hits };
              base = sound.base;
              at_end = sound.at_end;
            }));
          }
      | in-Err b ↦
          let none = b.in-Err.ensures.answer in
          let same = sym b.in-Err.ensures.unchanged in
          record {
            line = λ seen s st. rw b.result-is (if_ok _ _ b.game_line-in-Err.result
                (λ line line_is. line_is ∙ no_left_line number _ (shown_none s _ _ (is g called seen s st) none) ∙ ap (unwatch_line number) (sym (own g called seen s st)))
                b.game_line-in-Err.ensures);
            stands = λ seen s st. on_ok _ r (rw (after g called seen s st)
                (subst (λ (x : Slotted). Stands (held g called x.watches) seen (slotted s k (left (slot_at s.slots k)))) same
                (stays_standing _ seen s k _ (left_same _ (shown_none s _ _ (is g called seen s st) none)) (here g called seen s st))));
            right = λ seen s st right. on_ok _ r (rw (after g called seen s st)
                (stays_right _ w s k _ c.args.views.now c.unwatch.new.views (left_same _ (shown_none s _ _ (is g called seen s st) none)) b.in-Err.ensures.same_views right));
            told = search rules;
            left = λ seen s st j not. ap (λ views. in_slot views j) b.in-Err.ensures.same_views;
            others = λ j not. ap (λ views. in_slot views j) b.in-Err.ensures.same_views;
            number = search rules;
            sound = rw (sym c.machine.view_is) (λ seen sound. on_ok _ r (subst (λ (x : Slotted). Sound (held g called x.watches) seen) same sound));
          }
    ]

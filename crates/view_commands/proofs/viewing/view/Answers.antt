use Rattle.std.proofs.Common.{◌≡◌, None, refl, ap, sym, subst, ◌∙◌}
use Rattle.shell_state.proofs.Quietly.{if_ok}
use Rattle.shell_state.specs.Slots.{exactly_on, slot_at}
use Rattle.shell_state.specs.Slots.Slot.{shows}
use Rattle.shell_state.specs.Stands.{Holding, Stands, Tables}
use Rattle.tree_live.specs.Slots.{in_slot}
use Rattle.view_commands.specs.Views.{own_slot, shown_hits, view_text}
use Rattle.view_commands.proofs.HitLaws.{slots_count, watches_of}
use Rattle.view_commands.proofs.KeyLaws.{told_keys}
use Rattle.view_commands.proofs.SlotLaws.{IsSlotOf, board_none, board_shows, board_some, own_is, right_shown, shown_none, slot_own, some_below, view_none}
use Rattle.view_commands.proofs.viewing.view.Goals as goal

pub returns-in-Some : goal.returns-in-Some
returns-in-Some g c = record {
  text = λ seen s st right.
      let watches = c.machine.inside.slots.watches in
      let st' = subst (λ (h : Holding). Stands h seen s) (sym c.machine.view_is) st in
      let hits = ap (λ (t : Tables). t.hits) st'.tables in
      let w = c.args.window in
      let number = c.args.number in
      let k = c.slot_of-k.result in
      let board = c.in-Some.board.now in
      let of : IsSlotOf w number k = record { room = c.requires.room; slot = c.slot_of-k.ensures.slot; past = c.slot_of-k.ensures.past } in
      let own = slot_own w number k of (some_below watches k c.watched.ensures.eight (board_some board (in_slot watches k) c.in-Some.ensures.board)) in
      let here : slot_at s.slots k ≡ shows board = board_shows s (slot_at s.slots k) (in_slot watches k) board (watches_of s watches hits k) c.in-Some.ensures.board in
      let shown : own_slot w s number ≡ shows board = own_is w s number k of (slots_count s watches hits ∙ c.watched.ensures.eight) ∙ here in
      if_ok _ _ c.text_in.result (λ text is. is ∙ ap (view_text s number) (sym shown))
      (c.text_in.ensures.text (shown_hits s board) (told_keys c.machine.inside.base st'.games s.shared.base (exactly_on board) s.seat.filter st'.base refl)
      (right_shown _ s board (slot_at s.slots k) (in_slot c.args.views.now k) (right k own) here));
}

pub returns-in-None : goal.returns-in-None
returns-in-None g c = record {
  text = λ seen s st right.
      let watches = c.machine.inside.slots.watches in
      let st' = subst (λ (h : Holding). Stands h seen s) (sym c.machine.view_is) st in
      let hits = ap (λ (t : Tables). t.hits) st'.tables in
      let w = c.args.window in
      let number = c.args.number in
      let k = c.slot_of-k.result in
      let of : IsSlotOf w number k = record { room = c.requires.room; slot = c.slot_of-k.ensures.slot; past = c.slot_of-k.ensures.past } in
      let same : own_slot w s number ≡ slot_at s.slots k = own_is w s number k of (slots_count s watches hits ∙ c.watched.ensures.eight) in
      let none : in_slot watches k ≡ None = board_none (in_slot watches k) c.in-None.ensures.board in
      if_ok _ _ c.game_line.result
      (λ text is_line. is_line ∙ view_none s number (slot_at s.slots k) (shown_none s (slot_at s.slots k) (in_slot watches k) (watches_of s watches hits k) none) ∙ ap (view_text s number) (sym same)) c.game_line.ensures;
}

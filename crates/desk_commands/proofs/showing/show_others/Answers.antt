use Rattle.std.proofs.Common.{◌≡◌, ◌<◌, ℕ, List, arith, ap, length, refl, subst, sym, ◌∙◌}
use Rattle.script_lines.specs.Clients.{Clients}
use Rattle.shell_state.specs.Slots.{Slot, slot_at}
use Rattle.shell_state.specs.Stands.{Holding, Stands}
use Rattle.view_commands.specs.Views.{is_shown}
use Rattle.desk_commands.proofs.OwnLaws.{number_of}
use Rattle.desk_commands.proofs.ShowLaws.{shown_none, shown_step}
use Rattle.desk_commands.proofs.showing.show_others.Goals as goal
use Rattle.desk_commands.specs.Desk.{seen_by}
use Rattle.desk_commands.specs.Showing.{AreShownTo, but_one}
use Rattle.desk_commands.specs.Standing.{with_seat}

pub loop-client-init : goal.loop-client-init
loop-client-init g c = record {
  machine = refl;
  seats = refl;
  shown = λ seen d later stands same clients is_later right. shown_none (λ b. (goal.TreeView-dyn g (b.vtable, b.value)).rows b.value) (λ b. (goal.TreeView-dyn g (b.vtable, b.value)).told b.value) c.args.by d later c.args.views.now;
  left = λ seen d later stands same clients is_later i none. refl;
  number = refl;
  same = refl;
}

pub loop-client-preserved : goal.loop-client-preserved
loop-client-preserved g c =
    let inv = c.loop-client.invariant in
    let step = c.loop-client.client in
    let tagged = c.clients_of-number.ensures.number in
    let tag = c.is_tagged.ensures.tagged in
    let few : step < length c.args.seats.now = omega (arith, c.loop-client-test.true, tagged, ap number_of tag, c.requires.number) in
    record {
      machine = c.in_ok-show_next.ensures.machine ∙ inv.machine;
      seats = c.in_ok-show_next.ensures.seats ∙ inv.seats;
      shown = λ seen d later stands same clients is_later right.
          let here = subst (λ (h : Holding). Stands (with_seat h (seen_by later step).seat) seen (seen_by later step)) (sym inv.machine) (stands step) in
          let room : step < number_of d.clients.tagged = subst (λ (cl : Clients). step < number_of cl.tagged) clients (omega (arith, few, c.requires.number)) in
          shown_step (λ b. (goal.TreeView-dyn g (b.vtable, b.value)).rows b.value) (λ b. (goal.TreeView-dyn g (b.vtable, b.value)).told b.value) c.args.by step (length c.args.seats.now) d later c.args.views.now c.loop-client.views c.show_next.new.views is_later room few right (inv.shown seen d later stands same clients is_later right)
          c.show_next.ensures.passed (λ differ still. c.in_ok-show_next.ensures.shown seen d later differ here (inv.seats ∙ same) clients is_later still);
      left = λ seen d later stands same clients is_later i none.
          let here = subst (λ (h : Holding). Stands (with_seat h (seen_by later step).seat) seen (seen_by later step)) (sym inv.machine) (stands step) in
          c.show_next.ensures.left seen later here (inv.seats ∙ same) i (ap (λ (slots : List Slot). is_shown (slot_at slots i)) is_later.slots ∙ none) ∙ inv.left seen d later stands same clients is_later i none;
      number = c.show_next.ensures.number ∙ inv.number;
      same = c.show_next.ensures.same ∙ inv.same;
    }

pub returns-in_err-show_next-clause-left : goal.returns-in_err-show_next-clause-left
returns-in_err-show_next-clause-left g c = λ seen d later stands same clients is_later i none.
    let inv = c.loop-client.invariant in
    let step = c.loop-client.client in
    let here = subst (λ (h : Holding). Stands (with_seat h (seen_by later step).seat) seen (seen_by later step)) (sym inv.machine) (stands step) in
    c.show_next.ensures.left seen later here (inv.seats ∙ same) i (ap (λ (slots : List Slot). is_shown (slot_at slots i)) is_later.slots ∙ none) ∙ inv.left seen d later stands same clients is_later i none

pub returns-clause-shown : goal.returns-clause-shown
returns-clause-shown g c = λ seen d later stands same clients is_later right.
    let tag = ap number_of c.is_tagged.ensures.tagged in
    let all : c.loop-client.client ≡ length c.args.seats.now = omega (arith, c.loop-client-test.false, c.loop-client.auto.client-end, c.clients_of-number.ensures.number, tag, c.requires.number) in
    subst (λ (n : ℕ). AreShownTo (λ b. (goal.TreeView-dyn g (b.vtable, b.value)).rows b.value) (λ b. (goal.TreeView-dyn g (b.vtable, b.value)).told b.value) (but_one c.args.by n) d later c.args.views.now c.loop-client.views) all (c.loop-client.invariant.shown seen d later stands same clients is_later right)

use Rattle.std.proofs.Common.{◌≡◌, ◌&&◌, Bool, OnOk, ap, cond, length, subst, sym, ◌∙◌}
use Rattle.filter_seat.specs.Seats.{Seat}
use Rattle.script_lines.specs.Clients.{Clients}
use Rattle.shell_state.specs.Slots.{slot_at}
use Rattle.shell_state.specs.Stands.{Stands}
use Rattle.view_commands.specs.Views.{AreLeft, AreRight, AreToldAtMost, changes_of, is_own, is_shown}
use Rattle.view_commands.specs.declared.window.Window.{Window}
use Rattle.desk_commands.proofs.DeskLaws.{and_none}
use Rattle.desk_commands.proofs.ShowLaws.{fits_at, one_on_ok, seat_there, set_on_ok}
use Rattle.desk_commands.proofs.showing.show_next.Goals as goal
use Rattle.desk_commands.specs.Desk.{seen_by, window_of}
use Rattle.desk_commands.specs.Standing.{with_seat}

pub show_to-requires-clause-fits : goal.show_to-requires-clause-fits
show_to-requires-clause-fits g c = fits_at c.args.seats.now (length c.args.machine.now.kept.entries) c.args.client c.index-seats-place.result c.requires.there c.requires.fits

pub returns-clause-seats : goal.returns-clause-seats
returns-clause-seats g c = set_on_ok c.show_to.result c.args.seats.now c.args.client c.show_to.new.seat c.index-seats-place.result c.requires.there c.show_to.ensures.seat

pub returns-clause-shown : goal.returns-clause-shown
returns-clause-shown g c = λ seen d later differ st same clients is_later right.
    let client = c.args.client in
    let r = c.show_to.result in
    let after = c.show_to.new.views in
    let w : c.window_of.result ≡ window_of d.clients client = c.window_of.ensures.window ∙ ap (λ (cl : Clients). window_of cl client) clients in
    let here = subst (λ (s : Seat). Stands (with_seat c.args.machine.now s) seen (seen_by later client)) (seat_there later c.args.seats.now client c.index-seats-place.result c.requires.there same) st in
    let his = subst (λ (x : Window). AreRight (λ b. (goal.TreeView-dyn g (b.vtable, b.value)).rows b.value) x (seen_by d client) c.args.views.now) (sym w) right in
    one_on_ok r (λ b. (goal.TreeView-dyn g (b.vtable, b.value)).rows b.value) (λ b. (goal.TreeView-dyn g (b.vtable, b.value)).told b.value) client d later c.args.views.now after
    (subst (λ (x : Window). OnOk r (AreRight (λ b. (goal.TreeView-dyn g (b.vtable, b.value)).rows b.value) x (seen_by later client) after)) w (c.show_to.ensures.right seen (seen_by d client) (seen_by later client) here is_later.slots his))
    (subst (λ (x : Window). OnOk r (AreToldAtMost (λ b. (goal.TreeView-dyn g (b.vtable, b.value)).told b.value) (λ i. cond (is_own x i) (changes_of (seen_by d client) (seen_by later client) (slot_at later.slots i)) 0) c.args.views.now after)) w (c.show_to.ensures.told seen (seen_by d client) (seen_by later client) here is_later.slots his))
    (subst (λ (x : Window). AreLeft (is_own x) c.args.views.now after) w c.show_to.ensures.others)
    (subst (λ (x : Window). AreLeft (λ i. is_own x i && is_shown (slot_at later.slots i)) c.args.views.now after) w (c.show_to.ensures.left seen (seen_by later client) here))

pub returns-clause-left : goal.returns-clause-left
returns-clause-left g c = λ seen later st same i none.
    let client = c.args.client in
    let here = subst (λ (s : Seat). Stands (with_seat c.args.machine.now s) seen (seen_by later client)) (seat_there later c.args.seats.now client c.index-seats-place.result c.requires.there same) st in
    c.show_to.ensures.left seen (seen_by later client) here i (ap (λ (b : Bool). is_own c.window_of.result i && b) none ∙ and_none (is_own c.window_of.result i))

use Rattle.std.proofs.Common.{◌≡◌, ◌<◌, ◌≤◌, ℕ, List, None, length, subst}
use Rattle.filter_seat.specs.Seats.{Seat, first_seat}
use Rattle.script_lines.specs.Clients.{Clients}
use Rattle.script_text.specs.Tasks.{task}
use Rattle.shell_state.proofs.Served.{on_ok}
use Rattle.tree_live.specs.Slots.{in_slot}
use Rattle.desk_commands.proofs.DeskLaws.{all_shown_to, far_unshown, filters_within, held_on_ok, later_of, left_after, left_first, ok_right, ok_told, right_others}
use Rattle.desk_commands.proofs.OwnLaws.{number_of}
use Rattle.desk_commands.proofs.SeatedLaws.{fits_of, tables_of}
use Rattle.desk_commands.proofs.ServeLaws.{memory_broken, memory_causes}
use Rattle.desk_commands.proofs.serving.serve_by.Goals as goal
use Rattle.desk_commands.specs.Desk.{desk_by, seen_by, window_of}
use Rattle.desk_commands.specs.Standing.{DeskHolding, DeskSound, DeskStands, with_seat}

pub show_after-requires-clause-fits : goal.show_after-requires-clause-fits
show_after-requires-clause-fits g c = fits_of c.serve_seated.new.desk (g.F.Files.seen c.serve_seated.new.files) c.in-Ok.ensures.sound

pub show_after-requires-clause-tables : goal.show_after-requires-clause-tables
show_after-requires-clause-tables g c = tables_of c.serve_seated.new.desk (g.F.Files.seen c.serve_seated.new.files) c.args.client c.serve_seated.ensures.seated c.in-Ok.ensures.sound

pub returns-in-Ok-clause-stands : goal.returns-in-Ok-clause-stands
returns-in-Ok-clause-stands g c = λ d text st told right.
    let r = c.show_after.result in
    let held1 = c.serve_seated.new.desk in
    let held2 = c.show_after.new.desk in
    let seen' = g.F.Files.seen c.serve_seated.new.files in
    let t = task c.args.order.now text in
    let stands1 = c.in-Ok.ensures.stands d text st told right in
    let later = desk_by d c.args.client t in
    held_on_ok r held2 held1 (λ (h : DeskHolding). DeskStands h seen' later) c.show_after.ensures.same stands1

pub returns-in-Ok-clause-written : goal.returns-in-Ok-clause-written
returns-in-Ok-clause-written g c = λ d text st told right.
    let r = c.show_after.result in
    on_ok _ r (c.in-Ok.ensures.written d text st told right)

pub returns-in-Ok-clause-broken : goal.returns-in-Ok-clause-broken
returns-in-Ok-clause-broken g c = λ d text st told right.
    let r = c.show_after.result in
    let t = task c.args.order.now text in
    memory_broken r (window_of d.clients c.args.client) (seen_by d c.args.client) t _ _ _ c.show_after.ensures.memory

pub returns-in-Ok-clause-right : goal.returns-in-Ok-clause-right
returns-in-Ok-clause-right g c = λ d text st told right.
    let r = c.show_after.result in
    let held = c.args.desk.now in
    let seen = g.F.Files.seen c.args.files.now in
    let seen' = g.F.Files.seen c.serve_seated.new.files in
    let t = task c.args.order.now text in
    let before = c.args.views.now in
    let mid = c.serve_seated.new.views in
    let after = c.show_after.new.views in
    let there = subst (λ (l : List Seat). c.args.client < length l) st.seats c.serve_seated.ensures.there in
    let room = subst (λ (cl : Clients). c.args.client < number_of cl.tagged) st.clients c.serve_seated.ensures.room in
    let eight = subst (λ (h : DeskHolding). (i : ℕ) → 8 ≤ i → in_slot h.holding.tables.hits i ≡ None) c.desk.view_is c.keeps_eight.ensures.eight in
    let few = far_unshown (with_seat held.holding (first_seat 0)) seen _ (st.stands (first_seat 0)) eight in
    let stands1 = c.in-Ok.ensures.stands d text st told right in
    let later = desk_by d c.args.client t in
    let within = filters_within held seen d st (fits_of held seen c.requires.sound) in
    let shown = all_shown_to r (λ b. (goal.TreeView-dyn g (b.vtable, b.value)).rows b.value) (λ b. (goal.TreeView-dyn g (b.vtable, b.value)).told b.value) d c.args.client t before mid after there room right (c.in-Ok.ensures.views d text st told right) (c.serve_seated.ensures.left d text st told right) few within c.show_after.ensures.unseen
    (λ is. c.show_after.ensures.shown seen' d later is stands1 (later_of d c.args.client t is) (right_others (λ b. (goal.TreeView-dyn g (b.vtable, b.value)).rows b.value) d c.args.client t before mid room right (c.serve_seated.ensures.left d text st told right))) in
    ok_right r (λ b. (goal.TreeView-dyn g (b.vtable, b.value)).rows b.value) (λ b. (goal.TreeView-dyn g (b.vtable, b.value)).told b.value) d c.args.client t before mid after shown

pub returns-in-Ok-clause-counted : goal.returns-in-Ok-clause-counted
returns-in-Ok-clause-counted g c = λ d text st told right.
    let r = c.show_after.result in
    let held = c.args.desk.now in
    let seen = g.F.Files.seen c.args.files.now in
    let seen' = g.F.Files.seen c.serve_seated.new.files in
    let t = task c.args.order.now text in
    let before = c.args.views.now in
    let mid = c.serve_seated.new.views in
    let after = c.show_after.new.views in
    let there = subst (λ (l : List Seat). c.args.client < length l) st.seats c.serve_seated.ensures.there in
    let room = subst (λ (cl : Clients). c.args.client < number_of cl.tagged) st.clients c.serve_seated.ensures.room in
    let eight = subst (λ (h : DeskHolding). (i : ℕ) → 8 ≤ i → in_slot h.holding.tables.hits i ≡ None) c.desk.view_is c.keeps_eight.ensures.eight in
    let few = far_unshown (with_seat held.holding (first_seat 0)) seen _ (st.stands (first_seat 0)) eight in
    let stands1 = c.in-Ok.ensures.stands d text st told right in
    let later = desk_by d c.args.client t in
    let within = filters_within held seen d st (fits_of held seen c.requires.sound) in
    let shown = all_shown_to r (λ b. (goal.TreeView-dyn g (b.vtable, b.value)).rows b.value) (λ b. (goal.TreeView-dyn g (b.vtable, b.value)).told b.value) d c.args.client t before mid after there room right (c.in-Ok.ensures.views d text st told right) (c.serve_seated.ensures.left d text st told right) few within c.show_after.ensures.unseen
    (λ is. c.show_after.ensures.shown seen' d later is stands1 (later_of d c.args.client t is) (right_others (λ b. (goal.TreeView-dyn g (b.vtable, b.value)).rows b.value) d c.args.client t before mid room right (c.serve_seated.ensures.left d text st told right))) in
    ok_told r (λ b. (goal.TreeView-dyn g (b.vtable, b.value)).rows b.value) (λ b. (goal.TreeView-dyn g (b.vtable, b.value)).told b.value) d c.args.client t before mid after shown

pub returns-in-Ok-clause-left : goal.returns-in-Ok-clause-left
returns-in-Ok-clause-left g c = λ d text st told right.
    let seen' = g.F.Files.seen c.serve_seated.new.files in
    let t = task c.args.order.now text in
    let before = c.args.views.now in
    let mid = c.serve_seated.new.views in
    let after = c.show_after.new.views in
    let stands1 = c.in-Ok.ensures.stands d text st told right in
    let later = desk_by d c.args.client t in
    left_after d c.args.client t before mid after (c.serve_seated.ensures.left d text st told right) c.show_after.ensures.unseen (λ is. c.show_after.ensures.left seen' d later is stands1 (later_of d c.args.client t is))

pub returns-in-Ok-clause-sound : goal.returns-in-Ok-clause-sound
returns-in-Ok-clause-sound g c =
    let r = c.show_after.result in
    let held1 = c.serve_seated.new.desk in
    let held2 = c.show_after.new.desk in
    let seen' = g.F.Files.seen c.serve_seated.new.files in
    held_on_ok r held2 held1 (λ (h : DeskHolding). DeskSound h seen') c.show_after.ensures.same c.in-Ok.ensures.sound

pub returns-in-Ok-clause-causes : goal.returns-in-Ok-clause-causes
returns-in-Ok-clause-causes g c =
    let r = c.show_after.result in
    memory_causes r _ _ _ _ _ _ _ c.in-Ok.ensures.causes c.show_after.ensures.memory

pub returns-in-Err-clause-left : goal.returns-in-Err-clause-left
returns-in-Err-clause-left g c = λ d text st told right.
    let before = c.args.views.now in
    let mid = c.serve_seated.new.views in
    left_first d c.args.client c.args.order.now before mid (c.serve_seated.ensures.left d text st told right)

use Rattle.std.proofs.Common.{◌≡◌, ℕ, List, All, ap, ap₂, arith, length, subst, sym, ◌∙◌}
use Rattle.std.proofs.lemmas.List.{with_items_is}
use Rattle.filter_seat.specs.Seats.{FitsGames, Seat}
use Rattle.filter_seat.specs.declared.seat.Seat.{Seat as SeatStruct}
use Rattle.script_lines.specs.Clients.{Clients}
use Rattle.shell_state.specs.Stands.{Holding}
use Rattle.desk_commands.proofs.OwnLaws.{number_of}
use Rattle.desk_commands.proofs.serving.show_all.Goals as goal
use Rattle.desk_commands.specs.Desk.{seen_by}
use Rattle.desk_commands.specs.Showing.{AreRightTo, AreShownTo, but_one}
use Rattle.desk_commands.specs.Standing.{DeskHolding, DeskStands, seats_of}

pub show_others-requires-clause-fits : goal.show_others-requires-clause-fits
show_others-requires-clause-fits g c =
    subst (λ (l : List SeatStruct). All (λ (seat : Seat). FitsGames seat (length c.desk.inside.machine.kept.entries)) (seats_of l)) (sym c.as_mut_slice-seats.ensures.value)
    (subst (λ (h : DeskHolding). All (λ (seat : Seat). FitsGames seat (length h.holding.kept.entries)) h.seats) (sym c.desk.view_is) c.requires.fits)

pub returns-clause-same : goal.returns-clause-same
returns-clause-same g c =
    let long : length c.show_others.new.seats ≡ c.desk.inside.seats.len = omega (arith, c.show_others.ensures.same, c.as_mut_slice-seats.ensures.len) in
    ap₂ (λ (h : Holding) (l : List Seat). record { holding = h; seats = l; clients = c.desk.inside.clients }) c.in_ok-show_others.ensures.machine
    (ap (λ (l : List SeatStruct). seats_of l) (with_items_is c.desk.inside.seats c.show_others.new.seats long) ∙ (c.in_ok-show_others.ensures.seats ∙ ap (λ (l : List SeatStruct). seats_of l) c.as_mut_slice-seats.ensures.value))
    ∙ c.desk.view_is

pub returns-clause-shown : goal.returns-clause-shown
returns-clause-shown g c = λ seen d later st is_later right.
    let here = subst (λ (h : DeskHolding). DeskStands h seen later) (sym c.desk.view_is) st in
    let stands = λ (n : ℕ). here.stands (seen_by later n).seat in
    let same = ap (λ (l : List SeatStruct). seats_of l) c.as_mut_slice-seats.ensures.value ∙ here.seats in
    let clients = here.clients ∙ is_later.clients in
    let n : length c.as_mut_slice-seats.result.now ≡ number_of d.clients.tagged = ap (λ (l : List SeatStruct). length l) c.as_mut_slice-seats.ensures.value ∙ (c.desk.invariant.0 ∙ ap (λ (cl : Clients). number_of cl.tagged) clients) in
    subst (λ (k : ℕ). AreShownTo (λ b. (goal.TreeView-dyn g (b.vtable, b.value)).rows b.value) (λ b. (goal.TreeView-dyn g (b.vtable, b.value)).told b.value) (but_one c.args.client k) d later c.args.views.now c.show_others.new.views) n
    (c.in_ok-show_others.ensures.shown seen d later stands same clients is_later (subst (λ (k : ℕ). AreRightTo (λ b. (goal.TreeView-dyn g (b.vtable, b.value)).rows b.value) (but_one c.args.client k) d c.args.views.now) (sym n) right))

pub returns-clause-left : goal.returns-clause-left
returns-clause-left g c = λ seen d later st is_later.
    let here = subst (λ (h : DeskHolding). DeskStands h seen later) (sym c.desk.view_is) st in
    let stands = λ (n : ℕ). here.stands (seen_by later n).seat in
    let same = ap (λ (l : List SeatStruct). seats_of l) c.as_mut_slice-seats.ensures.value ∙ here.seats in
    let clients = here.clients ∙ is_later.clients in
    c.show_others.ensures.left seen d later stands same clients is_later

pub returns-in_err-show_others-clause-left : goal.returns-in_err-show_others-clause-left
returns-in_err-show_others-clause-left g c = λ seen d later st is_later.
    let here = subst (λ (h : DeskHolding). DeskStands h seen later) (sym c.desk.view_is) st in
    let stands = λ (n : ℕ). here.stands (seen_by later n).seat in
    let same = ap (λ (l : List SeatStruct). seats_of l) c.as_mut_slice-seats.ensures.value ∙ here.seats in
    let clients = here.clients ∙ is_later.clients in
    c.show_others.ensures.left seen d later stands same clients is_later

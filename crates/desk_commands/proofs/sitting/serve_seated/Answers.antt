use Rattle.std.proofs.Common.{rules, ◌≡◌, ◌<◌, List, ap, arith, get_or, length, refl, set, subst, sym, ◌∙◌}
use Rattle.std.proofs.lemmas.List.{length-map, length-set, with_items_is}
use Rattle.std.proofs.lemmas.Result.{err_from_is_err_and}
use Rattle.std.specs.Vec.{with_items}
use Rattle.command_runs.proofs.Joining.{halted_none}
use Rattle.filter_seat.specs.Seats.{first_seat}
use Rattle.filter_seat.specs.declared.seat.Seat.{Seat as SeatStruct}
use Rattle.script_lines.specs.Clients.{has_ended}
use Rattle.script_text.specs.Tasks.{task}
use Rattle.shell_commands.proofs.TaskLaws.{task_unsettled}
use Rattle.shell_commands.specs.Tasks.{order_left}
use Rattle.shell_state.proofs.CarryLaws.{carry_of}
use Rattle.shell_state.specs.Stands.{Holding, Stands}
use Rattle.view_commands.specs.Views.{AreRight}
use Rattle.desk_commands.proofs.OwnLaws.{number_of}
use Rattle.desk_commands.proofs.SitLaws.{Rises, Sits, others_fit, rises_sound, rises_stands, sits_now, sits_right, sits_sound, sits_stands}
use Rattle.desk_commands.proofs.sitting.serve_seated.Given as given
use Rattle.desk_commands.proofs.sitting.serve_seated.Goals as goal
use Rattle.desk_commands.proofs.sitting.serve_seated.Goals.{After-change_seats}
use Rattle.desk_commands.specs.Desk.{Desk, lines_to, own_tasks, seen_by, window_of}
use Rattle.desk_commands.specs.Standing.{DeskHolding, DeskSound, DeskStands, seat_of, seats_of}
use Rattle.desk_commands.specs.Views.{AllRight}

-- The client sits in the machine: what it stands for, and what is right for him.
module _ (g : given.Over) (c : After-change_seats g) where
  abbrev held : DeskHolding
  held = record { holding = c.desk.inside.machine; seats = seats_of c.desk.inside.seats.items; clients = c.desk.inside.clients }

  there : c.args.client < length c.desk.inside.seats.items
  there = c.desk.invariant.1 c.args.client (ap (λ (h : DeskHolding). has_ended h.clients c.args.client) c.desk.view_is ∙ c.requires.speaks)

  sits : Sits held c.args.client c.as_mut_slice-seats.result.now (set c.as_mut_slice-seats.result.now c.args.client c.change_seats.new.seat)
      (get_or c.as_mut_slice-seats.result.now c.args.client c.index-seats-place.result) c.change_seats.new.seat c.change_seats.new.machine
  sits = sits_now c.desk.inside.machine c.desk.inside.seats.items c.as_mut_slice-seats.result.now c.desk.inside.clients c.args.client c.index-seats-place.result
      c.change_seats.new.seat c.change_seats.new.machine
      c.as_mut_slice-seats.ensures.value there c.change_seats.ensures.machine

  sound : DeskSound held (g.F.Files.seen c.args.files.now)
  sound = subst (λ (h : DeskHolding). DeskSound h (g.F.Files.seen c.args.files.now)) (sym c.desk.view_is) c.requires.sound

  had : c.args.client < length c.args.desk.now.seats
  had = rw (sym c.desk.view_is) (omega (arith, there, length-map c.desk.inside.seats.items seat_of))

  -- He has a seat in as many as there were.
  seated : (seats : List SeatStruct) → length seats ≡ length c.as_mut_slice-seats.result.now → c.args.client < length (seats_of (with_items c.desk.inside.seats seats).items)
  seated seats same =
      rw (with_items_is c.desk.inside.seats seats (same ∙ c.as_mut_slice-seats.ensures.len))
      (omega (arith, there, same, ap length c.as_mut_slice-seats.ensures.value, length-map seats seat_of))

  module _ (d : Desk) (st : DeskStands c.args.desk.now (g.F.Files.seen c.args.files.now) d) where
    here : DeskStands held (g.F.Files.seen c.args.files.now) d
    here = subst (λ (h : DeskHolding). DeskStands h (g.F.Files.seen c.args.files.now) d) (sym c.desk.view_is) st

    stands : Stands c.change_seats.new.machine (g.F.Files.seen c.args.files.now) (seen_by d c.args.client)
    stands = sits_stands _ _ _ _ _ _ _ sits (g.F.Files.seen c.args.files.now) d here

    his : AllRight (λ b. (goal.TreeView-dyn g (b.vtable, b.value)).rows b.value) d c.args.views.now
        → AreRight (λ b. (goal.TreeView-dyn g (b.vtable, b.value)).rows b.value) (window_of c.desk.inside.clients c.args.client) (seen_by d c.args.client) c.args.views.now
    his right =
        let room : c.args.client < number_of c.desk.inside.clients.tagged = omega (arith, there, c.desk.invariant.0) in
        sits_right _ _ _ _ _ _ _ sits (λ b. (goal.TreeView-dyn g (b.vtable, b.value)).rows b.value) d c.desk.inside.clients c.args.views.now here.clients room right

pub serve_client-requires-clause-sound : goal.serve_client-requires-clause-sound
serve_client-requires-clause-sound g c =
    let called = (goal.at.serve_client-requires-clause-sound g c).After-change_seats in
    sits_sound _ _ _ _ _ _ _ (sits g called) (g.F.Files.seen c.args.files.now) (sound g called)

pub bring-requires-clause-fits_before : goal.bring-requires-clause-fits_before
bring-requires-clause-fits_before g c =
    let called = (goal.at.bring-requires-clause-fits_before g c).After-change_seats in
    rw c.in_ok-before.ensures.noted.games (others_fit _ _ _ _ _ _ _ (sits g called) (g.F.Files.seen c.args.files.now) (sound g called)).0

pub bring-requires-clause-fits_behind : goal.bring-requires-clause-fits_behind
bring-requires-clause-fits_behind g c =
    let called = (goal.at.bring-requires-clause-fits_behind g c).After-change_seats in
    rw c.in_ok-before.ensures.noted.games (others_fit _ _ _ _ _ _ _ (sits g called) (g.F.Files.seen c.args.files.now) (sound g called)).1

pub returns-in_err-before-clause-halted : goal.returns-in_err-before-clause-halted
returns-in_err-before-clause-halted g c = λ d text st told right.
    halted_none (lines_to d.clients c.args.client ((own_tasks d c.args.client).text (seen_by d c.args.client) (task c.args.order.now text))) (g.K.Sink.taken c.args.out.now)

pub returns-in_err-before-clause-broken : goal.returns-in_err-before-clause-broken
returns-in_err-before-clause-broken g c = λ d text st told right.
    let p = err_from_is_err_and c.from_residual.result c.from_residual.ensures.1 in rw (p.1, p.2) tt

pub returns-in_err-before-clause-carries : goal.returns-in_err-before-clause-carries
returns-in_err-before-clause-carries g c = λ d text st told right.
    let here = subst (λ (h : DeskHolding). DeskStands h (g.F.Files.seen c.args.files.now) d) (sym c.desk.view_is) st in
    carry_of _ (g.F.Files.seen c.args.files.now) _ (order_left c.args.order.now) (here.stands (first_seat 0))

pub returns-in_err-before-clause-settled : goal.returns-in_err-before-clause-settled
returns-in_err-before-clause-settled g c = λ d text st told right.
    task_unsettled (window_of d.clients c.args.client) (g.F.Files.seen c.args.files.now) (seen_by d c.args.client) (task c.args.order.now text) (g.K.Sink.taken c.args.out.now)

pub returns-in_err-before-clause-unsaid : goal.returns-in_err-before-clause-unsaid
returns-in_err-before-clause-unsaid g c = λ late.
    let p = err_from_is_err_and c.from_residual.result c.from_residual.ensures.1 in rw (p.1, p.2) (λ is. refl)

pub returns-in_err-serve_client : goal.returns-in_err-serve_client
returns-in_err-serve_client g c =
    let called = (goal.at.returns-in_err-serve_client g c).After-change_seats in
    let serves = c.serve_client.ensures in
    let p = err_from_is_err_and c.from_residual-in_err-serve_client.result c.from_residual-in_err-serve_client.ensures.1 in
    record {
      there = had g called;
      seated = seated g called _ (length-set c.as_mut_slice-seats.result.now c.args.client c.change_seats.new.seat);
      halted = λ d text st said right. rw (sym (here g called d st).clients) (serves.halted _ text (stands g called d st) said (his g called d st right));
      left = λ d text st said right. rw (sym (here g called d st).clients) (serves.left _ text (stands g called d st) said (his g called d st right));
      carries = λ d text st said right. serves.carries _ text (stands g called d st) said (his g called d st right);
      settled = λ d text st said right. rw (sym (here g called d st).clients) (serves.settled _ text (stands g called d st) said (his g called d st right));
      asks = λ d st. serves.asks _ (stands g called d st);
      broken = λ d text st said right.
          let broken = serves.broken _ text (stands g called d st) said (his g called d st right) in
          rw (p.1, p.2, sym (here g called d st).clients) (rw c.in_err-serve_client.was at broken);
      unsaid = λ late. rw (p.1, p.2) (c.in_err-serve_client.ensures.unsaid late);
      causes = rw (p.1, p.2) c.in_err-serve_client.ensures.causes;
      stands = search rules;
      written = search rules;
      views = search rules;
      sound = search rules;
      room = search rules;
      number = search rules;
      unchanged = search rules;
      choices = search rules;
      same = search rules;
      none_lost = search rules;
      clients = search rules;
    }

pub returns-in_err-bring : goal.returns-in_err-bring
returns-in_err-bring g c =
    let called = (goal.at.returns-in_err-bring g c).After-change_seats in
    let serves = c.serve_client.ensures in
    let p = err_from_is_err_and c.from_residual-in_err-bring.result c.from_residual-in_err-bring.ensures.1 in
    record {
      there = had g called;
      seated = seated g called _ (c.bring.ensures.number ∙ length-set c.as_mut_slice-seats.result.now c.args.client c.change_seats.new.seat);
      halted = λ d text st said right. rw (sym (here g called d st).clients) (serves.halted _ text (stands g called d st) said (his g called d st right));
      left = λ d text st said right. rw (sym (here g called d st).clients) (serves.left _ text (stands g called d st) said (his g called d st right));
      carries = λ d text st said right. serves.carries _ text (stands g called d st) said (his g called d st right);
      settled = λ d text st said right. rw (sym (here g called d st).clients) (serves.settled _ text (stands g called d st) said (his g called d st right));
      asks = λ d st. serves.asks _ (stands g called d st);
      broken = λ d text st said right. rw (p.1, p.2) tt;
      unsaid = λ late. rw (p.1, p.2) (λ is. cc);
      causes = rw (p.1, p.2) (record { none_fell = c.in_ok-serve_client.ensures.causes.none_fell; why = tt });
      stands = search rules;
      written = search rules;
      views = search rules;
      sound = search rules;
      room = search rules;
      number = search rules;
      unchanged = search rules;
      choices = search rules;
      same = search rules;
      none_lost = search rules;
      clients = search rules;
    }

pub returns : goal.returns
returns g c =
    let called = (goal.at.returns g c).After-change_seats in
    let serves = c.serve_client.ensures in
    let served = c.in_ok-serve_client.ensures in
    let noted = c.in_ok-before.ensures.noted in
    let machine = c.serve_client.new.machine in
    let place = c.args.client in
    let seats = c.as_mut_slice-seats.result.now in
    let up = c.change_seats-2.new.seat in
    let last = set c.bring.new.seats place up in
    let held' : DeskHolding = record { holding = c.change_seats-2.new.machine; seats = seats_of (with_items c.desk.inside.seats last).items; clients = c.desk.inside.clients } in
    let before = length-set seats place c.change_seats.new.seat in
    let long : length last ≡ length seats = length-set c.bring.new.seats place up ∙ c.bring.ensures.number ∙ before in
    let rises : Rises place machine c.bring.new.seats last up held' = record {
      kept = ap (λ (h : Holding). h.kept) c.change_seats-2.ensures.machine;
      tables = ap (λ (h : Holding). h.tables) c.change_seats-2.ensures.machine;
      there = omega (arith, (sits g called).there, c.bring.ensures.number, before);
      risen = c.change_seats-2.ensures.seat;
      with_him = refl;
      seats = ap (λ (l : List SeatStruct). seats_of l) (with_items_is c.desk.inside.seats last (long ∙ c.as_mut_slice-seats.ensures.len));
    } in
    record {
      there = had g called;
      seated = seated g called _ (long);
      halted = λ d text st said right. rw (sym (here g called d st).clients) (serves.halted _ text (stands g called d st) said (his g called d st right));
      left = λ d text st said right. rw (sym (here g called d st).clients) (serves.left _ text (stands g called d st) said (his g called d st right));
      carries = λ d text st said right. serves.carries _ text (stands g called d st) said (his g called d st right);
      settled = λ d text st said right. rw (sym (here g called d st).clients) (serves.settled _ text (stands g called d st) said (his g called d st right));
      asks = λ d st. serves.asks _ (stands g called d st);
      written = λ d text st said right. rw (sym (here g called d st).clients) (served.written _ text (stands g called d st) said (his g called d st right));
      views = λ d text st said right. rw (sym (here g called d st).clients) (served.views _ text (stands g called d st) said (his g called d st right));
      causes = served.causes;
      stands = λ d text st said right.
          let here' = here g called d st in
          let later = served.stands _ text (stands g called d st) said (his g called d st right) in
          let now = here'.stands (first_seat 0) in
          let front = c.in_ok-bring.ensures.brought_before _ now.games later.games d.shared.base _ noted now.base later.base in
          let back = c.in_ok-bring.ensures.brought_behind _ now.games later.games d.shared.base _ noted now.base later.base in
          rises_stands _ _ _ _ _ _ _ (sits g called) _ (g.F.Files.seen c.serve_client.new.files) d c.desk.inside.clients c.args.order.now text machine c.bring.new.seats
          last up held' here' here'.clients
          later front back rises here'.clients;
      sound = rises_sound place machine c.bring.new.seats last up held' _ served.sound c.in_ok-bring.ensures.fits_before c.in_ok-bring.ensures.fits_behind rises;
      broken = search rules;
      unsaid = search rules;
      room = search rules;
      number = search rules;
      unchanged = search rules;
      choices = search rules;
      same = search rules;
      none_lost = search rules;
      clients = search rules;
    }

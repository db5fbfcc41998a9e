use Rattle.std.proofs.Common.{◌≡◌, ◌++◌, ◌∷◌, [], List, cond, arith, ap, length, ◌∙◌}
use Rattle.std.proofs.lemmas.List.{length-append}
use Rattle.std.proofs.lemmas.List.Elements.{All-push, All-same}
use Rattle.filter_seat.specs.Seats.{first_seat}
use Rattle.filter_seat.specs.declared.seat.Seat.{Seat as SeatStruct}
use Rattle.desk_commands.proofs.BeginLaws.{all_first}
use Rattle.desk_commands.proofs.desk.first_seats.Goals as goal
use Rattle.desk_commands.specs.Standing.{seat_of}

pub loop-alloc-preserved : goal.loop-alloc-preserved
loop-alloc-preserved c =
    let items = c.loop-alloc.seats.items in
    let seat = c.in_ok-seat.seat in
    let more = c.in_ok-push.ensures.items in
    record {
      all = All-same (λ (s : SeatStruct). seat_of s ≡ first_seat c.args.games) c.push.new.self.items (items ++ seat ∷ []) more
          (All-push (λ (s : SeatStruct). seat_of s ≡ first_seat c.args.games) items seat c.loop-alloc.invariant.all c.in_ok-seat.ensures.first);
      few = omega (arith, ap (λ (xs : List SeatStruct). length xs) more ∙ length-append items (seat ∷ []), c.loop-alloc-test.true);
    }

pub returns : goal.returns
returns c = record {
  first = all_first c.loop-alloc.seats.items (cond c.args.tagged 4 1) (first_seat c.args.games) c.loop-alloc.invariant.all
      (omega (arith, c.loop-alloc.invariant.few, c.loop-alloc-test.false, c.clients_of-number.ensures.number));
}

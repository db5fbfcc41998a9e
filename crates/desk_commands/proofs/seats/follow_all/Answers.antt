use Rattle.std.proofs.Common.{arith, get_or}
use Rattle.std.proofs.lemmas.List.{get_or_default}
use Rattle.filter_seat.specs.Following.{seat_after, told_by}
use Rattle.filter_seat.specs.Seats.{FitsGames, Seat}
use Rattle.desk_commands.proofs.ListLaws.{seen_more, seen_still}
use Rattle.desk_commands.proofs.seats.follow_all.Goals as goal
use Rattle.desk_commands.specs.Standing.{seat_of}

pub follow_one-requires : goal.follow_one-requires
follow_one-requires c =
    let i = c.loop-seat.seat-index in
    let now = c.loop-seat.seats in
    let all = c.requires.follows in
    record {
      follows = (
        all.0,
        (
          all.1.0,
          seen_still seat_of (seat_after (told_by c.args.moved.now)) (λ (seat : Seat). FitsGames seat all.0) c.args.seats.now now i c.seat-item.result
              (omega (arith, c.loop-seat-test.true, c.loop-seat.auto.seat-index-end)) (omega (arith, c.loop-seat-test.true, c.loop-seat.auto.seat-index-end, c.loop-seat.auto.seats)) c.loop-seat.invariant all.1.1,
        ),
      );
    }

pub loop-seat-preserved : goal.loop-seat-preserved
loop-seat-preserved c =
    let i = c.loop-seat.seat-index in
    let now = c.loop-seat.seats in
    let seat = get_or now i c.seat-item.result in
    seen_more seat_of (seat_after (told_by c.args.moved.now)) c.args.seats.now now i seat c.follow_one.new.seat
    (omega (arith, c.loop-seat-test.true, c.loop-seat.auto.seat-index-end)) (omega (arith, c.loop-seat-test.true, c.loop-seat.auto.seat-index-end, c.loop-seat.auto.seats)) c.loop-seat.invariant
    (get_or_default now i c.seat-item.result seat (omega (arith, c.loop-seat-test.true, c.loop-seat.auto.seat-index-end, c.loop-seat.auto.seats))) c.in_ok-follow_one.ensures.follows

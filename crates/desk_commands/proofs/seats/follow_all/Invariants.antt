use Rattle.std.proofs.Common.{◌≡◌, ◌++◌, drop, map, take}
use Rattle.filter_seat.specs.Following.{seat_after, told_by}
use Rattle.desk_commands.proofs.seats.follow_all.Given as goal
use Rattle.desk_commands.specs.Standing.{seats_of}

-- The seats that the loop has passed have followed, and the others not yet.
abbrev pub invariant-loop-seat : goal.invariant-loop-seat
invariant-loop-seat l = seats_of l.seats ≡ map (seat_after (told_by l.fn.moved)) (take l.seat-index (seats_of l.fn.seats)) ++ drop l.seat-index (seats_of l.fn.seats)

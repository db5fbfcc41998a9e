use Rattle.std.proofs.Common.{◌≡◌, ◌≤◌, ◌-◌, All, length}
use Rattle.filter_seat.specs.Seats.{first_seat}
use Rattle.desk_commands.proofs.desk.first_seats.Given as goal
use Rattle.desk_commands.specs.Standing.{seat_of}

-- Each of those that are there is one, and there are no more.
abbrev pub invariant-loop-alloc : goal.invariant-loop-alloc
invariant-loop-alloc l = record {
  all : All (λ seat. seat_of seat ≡ first_seat l.games) l.seats.items;
  few : length l.seats.items ≤ l.places;
}

abbrev pub decreases-loop-alloc : goal.decreases-loop-alloc
decreases-loop-alloc l = l.places - length l.seats.items

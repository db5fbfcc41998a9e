-- The seat that a desk lends (this project's own).
use Rattle.std.specs.Prelude.{ℕ, slice_set}
use Rattle.std.specs.Borrow.{Lends, MutBor, Fml}
use Rattle.client_desk.specs.contracts.desk.Desk.{the_row}
use Rattle.client_desk.specs.contracts.seat.Seat.{the_row as seat_row}
use Rattle.client_desk.specs.Seats.{Seated}
use Rattle.client_desk.specs.Desks.{Seating}

-- The desk with another seat of a client.
abbrev pub with_seat : Seating → ℕ → Seated → Seating
with_seat seating client seat = record seating { seats = slice_set seating.seats client seat }

-- The desk ends with what is left behind the seat that was lent.
abbrev pub LendsSeat : MutBor Seating → ℕ → MutBor Seated → Fml
LendsSeat desk client seat = Lends the_row seat_row desk seat (with_seat desk.now client)

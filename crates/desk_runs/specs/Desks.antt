-- The seats of the two desks. This project's own.
use Rattle.client_desk.specs.Seats.{Seated}
use Rattle.filter_seat.specs.Seats.{Seat}

-- A seat without its slots.
abbrev pub plain_seat : Seated → Seat
plain_seat seat = record { filter = seat.filter; saved = seat.saved }

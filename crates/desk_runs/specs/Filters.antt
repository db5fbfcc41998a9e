-- The filters of the clients at a desk. This project's own.
use Rattle.std.specs.Prelude.{ℕ, ◌<◌, ◌^◌, [], IfSome, length, slice_get}
use Rattle.desk_commands.specs.Desk.{Desk}
use Rattle.filter_seat.specs.Seats.{Seat}
use Rattle.shell_state.specs.State.{HasFilters, Shared, State}

-- What a seat makes a state of with what is shared.
abbrev pub state_of_seat : Shared → Seat → State
state_of_seat shared seat = record { shared = shared; seat = seat; slots = [] }

-- Every filter of each client has an entry for each game, and each keeps at most eight.
abbrev pub AllFit : Desk → Type 0
AllFit desk = (client : ℕ) → IfSome (slice_get desk.seats client) (λ (seat : Seat). HasFilters (state_of_seat desk.shared seat))

-- No filter is longer than a list may be.
abbrev pub AreCounted : Desk → Type 0
AreCounted desk = (client : ℕ) → IfSome (slice_get desk.seats client) (λ (seat : Seat). length seat.filter < 2 ^ 64)

-- How the machine of a desk stands for it, beside the files of its base. This project's own.
use Rattle.std.specs.Option.{option_map_or}
use Rattle.std.specs.Prelude.{◌≡◌, ℕ, List, [], map, Option, Ok, All, IfSome, unwrap_or, if◌then◌else◌}
use Rattle.base_core.specs.Base.{Base}
use Rattle.base_files.specs.Seen.{Seen}
use Rattle.filter_seat.specs.Seats.{Seat}
use Rattle.filter_seat.specs.declared.seat.Seat.{Seat as SeatStruct}
use Rattle.script_text.specs.Tasks.{Order}
use Rattle.script_lines.specs.Clients.{Clients, Tagged, has_ended, said}
use Rattle.script_lines.specs.declared.line.Line.{Line}
use Rattle.script_text.specs.declared.command.Command.TheVariants.{Nothing}
use Rattle.shell_commands.specs.Tasks.{order_work}
use Rattle.shell_state.specs.Carrying.{Settled}
use Rattle.shell_state.specs.Stands.{Broken, Holding, Sound, Stands}
use Rattle.shell_state.specs.Work.{price}
use Rattle.shell_state.specs.declared.halt.Halt.{Halt}
use Rattle.view_commands.specs.Views.{all_slots}
use Rattle.desk_commands.specs.Desk.{Desk, desk_after, seen_by}

-- What is seen of a seat.
abbrev pub seat_of : SeatStruct → Seat
seat_of seat = record { filter = seat.filter; saved = seat.saved.items }

abbrev pub seats_of : List SeatStruct → List Seat
seats_of seats = map seat_of seats

-- What the machine of a desk holds: what all clients share, in which a seat is lent to the one who speaks, and the seats of all.
pub record DeskHolding : Type 0 where
  pub holding : Holding
  pub seats : List Seat
  pub clients : Clients

-- The machine in which a client sits.
abbrev pub with_seat : Holding → Seat → Holding
with_seat holding seat = record holding { seat = seat }

-- It stands for this desk, if the files are told: whichever client sits in it, for what that client sees.
pub record DeskStands (held : DeskHolding) (seen : Seen) (desk : Desk) : Type 0 where
  pub seats : held.seats ≡ desk.seats
  pub clients : held.clients ≡ desk.clients
  pub stands : (seat : Seat) → Stands (with_seat held.holding seat) seen (record { shared = desk.shared; seat = seat; slots = desk.slots })

-- What every machine of a desk keeps, whatever the files tell, whoever sits in it.
abbrev pub DeskSound : DeskHolding → Seen → Type 0
DeskSound held seen = All (λ seat. Sound (with_seat held.holding seat) seen) held.seats

-- ---- a line of a script

-- The order of a line that takes effect: none of one that no client says, or one who has ended.
abbrev pub effective : Clients → Option ℕ → Order → Order
effective clients client order = option_map_or (λ client. if has_ended clients client then Ok Nothing else order) client (Ok Nothing)

-- What it asks at most of the games file: nothing, if no client says it.
abbrev pub line_price : Desk → Line → ℕ
line_price desk line = price (seen_by desk (unwrap_or line.client 0)) (order_work all_slots (effective desk.clients line.client line.order) [])

-- The base that it leaves in the place of the files, if it does.
abbrev pub line_left : Desk → Line → Option (Base → Base)
line_left desk line = (order_work all_slots (effective desk.clients line.client line.order) []).left

-- What is known of a line that was broken off.
abbrev pub BrokenLine : Desk → Tagged → Halt → List ℕ → Option (List ℕ) → Option (List ℕ) → Type 0
BrokenLine desk t e text told told' =
    Broken (seen_by desk 0) (order_work all_slots (effective desk.clients t.client t.task.order) t.task.body) e text told told'

-- What is known of the files if one was broken off that leaves a base in their place: nothing of its text was written, or they carry what
-- the desk behind it says.
abbrev pub SettledLine : Seen → Desk → Tagged → Option (List ℕ) → Option (List ℕ) → Type 0
SettledLine seen desk t told told' =
    IfSome (line_left desk (said t.client t.task.order)) (λ left. Settled seen (seen_by (desk_after desk t) 0) told told')

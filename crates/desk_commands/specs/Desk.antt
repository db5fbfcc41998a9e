-- Clients over the plain machine: each has its own seat and slots, and they share the base. This project's own.
use Rattle.std.specs.Fmt.{decimal}
use Rattle.std.specs.Option.{option_map_or}
use Rattle.std.specs.Prelude.{ℕ, zero, suc, ◌+◌, nat_lt, if◌then◌else◌, Bool, true, List, [], ◌∷◌, ◌++◌, Option, Some, None, Ok, codes, length, map, replicate, slice_get, unwrap_or}
use Rattle.base_core.specs.Base.{Base}
use Rattle.command_runs.specs.Plain.{Plain}
use Rattle.base_core.specs.Compacted.{compacted}
use Rattle.edit_commands.specs.Compacting.{numbers_of}
use Rattle.filter_seat.specs.Following.{Moving, seat_after}
use Rattle.filter_seat.specs.Seats.{Seat, first_seat}
use Rattle.script_lines.specs.Clients.{Clients, Tagged, has_ended, heard, new_clients, said}
use Rattle.script_text.specs.Tasks.{Order, Task}
use Rattle.script_text.specs.declared.command.Command.TheVariants.{Nothing, Import, Replace, Demo, Compact}
use Rattle.shell_commands.specs.Tasks.{tasks}
use Rattle.shell_state.specs.Lines.{error_line}
use Rattle.shell_state.specs.Slots.{Slot}
use Rattle.shell_state.specs.State.{Shared, State, begin}
use Rattle.command_runs.specs.Tagged.{tagged_lines}
use Rattle.view_commands.specs.Views.{all_slots}
use Rattle.view_commands.specs.declared.window.Window.{Window}

-- What is shared, the seats of the clients, what the eight slots show, and who may speak: four clients with tags, or one without.
pub record Desk : Type 0 where
  pub shared : Shared
  pub seats : List Seat
  pub slots : List Slot
  pub clients : Clients

-- The desk in which a script begins over a base that was opened or created, beside what the files tell of a new games file.
abbrev pub desk_begin : Bool → Bool → Option (List ℕ) → List Slot → Base → Desk
desk_begin tagged created fresh slots base =
    let seats : List Seat = replicate (if tagged then 4 else 1) (first_seat (length base.games)) in
    record { shared = (begin created fresh slots base).shared; seats = seats; slots = slots; clients = new_clients tagged }

-- ---- what one client sees

-- The slots that are a client's own: two of them at a desk of four, and all of them for a single client.
abbrev pub window_of : Clients → ℕ → Window
window_of clients client = if clients.tagged then record { first = client + client; count = 2 } else all_slots

-- A client whom the desk gives no seat has an empty one.
abbrev pub seen_by : Desk → ℕ → State
seen_by desk client = record { shared = desk.shared; seat = unwrap_or (slice_get desk.seats client) (first_seat 0); slots = desk.slots }

-- A task of a client, by itself.
abbrev pub own_tasks : Desk → ℕ → Plain State Task
own_tasks desk client = tasks (window_of desk.clients client)

-- ---- what it brings to the others

-- What a line moves in the filters over the games, these being the bases before and after it. A game was replaced if its new record has come into
-- the games file, which then ends later. A compaction that was refused, or takes no game out, moves nothing.
abbrev pub moved_by : Order → Base → Base → Moving
moved_by (Ok (Import word)) before after = Moving.added (length after.games)
moved_by (Ok (Demo seed games)) before after = Moving.added (length after.games)
moved_by (Ok (Replace game word)) before after = if nat_lt before.end after.end then Moving.started game else Moving.nothing
moved_by (Ok Compact) before after =
    if nat_lt (length after.games) (length before.games) then Moving.numbered (record { to = numbers_of before; kept = length (compacted before).games })
    else Moving.nothing
moved_by _ before after = Moving.nothing

-- What it brings to the seat of another client: the filters there follow what it moves.
abbrev pub brought : Order → Base → Base → Seat → Seat
brought order before after = seat_after (moved_by order before after)

-- The seats where that of one client has become this one, and those of the others follow.
abbrev pub each_seat : ℕ → Seat → (Seat → Seat) → List Seat → List Seat
each_seat client own bring [] = []
each_seat zero own bring (seat ∷ seats) = own ∷ map bring seats
each_seat (suc client) own bring (seat ∷ seats) = bring seat ∷ each_seat client own bring seats

-- The command is what it is to its client, on what is shared, the client's seat and the slots. It is brought to the
-- seats of the others.
abbrev pub desk_with : Desk → ℕ → Task → State → Desk
desk_with desk client task s =
    let bring : Seat → Seat = brought task.order desk.shared.base s.shared.base in
    record desk { shared = s.shared; seats = each_seat client s.seat bring desk.seats; slots = s.slots }

-- ---- a line of a script

-- What a client makes of the desk who has not ended.
abbrev pub desk_by : Desk → ℕ → Task → Desk
desk_by desk client task = desk_with desk client task ((own_tasks desk client).after (seen_by desk client) task)

-- Nothing is done of a line that no client says, or one who has ended.
abbrev pub desk_done : Desk → Option ℕ → Task → Desk
desk_done desk None task = desk
desk_done desk (Some client) task = if has_ended desk.clients client then desk else desk_by desk client task

-- Then a client may have ended.
abbrev pub desk_after : Desk → Tagged → Desk
desk_after desk t = record (desk_done desk t.client t.task) { clients = heard desk.clients (said t.client t.task.order) }

-- The line for one that says something.
abbrev pub unless_nothing : List ℕ → Order → List ℕ
unless_nothing words (Ok Nothing) = []
unless_nothing words order = error_line words

-- What is said to a client.
abbrev pub desk_said : Desk → ℕ → Task → List ℕ
desk_said desk client task =
    if has_ended desk.clients client then unless_nothing (codes "client ended") task.order else (own_tasks desk client).text (seen_by desk client) task

-- A text as it goes out to a client: each line behind the client's tag, if clients have tags.
abbrev pub lines_to : Clients → ℕ → List ℕ → List ℕ
lines_to clients client text = if clients.tagged then tagged_lines true (codes "@" ++ decimal client ++ codes " ") text else text

abbrev pub desk_text : Desk → Tagged → List ℕ
desk_text desk t =
    option_map_or (λ client. lines_to desk.clients client (desk_said desk client t.task)) t.client (unless_nothing (codes "no client") t.task.order)

-- The plain machine of a desk.
abbrev pub desks : Plain Desk Tagged
desks = record { after = desk_after; text = desk_text }

-- Laws of lines that are refused at a desk.
use Rattle.std.proofs.Common.{◌≡◌, ◌<◌, ◌^◌, ℕ, zero, suc, Bool, true, false, [], ◌∷◌, List, Option, Some, None, Ok, Err, codes, length, map, slice_get, unwrap_or, refl, ap, ap₂, ◌∙◌, arith}
use Rattle.std.specs.Prelude.{IfSome, if◌then◌else◌, nat_lt}
use Rattle.std.proofs.lemmas.Bool.{le-ltb}
use Rattle.base_core.specs.Base.{Base}
use Rattle.base_core.specs.Compacted.{compacted}
use Rattle.edit_commands.specs.Compacting.{numbers_of}
use Rattle.filter_seat.proofs.FollowLaws.{seat_same}
use Rattle.filter_seat.specs.Following.{Moving, seat_after}
use Rattle.filter_seat.specs.Seats.{Seat, first_seat}
use Rattle.script_lines.specs.Clients.{has_ended, heard, said}
use Rattle.script_text.specs.Tasks.{Order, Task}
use Rattle.script_text.specs.declared.command.Command.TheVariants.{Compact, Demo, Import, Replace}
use Rattle.shell_commands.proofs.RefusedLaws.{refused}
use Rattle.shell_commands.specs.Refused.{IsError}
use Rattle.shell_state.specs.State.{State}
use Rattle.desk_commands.specs.Desk.{Desk, brought, desk_by, desk_done, desk_said, desk_with, desks, each_seat, own_tasks, seen_by, unless_nothing, window_of}
use Rattle.desk_runs.specs.Filters.{AreCounted}

-- ---- seats that stay

map_same : (bring : Seat → Seat) (seats : List Seat) → ((i : ℕ) → IfSome (slice_get seats i) (λ (seat : Seat). bring seat ≡ seat)) → map bring seats ≡ seats
map_same bring [] same = refl
map_same bring (seat ∷ seats) same = ap₂ (λ (x : Seat) (xs : List Seat). x ∷ xs) (same zero) (map_same bring seats (λ i. same (suc i)))

each_same : (client : ℕ) (own : Seat) (bring : Seat → Seat) (seats : List Seat) → IfSome (slice_get seats client) (λ (seat : Seat). own ≡ seat)
    → ((i : ℕ) → IfSome (slice_get seats i) (λ (seat : Seat). bring seat ≡ seat)) → each_seat client own bring seats ≡ seats
each_same zero own bring [] is same = refl
each_same (suc client) own bring [] is same = refl
each_same zero own bring (seat ∷ seats) is same = ap₂ (λ (x : Seat) (xs : List Seat). x ∷ xs) is (map_same bring seats (λ i. same (suc i)))
each_same (suc client) own bring (seat ∷ seats) is same = ap₂ (λ (x : Seat) (xs : List Seat). x ∷ xs) (same zero) (each_same client own bring seats is (λ i. same (suc i)))

-- What a client has who is there.
his_seat : (o : Option Seat) → IfSome o (λ (seat : Seat). unwrap_or o (first_seat 0) ≡ seat)
his_seat None = tt
his_seat (Some seat) = refl

his_count : (o : Option Seat) → IfSome o (λ (seat : Seat). length seat.filter < 2 ^ 64) → length (unwrap_or o (first_seat 0)).filter < 2 ^ 64
his_count None few = omega arith
his_count (Some seat) few = few

-- ---- a line that is refused

-- It brings nothing to another seat, since it leaves the base as it was.
not_less : (n : ℕ) → nat_lt n n ≡ false
not_less n = le-ltb n n (omega arith)

none_brought : (order : Order) (base : Base) (seat : Seat) → ((word : List ℕ) → order ≡ Ok (Import word) → ⊥) → ((seed games : ℕ) → order ≡ Ok (Demo seed games) → ⊥) → brought order base base seat ≡ seat
none_brought (Ok (Import word)) base seat imports makes = absurd (imports word refl)
none_brought (Ok (Demo seed games)) base seat imports makes = absurd (makes seed games refl)
none_brought (Ok (Replace game word)) base seat imports makes =
    ap (λ (b : Bool). seat_after (if b then Moving.started game else Moving.nothing) seat) (not_less base.end) ∙ seat_same seat
none_brought (Ok Compact) base seat imports makes =
    ap (λ (b : Bool). seat_after (if b then Moving.numbered (record { to = numbers_of base; kept = length (compacted base).games }) else Moving.nothing) seat) (not_less (length base.games)) ∙ seat_same seat
none_brought _ base seat imports makes = seat_same seat

if_each : (o : Option Seat) (P Q : Seat → Type 0) → ((seat : Seat) → P seat → Q seat) → IfSome o P → IfSome o Q
if_each None P Q to has = tt
if_each (Some seat) P Q to has = to seat has

said_refused : (desk : Desk) (client : ℕ) (task : Task) → AreCounted desk → IsError ((own_tasks desk client).text (seen_by desk client) task)
    → ((word : List ℕ) → task.order ≡ Ok (Import word) → ⊥) → ((seed games : ℕ) → task.order ≡ Ok (Demo seed games) → ⊥) → desk_by desk client task ≡ desk
said_refused desk client task counted is imports makes =
    let s : State = seen_by desk client in
    let same : (own_tasks desk client).after s task ≡ s =
    refused (window_of desk.clients client) s task (his_count (slice_get desk.seats client) (counted client)) is imports makes in
    let seats : each_seat client s.seat (brought task.order desk.shared.base desk.shared.base) desk.seats ≡ desk.seats =
    each_same client s.seat (brought task.order desk.shared.base desk.shared.base) desk.seats (his_seat (slice_get desk.seats client))
    (λ i. if_each (slice_get desk.seats i) _ _ (λ seat few. none_brought task.order desk.shared.base seat imports makes) (counted i)) in
    ap (desk_with desk client task) same ∙ ap (λ (all : List Seat). record desk { seats = all }) seats

done_refused : (ended : Bool) (desk : Desk) (client : ℕ) (task : Task) → AreCounted desk
    → IsError (if ended then unless_nothing (codes "client ended") task.order else (own_tasks desk client).text (seen_by desk client) task)
    → ((word : List ℕ) → task.order ≡ Ok (Import word) → ⊥) → ((seed games : ℕ) → task.order ≡ Ok (Demo seed games) → ⊥) → (if ended then desk else desk_by desk client task) ≡ desk
done_refused true desk client task counted is imports makes = refl
done_refused false desk client task counted is imports makes = said_refused desk client task counted is imports makes

pub line_refused : (desk : Desk) (client : ℕ) (task : Task) → AreCounted desk → IsError (desk_said desk client task)
    → ((word : List ℕ) → task.order ≡ Ok (Import word) → ⊥) → ((seed games : ℕ) → task.order ≡ Ok (Demo seed games) → ⊥)
    → desks.after desk (record { client = Some client; task = task }) ≡ record desk { clients = heard desk.clients (said (Some client) task.order) }
line_refused desk client task counted is imports makes =
    ap (λ (d : Desk). record d { clients = heard desk.clients (said (Some client) task.order) }) (done_refused (has_ended desk.clients client) desk client task counted is imports makes)

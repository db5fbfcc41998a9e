-- A client who sits down in the machine of a desk, and gets up behind his line.
use Rattle.std.proofs.Common.{◌≡◌, ◌<◌, ◌+◌, ℕ, zero, suc, List, [], ◌∷◌, ◌++◌, Option, All, map, add-one, arith, get_or, length, take, drop, set, refl, sym, ap, ap₂, subst, ◌∙◌}
use Rattle.std.proofs.lemmas.List.{drop-map, get_or_default, length-map, take-map}
use Rattle.base_files.specs.Seen.{Seen}
use Rattle.filter_seat.specs.Seats.{Seat}
use Rattle.filter_seat.specs.declared.seat.Seat.{Seat as SeatStruct}
use Rattle.script_lines.specs.Clients.{Clients}
use Rattle.script_text.specs.Tasks.{Order, task}
use Rattle.shell_commands.specs.Tasks.{tasks}
use Rattle.shell_state.specs.Stands.{Holding, Sound, Stands}
use Rattle.tree_rows.specs.declared.row.Row.{Row}
use Rattle.view_commands.specs.Views.{AreRight}
use Rattle.desk_commands.proofs.BringLaws.{Fitting}
use Rattle.desk_commands.proofs.DeskLaws.{right_own}
use Rattle.desk_commands.proofs.OwnLaws.{number_of}
use Rattle.desk_commands.proofs.SeatedLaws.{IsSplit, seat_is, sound_behind, sound_fits, sound_split, stands_behind}
use Rattle.desk_commands.specs.Desk.{Desk, brought, desk_by, seen_by, window_of}
use Rattle.desk_commands.specs.Standing.{DeskHolding, DeskSound, DeskStands, seat_of, seats_of, with_seat}
use Rattle.desk_commands.specs.Views.{AllRight}

-- ---- the seats around a place

take_set : {X : Type 0} (xs : List X) (i : ℕ) (x : X) → take i (set xs i x) ≡ take i xs
take_set [] zero x = refl
take_set [] (suc i) x = refl
take_set (y ∷ xs) zero x = refl
take_set (y ∷ xs) (suc i) x = ap (λ l. y ∷ l) (take_set xs i x)

drop_set : {X : Type 0} (xs : List X) (i : ℕ) (x : X) → drop (suc i) (set xs i x) ≡ drop (suc i) xs
drop_set [] zero x = refl
drop_set [] (suc i) x = refl
drop_set (y ∷ xs) zero x = refl
drop_set (y ∷ xs) (suc i) x = drop_set xs i x

take_long : {X : Type 0} (xs : List X) (i : ℕ) → i < length xs → length (take i xs) ≡ i
take_long [] i less = absurd (omega (arith, less))
take_long (y ∷ xs) zero less = refl
take_long (y ∷ xs) (suc i) less = ap (λ (n : ℕ). suc n) (take_long xs i (omega (arith, less)))

map_parts : (xs : List SeatStruct) (i : ℕ) (d : SeatStruct) → i < length xs → seats_of xs ≡ take i (seats_of xs) ++ seat_of (get_or xs i d) ∷ drop (suc i) (seats_of xs)
map_parts [] i d less = absurd (omega (arith, less))
map_parts (y ∷ xs) zero d less = refl
map_parts (y ∷ xs) (suc i) d less = ap (λ (l : List Seat). seat_of y ∷ l) (map_parts xs i d (omega (arith, less)))

map_set_parts : (xs : List SeatStruct) (i : ℕ) (x : SeatStruct) → i < length xs → seats_of (set xs i x) ≡ take i (seats_of xs) ++ seat_of x ∷ drop (suc i) (seats_of xs)
map_set_parts [] i x less = absurd (omega (arith, less))
map_set_parts (y ∷ xs) zero x less = refl
map_set_parts (y ∷ xs) (suc i) x less = ap (λ (l : List Seat). seat_of y ∷ l) (map_set_parts xs i x (omega (arith, less)))

-- ---- he sits

-- What is known once his line may be done: the seats before he sat down, and those then.
pub record Sits (held : DeskHolding) (place : ℕ) (seats left : List SeatStruct) (own stood : SeatStruct) (m : Holding) : Type 0 where
  pub there : place < length seats
  pub seen : seats_of seats ≡ held.seats
  pub sat : seat_of own ≡ seat_of (get_or seats place own)
  pub without : left ≡ set seats place stood
  pub machine : m ≡ with_seat held.holding (seat_of own)

abbrev pub front_of : ℕ → List SeatStruct → List Seat
front_of place left = take place (seats_of left)

abbrev pub back_of : ℕ → List SeatStruct → List Seat
back_of place left = drop (place + 1) (seats_of left)

front_same : (seats left : List SeatStruct) (place : ℕ) (x : SeatStruct) → left ≡ set seats place x → front_of place left ≡ take place (seats_of seats)
front_same seats left place x is =
    take-map seat_of place left ∙ (ap (λ (l : List SeatStruct). seats_of l) (ap (λ (l : List SeatStruct). take place l) is ∙ take_set seats place x) ∙ sym (take-map seat_of place seats))

back_same : (seats left : List SeatStruct) (place : ℕ) (x : SeatStruct) → left ≡ set seats place x → back_of place left ≡ drop (suc place) (seats_of seats)
back_same seats left place x is =
    subst (λ (n : ℕ). drop n (seats_of left) ≡ drop (suc place) (seats_of seats)) (sym (add-one place))
    (drop-map seat_of (suc place) left ∙ (ap (λ (l : List SeatStruct). seats_of l) (ap (λ (l : List SeatStruct). drop (suc place) l) is ∙ drop_set seats place x) ∙ sym (drop-map seat_of (suc place) seats)))

pub sits_now : (machine : Holding) (items seats : List SeatStruct) (clients : Clients) (place : ℕ) (got stood : SeatStruct) (m : Holding) → seats ≡ items → place < length items → m ≡ with_seat machine (seat_of (get_or seats place got))
    → Sits (record { holding = machine; seats = seats_of items; clients = clients }) place seats (set seats place stood) (get_or seats place got) stood m
sits_now machine items seats clients place got stood m same there is =
    let less : place < length seats = subst (λ (l : List SeatStruct). place < length l) (sym same) there in
    record {
      there = less;
      seen = ap (λ (l : List SeatStruct). seats_of l) same;
      sat = ap seat_of (get_or_default seats place got (get_or seats place got) less);
      without = refl;
      machine = is;
    }

-- What is known once it was brought to the others, and he has his own seat again.
pub record Rises (place : ℕ) (later : Holding) (right last : List SeatStruct) (up : SeatStruct) (held' : DeskHolding) : Type 0 where
  pub kept : held'.holding.kept ≡ later.kept
  pub tables : held'.holding.tables ≡ later.tables
  pub there : place < length right
  pub risen : seat_of up ≡ later.seat
  pub with_him : last ≡ set right place up
  pub seats : held'.seats ≡ seats_of last

rises_seats : (place : ℕ) (later : Holding) (right last : List SeatStruct) (up : SeatStruct) (held' : DeskHolding) → Rises place later right last up held' → held'.seats ≡ front_of place right ++ later.seat ∷ back_of place right
rises_seats place later right last up held' rises =
    rises.seats ∙ (ap (λ (l : List SeatStruct). seats_of l) rises.with_him ∙ (map_set_parts right place up rises.there
    ∙ (ap (λ (s : Seat). front_of place right ++ s ∷ drop (suc place) (seats_of right)) rises.risen
    ∙ ap (λ (n : ℕ). front_of place right ++ later.seat ∷ drop n (seats_of right)) (sym (add-one place)))))

module _ (held : DeskHolding) (place : ℕ) (seats left : List SeatStruct) (own stood : SeatStruct) (m : Holding) (sits : Sits held place seats left own stood m) where
  seats_split : held.seats ≡ front_of place left ++ seat_of own ∷ back_of place left
  seats_split =
      sym sits.seen ∙ (map_parts seats place own sits.there
      ∙ (ap (λ (s : Seat). take place (seats_of seats) ++ s ∷ drop (suc place) (seats_of seats)) (sym sits.sat)
      ∙ ap₂ (λ (a z : List Seat). a ++ seat_of own ∷ z) (sym (front_same seats left place stood sits.without)) (sym (back_same seats left place stood sits.without))))

  split : (seen : Seen) (d : Desk) → DeskStands held seen d → IsSplit d place (front_of place left) (seat_of own) (back_of place left)
  split seen d st = record {
    seats = sym st.seats ∙ seats_split;
    place = sym (ap (λ (l : List Seat). length l) (front_same seats left place stood sits.without) ∙ take_long (seats_of seats) place (omega (arith, sits.there, length-map seats seat_of)));
  }

  -- The machine stands for what he sees.
  pub sits_stands : (seen : Seen) (d : Desk) → DeskStands held seen d → Stands m seen (seen_by d place)
  sits_stands seen d st =
      subst (λ (h : Holding). Stands h seen (seen_by d place)) (sym sits.machine)
      (subst (λ (x : Seat). Stands (with_seat held.holding (seat_of own)) seen (record { shared = d.shared; seat = x; slots = d.slots })) (sym (seat_is d place (front_of place left) (seat_of own) (back_of place left) (split seen d st))) (st.stands (seat_of own)))

  pub sits_sound : (seen : Seen) → DeskSound held seen → Sound m seen
  sits_sound seen sound =
      let all = sound_split held seen (seat_of own) (front_of place left) (back_of place left) seats_split sound in
      subst (λ (h : Holding). Sound h seen) (sym sits.machine) all.1.0

  -- The filters of the others have an entry for each game.
  pub others_fit : (seen : Seen) → DeskSound held seen → All (Fitting (length held.holding.kept.entries)) (front_of place left) × All (Fitting (length held.holding.kept.entries)) (back_of place left)
  others_fit seen sound =
      let all = sound_split held seen (seat_of own) (front_of place left) (back_of place left) seats_split sound in
      (sound_fits held.holding seen (front_of place left) all.0, sound_fits held.holding seen (back_of place left) all.1.1)

  pub sits_right : {B : Type 0} (rows : B → List Row) (d : Desk) (clients : Clients) (views : List (Option B)) → clients ≡ d.clients → place < number_of clients.tagged → AllRight rows d views → AreRight rows (window_of clients place) (seen_by d place) views
  sits_right rows d clients views same room right =
      subst (λ (c : Clients). AreRight rows (window_of c place) (seen_by d place) views) (sym same)
      (right_own rows d place views (subst (λ (c : Clients). place < number_of c.tagged) same room) right)

  -- The desk behind his line, once it was brought to the others, and he has his own seat again.
  pub rises_stands : (seen seen' : Seen) (d : Desk) (clients : Clients) (order : Order) (body : List ℕ) (later : Holding) (right last : List SeatStruct) (up : SeatStruct) (held' : DeskHolding) → DeskStands held seen d → clients ≡ d.clients
      → Stands later seen' ((tasks (window_of clients place)).after (seen_by d place) (task order body))
      → front_of place right ≡ map (brought order d.shared.base ((tasks (window_of clients place)).after (seen_by d place) (task order body)).shared.base) (front_of place left)
      → back_of place right ≡ map (brought order d.shared.base ((tasks (window_of clients place)).after (seen_by d place) (task order body)).shared.base) (back_of place left)
      → Rises place later right last up held' → held'.clients ≡ d.clients → DeskStands held' seen' (desk_by d place (task order body))
  rises_stands seen seen' d clients order body later right last up held' st same stands front back rises clients' =
      stands_behind d place (task order body) (seat_of own) (front_of place left) (back_of place left) later seen' held' (front_of place right) (back_of place right) (split seen d st)
      (subst (λ (c : Clients). Stands later seen' ((tasks (window_of c place)).after (seen_by d place) (task order body))) same stands)
      (subst (λ (c : Clients). front_of place right ≡ map (brought order d.shared.base ((tasks (window_of c place)).after (seen_by d place) (task order body)).shared.base) (front_of place left)) same front)
      (subst (λ (c : Clients). back_of place right ≡ map (brought order d.shared.base ((tasks (window_of c place)).after (seen_by d place) (task order body)).shared.base) (back_of place left)) same back)
      rises.kept rises.tables (rises_seats place later right last up held' rises) clients'

pub rises_sound : (place : ℕ) (later : Holding) (right last : List SeatStruct) (up : SeatStruct) (held' : DeskHolding) (seen' : Seen) → Sound later seen' → All (Fitting (length later.kept.entries)) (front_of place right)
    → All (Fitting (length later.kept.entries)) (back_of place right) → Rises place later right last up held' → DeskSound held' seen'
rises_sound place later right last up held' seen' sound before behind rises =
    sound_behind later held' seen' (front_of place right) (back_of place right) later.seat sound rises.kept rises.tables sound.fits before behind (rises_seats place later right last up held' rises)

-- A desk at its beginning.
use Rattle.std.proofs.Common.{◌≡◌, ◌<◌, ℕ, Bool, true, false, cond, List, [], ◌∷◌, All, length, replicate, zero, suc, refl, sym, ap, ap₂, subst, ◌∙◌, arith}
use Rattle.std.proofs.lemmas.List.{length-map, length-replicate}
use Rattle.std.proofs.lemmas.List.Elements.{All-head, All-nil, All-replicate, All-tail}
use Rattle.base_core.specs.Base.{Base}
use Rattle.base_core.specs.Represents.{Kept}
use Rattle.base_files.specs.Seen.{Seen}
use Rattle.block_store.specs.Placing.{IsEnd}
use Rattle.filter_seat.specs.Seats.{Seat, first_seat}
use Rattle.filter_seat.specs.declared.seat.Seat.{Seat as SeatStruct}
use Rattle.script_lines.specs.Clients.{Clients, has_ended, new_clients}
use Rattle.shell_state.specs.Slots.{Slot}
use Rattle.shell_state.specs.Stands.{Begins, Holding, IsOpen, ShowNone, Sound, Stands, no_tables}
use Rattle.shell_state.specs.State.{begin}
use Rattle.desk_commands.proofs.SeatedLaws.{any_seat}
use Rattle.desk_commands.specs.Desk.{desk_begin}
use Rattle.desk_commands.specs.Standing.{DeskHolding, DeskSound, DeskStands, seat_of, seats_of, with_seat}

-- Each seat of the beginning fits.
pub begin_sound : (kept : Kept) (m : Holding) (held : DeskHolding) (n : ℕ) (seen : Seen) → Begins kept m → held.holding.kept ≡ m.kept → held.holding.tables ≡ m.tables → m.kept ≡ kept → held.seats ≡ replicate n (first_seat (length kept.entries)) → IsEnd kept.end seen
    → DeskSound held seen
begin_sound kept m held n seen begins same_kept same_tables is seats ends =
    let sound : Sound m seen = begins.sound seen ends in
    let first : Seat = first_seat (length kept.entries) in
    let own : Sound (with_seat m first) seen = record { fits = record { filter = length-replicate (length kept.entries) _ ∙ ap (λ (k : Kept). length k.entries) (sym is); saved = All-nil _ }; tables = sound.tables; base = sound.base; at_end = sound.at_end } in
    let here : Sound (with_seat held.holding first) seen = subst (λ (h : Holding). Sound h seen) (ap₂ (λ k t. record { kept = k; tables = t; seat = first }) (sym same_kept) (sym same_tables)) own in
    subst (λ (l : List Seat). All (λ (seat : Seat). Sound (with_seat held.holding seat) seen) l) (sym seats) (All-replicate (λ (seat : Seat). Sound (with_seat held.holding seat) seen) n first here)

pub begin_stands : (kept : Kept) (m : Holding) (held : DeskHolding) (clients : Clients) (seen : Seen) (created : Bool) (slots : List Slot) (base : Base) → Begins kept m → held.holding.kept ≡ m.kept → held.holding.tables ≡ m.tables
    → held.seats ≡ replicate (cond clients.tagged 4 1) (first_seat (length kept.entries)) → held.clients ≡ clients → clients ≡ new_clients clients.tagged → ShowNone slots → IsOpen kept seen created base → DeskStands held seen (desk_begin clients.tagged created seen.fresh slots base)
begin_stands kept m held clients seen created slots base begins same_kept same_tables seats same_clients new none opened =
    let st : Stands m seen (begin created seen.fresh slots base) = begins.stands seen created slots base none opened in
    record {
      seats = seats ∙ ap (λ (n : ℕ). replicate (cond clients.tagged 4 1) (first_seat n)) opened.represents.count;
      clients = same_clients ∙ new;
      stands = λ seat. subst (λ (h : Holding). Stands h seen (record { shared = (begin created seen.fresh slots base).shared; seat = seat; slots = slots })) (ap₂ (λ k t. record { kept = k; tables = t; seat = seat }) (sym same_kept) (sym same_tables)) (any_seat m seen (begin created seen.fresh slots base) seat st);
    }

-- Who may speak has a seat.
has_seat : (tagged : Bool) (client : ℕ) → has_ended (new_clients tagged) client ≡ false → client < cond tagged 4 1
has_seat true zero is = omega arith
has_seat true (suc zero) is = omega arith
has_seat true (suc (suc zero)) is = omega arith
has_seat true (suc (suc (suc zero))) is = omega arith
has_seat true (suc (suc (suc (suc client)))) is = absurd cc
has_seat false zero is = omega arith
has_seat false (suc zero) is = absurd cc
has_seat false (suc (suc zero)) is = absurd cc
has_seat false (suc (suc (suc zero))) is = absurd cc
has_seat false (suc (suc (suc (suc client)))) is = absurd cc

pub all_seated : (clients : Clients) (seats : ℕ) → clients ≡ new_clients clients.tagged → seats ≡ cond clients.tagged 4 1 → (client : ℕ) → has_ended clients client ≡ false → client < seats
all_seated clients seats new is client speaks =
    subst (λ (n : ℕ). client < n) (sym is) (has_seat clients.tagged client (ap (λ (c : Clients). has_ended c client) (sym new) ∙ speaks))

-- Seats that are all alike.
pub all_first : (seats : List SeatStruct) (n : ℕ) (first : Seat) → All (λ (seat : SeatStruct). seat_of seat ≡ first) seats → length seats ≡ n → seats_of seats ≡ replicate n first
all_first [] zero first all long = refl
all_first [] (suc n) first all long = absurd (omega (arith, long))
all_first (seat ∷ seats) zero first all long = absurd (omega (arith, long))
all_first (seat ∷ seats) (suc n) first all long =
    ap₂ (λ (s : Seat) (l : List Seat). s ∷ l) (All-head (λ (seat : SeatStruct). seat_of seat ≡ first) seat seats all)
    (all_first seats n first (All-tail (λ (seat : SeatStruct). seat_of seat ≡ first) seat seats all) (omega (arith, long)))

-- There are as many of them.
pub many_seats : (seats : List SeatStruct) (n : ℕ) (first : Seat) → seats_of seats ≡ replicate n first → length seats ≡ n
many_seats seats n first is = sym (length-map seats seat_of) ∙ (ap (λ (l : List Seat). length l) is ∙ length-replicate n first)

-- A machine begins, whoever sits in it.
pub begins_free : (base : Kept) (m free : Holding) (first none : Seat) → m ≡ record { kept = base; tables = no_tables; seat = first } → free ≡ with_seat m none → Begins base m → Begins base (with_seat free first)
begins_free base m free first none is sits begins =
    subst (λ (h : Holding). Begins base h) (sym (ap (λ (h : Holding). with_seat h first) (sits ∙ ap (λ (h : Holding). with_seat h none) is) ∙ sym is)) begins

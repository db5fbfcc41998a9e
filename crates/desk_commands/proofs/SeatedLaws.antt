-- What a line of a client who sits in the machine does at a desk.
use Rattle.std.proofs.Common.{◌≡◌, ◌<◌, ◌+◌, ℕ, List, [], ◌∷◌, ◌++◌, Option, Some, All, length, map, unwrap_or, slice_get, refl, sym, ap, ap₂, subst, ◌∙◌}
use Rattle.std.proofs.lemmas.List.Elements.{All-append, All-cons, All-head, All-nil, All-tail, All-weaker}
use Rattle.base_files.specs.Seen.{Seen}
use Rattle.filter_seat.specs.Seats.{FitsGames, Seat, first_seat}
use Rattle.script_text.specs.Tasks.{Task}
use Rattle.shell_state.specs.Stands.{Holding, Sound, Stands, TablesFit}
use Rattle.shell_state.specs.State.{State}
use Rattle.desk_commands.proofs.BringLaws.{Fitting}
use Rattle.desk_commands.proofs.DeskLaws.{each_split}
use Rattle.desk_commands.specs.Desk.{Desk, brought, desk_by, each_seat, own_tasks, seen_by}
use Rattle.desk_commands.specs.Standing.{DeskHolding, DeskSound, DeskStands, with_seat}

-- ---- the seats on both sides of a client's

got_split : (first : List Seat) (own : Seat) (second : List Seat) → slice_get (first ++ own ∷ second) (length first) ≡ Some own
got_split [] own second = refl
got_split (seat ∷ first) own second = got_split first own second

-- A desk whose seats are these.
pub record IsSplit (d : Desk) (c : ℕ) (first : List Seat) (own : Seat) (second : List Seat) : Type 0 where
  pub seats : d.seats ≡ first ++ own ∷ second
  pub place : c ≡ length first

pub seat_is : (d : Desk) (c : ℕ) (first : List Seat) (own : Seat) (second : List Seat) → IsSplit d c first own second → (seen_by d c).seat ≡ own
seat_is d c first own second split =
    ap (λ (o : Option Seat). unwrap_or o (first_seat 0))
    (ap (λ (l : List Seat). slice_get l c) split.seats ∙ (ap (λ (n : ℕ). slice_get (first ++ own ∷ second) n) split.place ∙ got_split first own second))

-- ---- behind the line

-- Whoever sits in the machine.
pub any_seat : (m : Holding) (seen : Seen) (s : State) (seat : Seat) → Stands m seen s → Stands (with_seat m seat) seen (record { shared = s.shared; seat = seat; slots = s.slots })
any_seat m seen s seat st = record { games = st.games; told = st.told; base = st.base; unsaved = st.unsaved; carried = st.carried; tables = st.tables; seat = refl; fresh = st.fresh }

-- The machine of the desk stands for the desk behind it.
pub stands_behind : (d : Desk) (c : ℕ) (t : Task) (own : Seat) (first second : List Seat) (m : Holding) (seen : Seen) (held : DeskHolding) (before' behind' : List Seat)
    → IsSplit d c first own second → Stands m seen ((own_tasks d c).after (seen_by d c) t) → before' ≡ map (brought t.order d.shared.base ((own_tasks d c).after (seen_by d c) t).shared.base) first
    → behind' ≡ map (brought t.order d.shared.base ((own_tasks d c).after (seen_by d c) t).shared.base) second → held.holding.kept ≡ m.kept → held.holding.tables ≡ m.tables
    → held.seats ≡ before' ++ m.seat ∷ behind' → held.clients ≡ d.clients → DeskStands held seen (desk_by d c t)
stands_behind d c t own first second m seen held before' behind' split st before behind kept tables seats clients = record {
  seats = seats ∙ all_seats;
  clients = clients;
  stands = λ seat.
      let held_is : with_seat m seat ≡ with_seat held.holding seat = ap₂ (λ k t. record { kept = k; tables = t; seat = seat }) (sym kept) (sym tables) in
      subst (λ (x : Holding). Stands x seen (record { shared = mine.shared; seat = seat; slots = mine.slots })) held_is (any_seat m seen mine seat st);
}
  where
    mine : State
    mine = (own_tasks d c).after (seen_by d c) t

    bring : Seat → Seat
    bring = brought t.order d.shared.base mine.shared.base

    all_seats : before' ++ m.seat ∷ behind' ≡ each_seat c mine.seat bring d.seats
    all_seats =
        ap₂ (λ (a z : List Seat). a ++ m.seat ∷ z) before behind ∙ ap (λ (seat : Seat). map bring first ++ seat ∷ map bring second) st.seat
        ∙ sym (ap (λ (l : List Seat). each_seat c mine.seat bring l) split.seats ∙ (ap (λ (n : ℕ). each_seat n mine.seat bring (first ++ own ∷ second)) split.place ∙ each_split first mine.seat own bring second))

-- ---- what every machine of a desk keeps

abbrev pub SoundFor : Holding → Seen → Seat → Type 0
SoundFor holding seen seat = Sound (with_seat holding seat) seen

pub sound_fits : (holding : Holding) (seen : Seen) (seats : List Seat) → All (SoundFor holding seen) seats → All (Fitting (length holding.kept.entries)) seats
sound_fits holding seen seats all = All-weaker (SoundFor holding seen) (Fitting (length holding.kept.entries)) (λ seat sound. sound.fits) seats all

front_back : (P : Seat → Type 0) (xs ys : List Seat) → All P (xs ++ ys) → All P xs × All P ys
front_back P [] ys all = (All-nil P, all)
front_back P (x ∷ xs) ys all =
    let rest = front_back P xs ys (All-tail P x (xs ++ ys) all) in
    (All-cons P x xs (All-head P x (xs ++ ys) all) rest.0, rest.1)

pub sound_split : (held : DeskHolding) (seen : Seen) (own : Seat) (first second : List Seat) → held.seats ≡ first ++ own ∷ second → DeskSound held seen
    → All (SoundFor held.holding seen) first × (Sound (with_seat held.holding own) seen × All (SoundFor held.holding seen) second)
sound_split held seen own first second seats sound =
    let parts = front_back (SoundFor held.holding seen) first (own ∷ second) (subst (λ (l : List Seat). All (SoundFor held.holding seen) l) seats sound) in
    (parts.0, (All-head (SoundFor held.holding seen) own second parts.1, All-tail (SoundFor held.holding seen) own second parts.1))

-- They are sound behind the line.
pub sound_behind : (m : Holding) (held : DeskHolding) (seen : Seen) (before' behind' : List Seat) (own' : Seat) → Sound m seen → held.holding.kept ≡ m.kept → held.holding.tables ≡ m.tables → Fitting (length m.kept.entries) own'
    → All (Fitting (length m.kept.entries)) before' → All (Fitting (length m.kept.entries)) behind' → held.seats ≡ before' ++ own' ∷ behind' → DeskSound held seen
sound_behind m held seen before' behind' own' sound kept tables own before behind seats =
    subst (λ (l : List Seat). All (SoundFor held.holding seen) l) (sym seats)
    (All-append (SoundFor held.holding seen) before' (own' ∷ behind') (all before' before) (All-cons (SoundFor held.holding seen) own' behind' (one own' own) (all behind' behind)))
  where
    one : (seat : Seat) → Fitting (length m.kept.entries) seat → SoundFor held.holding seen seat
    one seat fits =
        subst (λ (h : Holding). Sound h seen) (ap₂ (λ k t. record { kept = k; tables = t; seat = seat }) (sym kept) (sym tables))
        (record { fits = fits; tables = sound.tables; base = sound.base; at_end = sound.at_end })

    all : (seats : List Seat) → All (Fitting (length m.kept.entries)) seats → All (SoundFor held.holding seen) seats
    all seats fits = All-weaker (Fitting (length m.kept.entries)) (SoundFor held.holding seen) one seats fits

-- ---- what the machine of a desk keeps for each

pub fits_of : (held : DeskHolding) (seen : Seen) → DeskSound held seen → All (λ seat. FitsGames seat (length held.holding.kept.entries)) held.seats
fits_of held seen sound = sound_fits held.holding seen held.seats sound

pub tables_of : (held : DeskHolding) (seen : Seen) (c : ℕ) → c < length held.seats → DeskSound held seen → TablesFit held.holding
tables_of held seen c less sound = (sound c (first_seat 0) less).tables

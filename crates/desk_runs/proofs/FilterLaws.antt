-- Laws of the filters of the clients at a desk.
use Rattle.std.proofs.Common.{◌≡◌, ◌≤◌, ℕ, zero, suc, Bool, true, false, [], ◌∷◌, List, Option, Some, None, Result, Ok, Err, length, map, replicate, slice_get, unwrap_or, get_or, refl, sym, ap, ◌∙◌, subst, arith, inl, inr}
use Rattle.std.specs.Prelude.{IfSome, if◌then◌else◌, nat_lt}
use Rattle.std.proofs.lemmas.Bool.{ltb-false, ltb-true}
use Rattle.std.proofs.lemmas.List.{length-map, length-replicate}
use Rattle.std.proofs.lemmas.List.Elements.{All-map, All-nil}
use Rattle.base_core.proofs.MarkLaws.{changed-length}
use Rattle.base_core.specs.Base.{Base, Held}
use Rattle.base_core.specs.Compacted.{compacted}
use Rattle.base_core.specs.Edits.{game_replaced, held_of}
use Rattle.command_runs.specs.Plain.{after_all}
use Rattle.edit_commands.proofs.CompactLaws.{length_moved}
use Rattle.edit_commands.specs.Compacting.{compacted_state, is_within, numbers_of}
use Rattle.filter_seat.proofs.FollowLaws.{longer}
use Rattle.filter_seat.proofs.SavedLaws.{length_to_start}
use Rattle.filter_seat.specs.Following.{Moving, filter_after}
use Rattle.filter_seat.specs.SavedFilters.{kept_with}
use Rattle.filter_seat.specs.Seats.{Seat, first_seat}
use Rattle.filter_seat.specs.declared.saved.SavedFilter.{SavedFilter}
use Rattle.game_filter.proofs.Renumberings.{length-renumbered-le}
use Rattle.game_filter.specs.Renumbering.{Numbering}
use Rattle.game_tree.specs.Game.{GameTree}
use Rattle.game_tree.specs.declared.head.Head.{Head}
use Rattle.intake_commands.specs.Importing.{state_with, the_new}
use Rattle.script_lines.specs.Clients.{Tagged, has_ended}
use Rattle.script_text.specs.Tasks.{Order, Task}
use Rattle.script_text.specs.declared.command.Command.TheVariants.{Compact, Replace}
use Rattle.shell_commands.proofs.FitLaws.{task_has}
use Rattle.shell_commands.specs.Tasks.{order_work}
use Rattle.shell_state.specs.Slots.{Slot}
use Rattle.shell_state.specs.State.{HasFilters, Shared, State}
use Rattle.view_commands.specs.declared.window.Window.{Window}
use Rattle.desk_commands.proofs.BringLaws.{none_moved, some_added}
use Rattle.desk_commands.proofs.KindLaws.{more_games, same_games}
use Rattle.desk_commands.proofs.SharedLaws.{Own, state_of}
use Rattle.desk_commands.specs.Desk.{Desk, brought, desk_begin, desk_by, desk_done, desks, each_seat, moved_by, own_tasks, seen_by, window_of}
use Rattle.desk_commands.specs.Kinds.{order_kind}
use Rattle.desk_commands.specs.declared.kinds.Kind.{Kind}
use Rattle.desk_commands.specs.declared.kinds.Kind.TheVariants.{Adds, Private, Public}
use Rattle.desk_commands.specs.declared.kinds.Kind.TheVariants as kinds
use Rattle.desk_runs.specs.Filters.{AllFit, state_of_seat}

-- ---- the seats of a list

in_mapped : (bring : Seat → Seat) (Before After : Seat → Type 0) (seats : List Seat) → ((seat : Seat) → Before seat → After (bring seat)) → ((i : ℕ) → IfSome (slice_get seats i) Before)
    → (i : ℕ) → IfSome (slice_get (map bring seats) i) After
in_mapped bring Before After [] step has zero = tt
in_mapped bring Before After [] step has (suc i) = tt
in_mapped bring Before After (seat ∷ seats) step has zero = step seat (has zero)
in_mapped bring Before After (seat ∷ seats) step has (suc i) = in_mapped bring Before After seats step (λ j. has (suc j)) i

in_each : (client : ℕ) (own : Seat) (bring : Seat → Seat) (Before After : Seat → Type 0) (seats : List Seat) → IfSome (slice_get seats client) (λ seat. After own) → ((seat : Seat) → Before seat → After (bring seat))
    → ((i : ℕ) → IfSome (slice_get seats i) Before) → (i : ℕ) → IfSome (slice_get (each_seat client own bring seats) i) After
in_each client own bring Before After [] his step has zero = tt
in_each client own bring Before After [] his step has (suc i) = tt
in_each zero own bring Before After (seat ∷ seats) his step has zero = his
in_each zero own bring Before After (seat ∷ seats) his step has (suc i) = in_mapped bring Before After seats step (λ j. has (suc j)) i
in_each (suc client) own bring Before After (seat ∷ seats) his step has zero = step seat (has zero)
in_each (suc client) own bring Before After (seat ∷ seats) his step has (suc i) = in_each client own bring Before After seats his step (λ j. has (suc j)) i

-- ---- what is brought to a seat

-- What a command makes of what is shared and of what its client has.
abbrev after_by : Window → Order → List ℕ → Shared → Own → State
after_by w order body h own = (order_work w order body).after (state_of h own)

-- A filter moves to one that has an entry for each game that there is then.
abbrev Moves : Moving → ℕ → ℕ → Type 0
Moves moving old new = (plies : List (Option ℕ)) → length plies ≡ old → length (filter_after None moving plies) ≡ new

moves_none : (moving : Moving) (old new : ℕ) → moving ≡ Moving.nothing → new ≡ old → Moves moving old new
moves_none moving old new is same = λ plies long. ap (λ (m : Moving). length (filter_after None m plies)) is ∙ (long ∙ sym same)

moves_more : (moving : Moving) (old new : ℕ) → moving ≡ Moving.added new → old ≤ new → Moves moving old new
moves_more moving old new is more = λ plies long. ap (λ (m : Moving). length (filter_after None m plies)) is ∙ longer None new plies (omega (arith, long, more))

moves_start : (grows : Bool) (game old : ℕ) → Moves (if grows then Moving.started game else Moving.nothing) old old
moves_start true game old = λ plies long. length_to_start game plies ∙ long
moves_start false game old = λ plies long. long

replaced_games : (s : State) (game : ℕ) (new : Result (Head × GameTree) (List ℕ)) → length (state_with s game new).shared.base.games ≡ length s.shared.base.games
unfolding game_replaced
replaced_games s game (Ok new) = changed-length (λ (_ : Held). held_of new.0 new.1) game s.shared.base.games
replaced_games s game (Err line) = refl

abbrev numbers : Base → Numbering
numbers base = record { to = numbers_of base; kept = length (compacted base).games }

-- By whether the base was compacted, and has fewer games then.
moves_left : (s : State) (within fewer : Bool) → nat_lt (length (if within then compacted_state s else s).shared.base.games) (length s.shared.base.games) ≡ fewer
    → Moves (if fewer then Moving.numbered (numbers s.shared.base) else Moving.nothing) (length s.shared.base.games) (length (if within then compacted_state s else s).shared.base.games)
moves_left s true true is = λ plies long. length_moved s.shared.base plies long
moves_left s true false is = λ plies long.
    omega (arith, long, ltb-false (length (compacted s.shared.base).games) (length s.shared.base.games) is, length_moved s.shared.base plies long, length-renumbered-le (numbers_of s.shared.base) plies)
moves_left s false true is = absurd (omega (arith, ltb-true (length s.shared.base.games) (length s.shared.base.games) is))
moves_left s false false is = λ plies long. long

-- Whatever a command does.
line_moves : (kind : Kind) (w : Window) (order : Order) (body : List ℕ) (h : Shared) (own : Own) → order_kind order ≡ kind
    → Moves (moved_by order h.base (after_by w order body h own).shared.base) (length h.base.games) (length (after_by w order body h own).shared.base.games)
line_moves Private w order body h own is = moves_none _ _ _ (none_moved order h.base (after_by w order body h own).shared.base (inl is)) (same_games w order body h own (inl is))
line_moves Public w order body h own is = moves_none _ _ _ (none_moved order h.base (after_by w order body h own).shared.base (inr is)) (same_games w order body h own (inr is))
line_moves Adds w order body h own is = moves_more _ _ _ (some_added order h.base (after_by w order body h own).shared.base is) (more_games w order body h own is)
line_moves kinds.Moves w (Ok (Replace game word)) body h own is =
    let same = replaced_games (state_of h own) game (the_new (state_of h own) game body) in
    subst (λ (n : ℕ). Moves (moved_by (Ok (Replace game word)) h.base (after_by w (Ok (Replace game word)) body h own).shared.base) (length h.base.games) n) (sym same)
    (moves_start (nat_lt h.base.end (after_by w (Ok (Replace game word)) body h own).shared.base.end) game (length h.base.games))
line_moves kinds.Moves w (Ok Compact) body h own is = moves_left (state_of h own) (is_within h.base) _ refl
line_moves kinds.Moves w _ body h own is = absurd cc

brings : (w : Window) (order : Order) (body : List ℕ) (h : Shared) (own : Own) (seat : Seat) → HasFilters (state_of_seat h seat)
    → HasFilters (state_of_seat (after_by w order body h own).shared (brought order h.base (after_by w order body h own).shared.base seat))
brings w order body h own seat has =
    let later : Shared = (after_by w order body h own).shared in
    let change : List (Option ℕ) → List (Option ℕ) = filter_after None (moved_by order h.base later.base) in
    let moves = line_moves (order_kind order) w order body h own refl in
    record {
      fit = record {
        filter = moves seat.filter has.fit.filter;
        saved =
            All-map (λ (f : SavedFilter). length f.plies ≡ length later.base.games) (kept_with change) seat.saved
            (λ k d within. moves (get_or seat.saved k d).plies (has.fit.saved k d within));
      };
      few = omega (arith, has.few, length-map seat.saved (kept_with change));
    }

-- ---- a line

-- The seat of the client who says it.
his_own : (desk : Desk) (client : ℕ) (task : Task) (o : Option Seat) → slice_get desk.seats client ≡ o → IfSome o (λ (seat : Seat). HasFilters (state_of_seat desk.shared seat))
    → IfSome o (λ seat. HasFilters (state_of_seat ((own_tasks desk client).after (seen_by desk client) task).shared ((own_tasks desk client).after (seen_by desk client) task).seat))
his_own desk client task None is has = tt
his_own desk client task (Some seat) is has =
    let his : (seen_by desk client).seat ≡ seat = ap (λ (o : Option Seat). unwrap_or o (first_seat 0)) is in
    let now : HasFilters (state_of_seat desk.shared (seen_by desk client).seat) = subst (λ (x : Seat). HasFilters (state_of_seat desk.shared x)) (sym his) has in
    let kept = task_has (window_of desk.clients client) (seen_by desk client) task (record { fit = record { filter = now.fit.filter; saved = now.fit.saved }; few = now.few }) in
    record { fit = record { filter = kept.fit.filter; saved = kept.fit.saved }; few = kept.few }

said_fits : (desk : Desk) (client : ℕ) (task : Task) → AllFit desk → AllFit (desk_by desk client task)
said_fits desk client task has =
    let later : State = (own_tasks desk client).after (seen_by desk client) task in
    let own : Own = record { seat = (seen_by desk client).seat; slots = desk.slots } in
    in_each client later.seat (brought task.order desk.shared.base later.shared.base) (λ (seat : Seat). HasFilters (state_of_seat desk.shared seat)) (λ (seat : Seat). HasFilters (state_of_seat later.shared seat)) desk.seats
    (his_own desk client task (slice_get desk.seats client) refl (has client))
    (λ seat fits. brings (window_of desk.clients client) task.order task.body desk.shared own seat fits)
    has

either_fits : (test : Bool) (x y : Desk) → AllFit x → AllFit y → AllFit (if test then x else y)
either_fits true x y one other = one
either_fits false x y one other = other

done_fits : (client : Option ℕ) (desk : Desk) (task : Task) → AllFit desk → AllFit (desk_done desk client task)
done_fits None desk task has = has
done_fits (Some client) desk task has = either_fits (has_ended desk.clients client) desk (desk_by desk client task) has (said_fits desk client task has)

pub line_fits : (desk : Desk) (t : Tagged) → AllFit desk → AllFit (desks.after desk t)
line_fits desk t has = done_fits t.client desk t.task has

-- ---- a script

lines_fit : (desk : Desk) (done : List Tagged) → AllFit desk → AllFit (after_all desks desk done)
lines_fit desk [] has = has
lines_fit desk (t ∷ done) has = lines_fit (desks.after desk t) done (line_fits desk t has)

in_replicated : (count : ℕ) (seat : Seat) (P : Seat → Type 0) → P seat → (i : ℕ) → IfSome (slice_get (replicate count seat) i) P
in_replicated zero seat P has zero = tt
in_replicated zero seat P has (suc i) = tt
in_replicated (suc count) seat P has zero = has
in_replicated (suc count) seat P has (suc i) = in_replicated count seat P has i

pub script_fits : (tagged created : Bool) (fresh : Option (List ℕ)) (slots : List Slot) (base : Base) (done : List Tagged) → AllFit (after_all desks (desk_begin tagged created fresh slots base) done)
script_fits tagged created fresh slots base done =
    let games : ℕ = length base.games in
    lines_fit (desk_begin tagged created fresh slots base) done
    (in_replicated (if tagged then 4 else 1) (first_seat games) (λ (seat : Seat). HasFilters (state_of_seat (desk_begin tagged created fresh slots base).shared seat))
    (record { fit = record { filter = length-replicate games (Some 0); saved = All-nil _ }; few = omega arith }))

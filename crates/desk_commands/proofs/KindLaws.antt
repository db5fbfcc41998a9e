-- What the kinds of commands leave as it is.
use Rattle.std.proofs.Common.{◌≡◌, ◌≤◌, ◌+◌, ℕ, Bool, true, false, cond, List, [], ◌∷◌, ◌++◌, Option, Some, None, Result, Ok, Err, slice_get, refl, sym, ap, ◌∙◌, length, arith, ◌⊎◌, inl, inr}
use Rattle.std.proofs.lemmas.List.{length-append, length-replicate}
use Rattle.std.proofs.lemmas.List.Elements.{All-nil}
use Rattle.base_core.specs.Base.{Base, Held}
use Rattle.base_core.specs.Compacted.{compacted}
use Rattle.base_core.specs.Edits.{deleted, marked, tagged, undeleted}
use Rattle.base_files.specs.Seen.{Seen}
use Rattle.command_runs.specs.Plain.{after_all}
use Rattle.eco_class.specs.Reading.{table_of}
use Rattle.eco_class.specs.Table.{Opening}
use Rattle.eco_class.specs.declared.fault.EcoFault.{EcoFault}
use Rattle.edit_commands.specs.Compacting.{compacted_state, is_within}
use Rattle.edit_commands.proofs.TagLaws.{tagged_there, unless_refused}
use Rattle.edit_commands.proofs.EditLaws.{edited_there}
use Rattle.filter_seat.specs.Seats.{Seat, first_seat}
use Rattle.game_tree.specs.Game.{GameTree}
use Rattle.game_tree.specs.TagEdit.{edited}
use Rattle.game_tree.specs.declared.head.Head.{Head}
use Rattle.game_tree.specs.declared.tag_edit.TagEdit.{TagEdit}
use Rattle.index_commands.specs.Indexing.{is_too_big}
use Rattle.search_commands.proofs.DemoLaws.{adding_carried, unless_shown}
use Rattle.intake_commands.proofs.IntakeLaws.{item_keeps}
use Rattle.search_commands.specs.Demo.{adding}
use Rattle.intake_commands.specs.Importing.{Intake, intake, item_after, none_taken, state_with, the_new}
use Rattle.pgn_read.specs.Items.{items_of}
use Rattle.pgn_read.specs.declared.item.Item.{Item}
use Rattle.report_commands.specs.Classifying.{state_by}
use Rattle.report_commands.specs.Twins.{found_twins, with_deleted}
use Rattle.script_text.specs.Tasks.{Order, task}
use Rattle.script_text.specs.declared.command.Command.TheVariants.{Import, Replace, Eco, Tag, Delete, Undelete, Mark, Twins, Index, Save, Demo, Quit, Compact}
use Rattle.shell_commands.proofs.FitLaws.{task_has}
use Rattle.shell_commands.proofs.RefusedLaws.{imported, made}
use Rattle.shell_commands.specs.Tasks.{order_left, tasks}
use Rattle.shell_state.proofs.CarryLaws.{MayCarry, carry_later}
use Rattle.shell_state.specs.Carrying.{CarryIt, StillCarry}
use Rattle.shell_state.specs.Refusing.{refusal_of}
use Rattle.shell_state.specs.Slots.{Slot}
use Rattle.shell_state.specs.Stands.{Holding, Stands}
use Rattle.shell_state.specs.State.{Carried, HasFilters, Shared, State, with_index}
use Rattle.shell_state.specs.declared.refusing.Refusal.{Refusal}
use Rattle.view_commands.specs.declared.window.Window.{Window}
use Rattle.desk_commands.proofs.SharedLaws.{Own, private-keeps, same-shared, state_of}
use Rattle.desk_commands.specs.Kinds.{is_private, order_kind}
use Rattle.desk_commands.specs.declared.kinds.Kind.TheVariants.{Private, Public, Adds}

-- ---- which commands are of a kind

-- ---- public commands leave the seat

seat-there : (edit : Base → Base) (s : State) (held : Option Held) → (edited_there edit s held).seat ≡ s.seat
seat-there edit s (Some held) = refl
seat-there edit s None = refl

seat-unless : (s : State) (line : Option (List ℕ)) (base : Base) → (unless_refused line s base).seat ≡ s.seat
seat-unless s (Some line) base = refl
seat-unless s None base = refl

seat-tagged : (game : ℕ) (edit : TagEdit) (s : State) (held : Option Held) → (tagged_there game edit s held).seat ≡ s.seat
seat-tagged game edit s (Some held) = seat-unless s (refusal_of s.shared.base (edited held.head edit) held.game) (tagged game edit s.shared.base)
seat-tagged game edit s None = refl

seat-classified : (s : State) (table : Result (List Opening) EcoFault) → (state_by s table).seat ≡ s.seat
seat-classified s (Ok table) = refl
seat-classified s (Err fault) = refl

seat-deleted : (s : State) (games : List ℕ) → (with_deleted s games).seat ≡ s.seat
seat-deleted s [] = refl
seat-deleted s (game ∷ games) = refl

seat-indexed : (s : State) (big : Bool) (depth : ℕ) → (cond big s (with_index s (Some depth))).seat ≡ s.seat
seat-indexed s true depth = refl
seat-indexed s false depth = refl

pub public_seat : (w : Window) (order : Order) (body : List ℕ) (s : State) → order_kind order ≡ Public → ((tasks w).after s (task order body)).seat ≡ s.seat
public_seat w (Ok (Eco word)) body s e = seat-classified s (table_of body)
public_seat w (Ok (Tag game edit)) body s e = seat-tagged game edit s (slice_get s.shared.base.games game)
public_seat w (Ok (Delete game)) body s e = seat-there (deleted game) s (slice_get s.shared.base.games game)
public_seat w (Ok (Undelete game)) body s e = seat-there (undeleted game) s (slice_get s.shared.base.games game)
public_seat w (Ok (Mark game bit on)) body s e = seat-there (marked game bit on) s (slice_get s.shared.base.games game)
public_seat w (Ok (Twins depth)) body s e = seat-deleted s (found_twins s depth)
public_seat w (Ok (Index (Some depth))) body s e = seat-indexed s (is_too_big s depth) depth
public_seat w (Ok (Index None)) body s e = refl
public_seat w (Ok Save) body s e = refl
public_seat w (Ok Quit) body s e = refl
public_seat w _ body s e = absurd cc

-- ---- how many games there are behind a command

abbrev games_in : Shared → ℕ
games_in h = length h.base.games

-- Whoever says it: one whose filter has an entry for each.
abbrev first_own : Shared → List Slot → Own
first_own h slots = record { seat = first_seat (games_in h); slots = slots }

first_has : (h : Shared) (slots : List Slot) → HasFilters (state_of h (first_own h slots))
first_has h slots = record { fit = record { filter = length-replicate (games_in h) (Some 0); saved = All-nil _ }; few = omega arith }

public_games : (w : Window) (order : Order) (body : List ℕ) (h : Shared) (own : Own) → order_kind order ≡ Public → games_in ((tasks w).after (state_of h own) (task order body)).shared ≡ games_in h
public_games w order body h own is =
    let s : State = state_of h (first_own h own.slots) in
    let has = task_has w s (task order body) (first_has h own.slots) in
    ap games_in (same-shared w order body h own (first_own h own.slots))
    ∙ (sym has.fit.filter ∙ (ap (λ (seat : Seat). length seat.filter) (public_seat w order body s is) ∙ length-replicate (games_in h) (Some 0)))

is_private_by : (order : Order) → order_kind order ≡ Private → is_private (order_kind order) ≡ true
is_private_by order is = ap is_private is

pub same_games : (w : Window) (order : Order) (body : List ℕ) (h : Shared) (own : Own) → (order_kind order ≡ Private) ⊎ (order_kind order ≡ Public)
    → length ((tasks w).after (state_of h own) (task order body)).shared.base.games ≡ length h.base.games
same_games w order body h own (inl is) = ap games_in (private-keeps w order body h own (is_private_by order is))
same_games w order body h own (inr is) = public_games w order body h own is

grown : (old new more : List Held) → new ≡ old ++ more → length old ≤ length new
grown old new more is = omega (arith, ap (λ (l : List Held). length l) is, length-append old more)

pub more_games : (w : Window) (order : Order) (body : List ℕ) (h : Shared) (own : Own) → order_kind order ≡ Adds
    → length h.base.games ≤ length ((tasks w).after (state_of h own) (task order body)).shared.base.games
more_games w (Ok (Import word)) body h own e =
    let l = imported w (state_of h own) word body in
    grown h.base.games _ l.0 l.1
more_games w (Ok (Demo seed games)) body h own e =
    let l = made w (state_of h own) seed games body in
    grown h.base.games _ l.0 l.1
more_games w _ body h own e = absurd cc

-- ---- what the files carry behind a command that was done

carried-items : (i : Intake) (items : List Item) → (after_all intake i items).state.shared.carried ≡ i.state.shared.carried
carried-items i [] = refl
carried-items i (item ∷ items) = carried-items (item_after i item) items ∙ item_keeps i item

carried-shown : (o : Option Refusal) (s : State) → (unless_shown o s).shared.carried ≡ s.shared.carried
carried-shown (Some line) s = refl
carried-shown None s = refl

carried-with : (s : State) (game : ℕ) (new : Result (Head × GameTree) (List ℕ)) → (state_with s game new).shared.carried ≡ s.shared.carried
carried-with s game (Ok new) = refl
carried-with s game (Err line) = refl

carried-there : (edit : Base → Base) (s : State) (held : Option Held) → (edited_there edit s held).shared.carried ≡ s.shared.carried
carried-there edit s (Some held) = refl
carried-there edit s None = refl

carried-unless : (s : State) (line : Option (List ℕ)) (base : Base) → (unless_refused line s base).shared.carried ≡ s.shared.carried
carried-unless s (Some line) base = refl
carried-unless s None base = refl

carried-tagged : (game : ℕ) (edit : TagEdit) (s : State) (held : Option Held) → (tagged_there game edit s held).shared.carried ≡ s.shared.carried
carried-tagged game edit s (Some held) = carried-unless s (refusal_of s.shared.base (edited held.head edit) held.game) (tagged game edit s.shared.base)
carried-tagged game edit s None = refl

carried-classified : (s : State) (table : Result (List Opening) EcoFault) → (state_by s table).shared.carried ≡ s.shared.carried
carried-classified s (Ok table) = refl
carried-classified s (Err fault) = refl

carried-deleted : (s : State) (games : List ℕ) → (with_deleted s games).shared.carried ≡ s.shared.carried
carried-deleted s [] = refl
carried-deleted s (game ∷ games) = refl

carried-indexed : (s : State) (big : Bool) (depth : ℕ) → (cond big s (with_index s (Some depth))).shared.carried ≡ s.shared.carried
carried-indexed s true depth = refl
carried-indexed s false depth = refl

written-whole : (seen : Seen) (carried : Option Carried) (left : Base → Base) (base : Base) → CarryIt seen (left base) → MayCarry seen carried (Some left) base
written-whole seen (Some own) left base carries = inr carries
written-whole seen None left base carries = tt

saved-carry : (holding : Holding) (seen : Seen) (s : State) (body : List ℕ) (w : Window) → Stands holding seen ((tasks w).after s (task (Ok Save) body)) → StillCarry seen s (order_left (Ok Save))
saved-carry holding seen s body w st = written-whole seen s.shared.carried (λ base. base) s.shared.base (st.carried.contents, st.carried.carries)

compact-carry : (holding : Holding) (seen : Seen) (s : State) (within : Bool) → Stands holding seen (cond within (compacted_state s) s) → StillCarry seen s (order_left (Ok Compact))
compact-carry holding seen s true st = written-whole seen s.shared.carried compacted s.shared.base (st.carried.contents, st.carried.carries)
compact-carry holding seen s false st = carry_later holding seen s s (order_left (Ok Compact)) refl st

public-carry : (w : Window) (order : Order) (body : List ℕ) (holding : Holding) (seen : Seen) (s : State) → is_private (order_kind order) ≡ false → Stands holding seen ((tasks w).after s (task order body)) → StillCarry seen s (order_left order)
public-carry w (Ok Save) body holding seen s e st = saved-carry holding seen s body w st
public-carry w (Ok Compact) body holding seen s e st = compact-carry holding seen s (is_within s.shared.base) st
public-carry w (Ok (Import word)) body holding seen s e st = carry_later holding seen s _ (order_left (Ok (Import word))) (carried-items (none_taken s) (items_of body)) st
public-carry w (Ok (Replace game word)) body holding seen s e st = carry_later holding seen s _ (order_left (Ok (Replace game word))) (carried-with s game (the_new s game body)) st
public-carry w (Ok (Eco word)) body holding seen s e st = carry_later holding seen s _ (order_left (Ok (Eco word))) (carried-classified s (table_of body)) st
public-carry w (Ok (Tag game edit)) body holding seen s e st = carry_later holding seen s _ (order_left (Ok (Tag game edit))) (carried-tagged game edit s (slice_get s.shared.base.games game)) st
public-carry w (Ok (Delete game)) body holding seen s e st = carry_later holding seen s _ (order_left (Ok (Delete game))) (carried-there (deleted game) s (slice_get s.shared.base.games game)) st
public-carry w (Ok (Undelete game)) body holding seen s e st = carry_later holding seen s _ (order_left (Ok (Undelete game))) (carried-there (undeleted game) s (slice_get s.shared.base.games game)) st
public-carry w (Ok (Mark game bit on)) body holding seen s e st = carry_later holding seen s _ (order_left (Ok (Mark game bit on))) (carried-there (marked game bit on) s (slice_get s.shared.base.games game)) st
public-carry w (Ok (Twins depth)) body holding seen s e st = carry_later holding seen s _ (order_left (Ok (Twins depth))) (carried-deleted s (found_twins s depth)) st
public-carry w (Ok (Index (Some depth))) body holding seen s e st = carry_later holding seen s _ (order_left (Ok (Index (Some depth)))) (carried-indexed s (is_too_big s depth) depth) st
public-carry w (Ok (Index None)) body holding seen s e st = carry_later holding seen s _ (order_left (Ok (Index None))) refl st
public-carry w (Ok (Demo seed games)) body holding seen s e st =
    carry_later holding seen s _ (order_left (Ok (Demo seed games))) (carried-shown (adding s seed games).refused (adding s seed games).state ∙ adding_carried s seed games) st
public-carry w (Ok Quit) body holding seen s e st = carry_later holding seen s _ (order_left (Ok Quit)) refl st
public-carry w _ body holding seen s e st = absurd cc

private-carry : (w : Window) (order : Order) (body : List ℕ) (holding : Holding) (seen : Seen) (s : State) → is_private (order_kind order) ≡ true → Stands holding seen ((tasks w).after s (task order body)) → StillCarry seen s (order_left order)
private-carry w order body holding seen s is st =
    carry_later holding seen s _ (order_left order) (ap (λ (h : Shared). h.carried) (private-keeps w order body s.shared (record { seat = s.seat; slots = s.slots }) is)) st

carry-either : (w : Window) (order : Order) (body : List ℕ) (holding : Holding) (seen : Seen) (s : State) (b : Bool) → is_private (order_kind order) ≡ b → Stands holding seen ((tasks w).after s (task order body)) → StillCarry seen s (order_left order)
carry-either w order body holding seen s true is st = private-carry w order body holding seen s is st
carry-either w order body holding seen s false is st = public-carry w order body holding seen s is st

-- Where the machine stands for the state behind it, the files carry what they carried, or what it leaves.
pub carry_behind : (w : Window) (order : Order) (body : List ℕ) (holding : Holding) (seen : Seen) (s : State) → Stands holding seen ((tasks w).after s (task order body)) → StillCarry seen s (order_left order)
carry_behind w order body holding seen s st = carry-either w order body holding seen s (is_private (order_kind order)) refl st

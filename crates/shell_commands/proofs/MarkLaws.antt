-- Commands that change games in what no view shows.
use Rattle.std.proofs.Common.{◌≡◌, ℕ, Bool, true, false, List, [], ◌∷◌, ◌++◌, Option, Some, None, Result, Ok, Err, refl, sym, ap, ap₂, subst, true≢false, ◌∙◌}
use Rattle.std.specs.Prelude.{if◌then◌else◌, slice_get, option_to_list}
use Rattle.base_core.specs.Base.{Base, Held}
use Rattle.base_core.specs.Edits.{deleted, marked, undeleted}
use Rattle.cell_core.specs.Packed.{Packed}
use Rattle.eco_class.specs.Reading.{table_of}
use Rattle.eco_class.specs.Table.{Opening}
use Rattle.eco_class.specs.declared.fault.EcoFault.{EcoFault}
use Rattle.edit_commands.proofs.EditLaws.{edited_there, hits_deleted, hits_marked, hits_undeleted}
use Rattle.index_commands.specs.Indexing.{is_too_big}
use Rattle.report_commands.proofs.EcoLaws.{classified_hits}
use Rattle.report_commands.proofs.TwinLaws.{deleted_hits}
use Rattle.report_commands.specs.Classifying.{state_by}
use Rattle.report_commands.specs.Twins.{found_twins, with_deleted}
use Rattle.script_text.specs.Tasks.{task}
use Rattle.script_text.specs.declared.command.Command.{Command}
use Rattle.script_text.specs.declared.command.Command.TheVariants.{Cross, Delete, Drop, Eco, Export, Hits, Index, Info, Keep, List as Listing, Mark, Nothing, Quit, Save, Show, Tree, Twins, Undelete}
use Rattle.shell_commands.proofs.ViewLaws.{moves_none}
use Rattle.shell_commands.specs.Parts.{is_unshown, part_of}
use Rattle.shell_commands.specs.Tasks.{command_work}
use Rattle.shell_commands.specs.Watching.{ViewsDone}
use Rattle.shell_commands.specs.declared.parts.Part.TheVariants.{Slots}
use Rattle.shell_state.proofs.TableLaws.{hits_on}
use Rattle.shell_state.specs.Meeting.{tree_hits}
use Rattle.shell_state.specs.Slots.{Slot, exactly_on, hit_of_game, slot_at}
use Rattle.shell_state.specs.Slots.Slot.{empty, idle, shows}
use Rattle.shell_state.specs.State.{State, with_index}
use Rattle.sig_index.specs.declared.pos_query.PosQuery.{PosQuery}
use Rattle.tree_live.specs.Slots.{in_slot}
use Rattle.tree_live.specs.Views.{Shows, Told}
use Rattle.tree_rows.specs.declared.hit.GameHit.{GameHit}
use Rattle.tree_rows.specs.declared.row.Row.{Row}
use Rattle.view_commands.proofs.ToldLaws.{told_same}
use Rattle.view_commands.specs.Views.{AreRight, IsRight, shown_hits}
use Rattle.view_commands.specs.declared.window.Window.{Window}

-- ---- states that views can't tell apart

-- The tree of every board counts the same in both.
abbrev pub CountAlike : State → State → Type 0
CountAlike s t = (board : Packed) → shown_hits t board ≡ shown_hits s board

pub tree_alike : (query : PosQuery) (plies : List (Option ℕ)) (games games' : List Held) → hits_on query games' ≡ hits_on query games → tree_hits query plies games' ≡ tree_hits query plies games
tree_alike query [] games games' same = refl
tree_alike query (ply ∷ plies) [] [] same = refl
tree_alike query (ply ∷ plies) [] (held' ∷ games') same = absurd cc
tree_alike query (ply ∷ plies) (held ∷ games) [] same = absurd cc
tree_alike query (None ∷ plies) (held ∷ games) (held' ∷ games') same =
    let rest : hits_on query games' ≡ hits_on query games = cc in
    tree_alike query plies games games' rest
tree_alike query (Some ply ∷ plies) (held ∷ games) (held' ∷ games') same =
    let head : hit_of_game query held' ≡ hit_of_game query held = cc in
    let rest : hits_on query games' ≡ hits_on query games = cc in
    ap₂ (λ (hit : Option GameHit) (hits : List GameHit). option_to_list hit ++ hits) head (tree_alike query plies games games' rest)

pub right_alike : {B : Type 0} (rows : B → List Row) (s t : State) (slot : Slot) (view : Option B) → CountAlike s t → IsRight rows s slot view → IsRight rows t slot view
right_alike rows s t empty view alike is = is
right_alike rows s t idle view alike is = is
right_alike rows s t (shows board) None alike is = is
right_alike rows s t (shows board) (Some view) alike is = subst (λ (hits : List GameHit). Shows hits (rows view)) (sym (alike board)) is

-- ---- marks and opening codes

there_alike : (edit : Base → Base) (s : State) (held : Option Held) → ((query : PosQuery) → hits_on query (edit s.shared.base).games ≡ hits_on query s.shared.base.games) → CountAlike s (edited_there edit s held)
there_alike edit s (Some held) same = λ board. tree_alike (exactly_on board) s.seat.filter s.shared.base.games (edit s.shared.base).games (same (exactly_on board))
there_alike edit s None same = λ board. refl

codes_alike : (s : State) (table : Result (List Opening) EcoFault) → CountAlike s (state_by s table)
codes_alike s (Ok table) = λ board. tree_alike (exactly_on board) s.seat.filter s.shared.base.games (state_by s (Ok table)).shared.base.games (classified_hits table (exactly_on board) s.shared.base.games)
codes_alike s (Err fault) = λ board. refl

twins_alike : (s : State) (games : List ℕ) → CountAlike s (with_deleted s games)
twins_alike s [] = λ board. refl
twins_alike s (game ∷ games) = λ board.
    tree_alike (exactly_on board) s.seat.filter s.shared.base.games (with_deleted s (game ∷ games)).shared.base.games (deleted_hits (exactly_on board) (game ∷ games) s.shared.base)

index_alike : (big : Bool) (s : State) (depth : ℕ) → CountAlike s (if big then s else with_index s (Some depth))
index_alike true s depth = λ board. refl
index_alike false s depth = λ board. refl

pub marks_alike : (w : Window) (s : State) (command : Command) (body : List ℕ) → is_unshown (part_of command) ≡ true → CountAlike s ((command_work w command body).after s)
marks_alike w s (Eco word) body is = codes_alike s (table_of body)
marks_alike w s (Delete game) body is = there_alike (deleted game) s (slice_get s.shared.base.games game) (hits_deleted game s.shared.base)
marks_alike w s (Undelete game) body is = there_alike (undeleted game) s (slice_get s.shared.base.games game) (hits_undeleted game s.shared.base)
marks_alike w s (Mark game bit on) body is = there_alike (marked game bit on) s (slice_get s.shared.base.games game) (hits_marked game bit on s.shared.base)
marks_alike w s (Twins depth) body is = twins_alike s (found_twins s depth)
marks_alike w s (Index (Some depth)) body is = index_alike (is_too_big s depth) s depth
marks_alike w s (Index None) body is = λ board. refl
marks_alike w s Nothing body is = λ board. refl
marks_alike w s (Keep name) body is = λ board. refl
marks_alike w s (Drop name) body is = λ board. refl
marks_alike w s Hits body is = λ board. refl
marks_alike w s Listing body is = λ board. refl
marks_alike w s (Show game) body is = λ board. refl
marks_alike w s Export body is = λ board. refl
marks_alike w s (Tree board side) body is = λ board. refl
marks_alike w s (Cross event) body is = λ board. refl
marks_alike w s Save body is = λ board. refl
marks_alike w s Info body is = λ board. refl
marks_alike w s Quit body is = λ board. refl
marks_alike w s _ body is = absurd cc

unshown_slots : (command : Command) → is_unshown (part_of command) ≡ true → part_of command ≡ Slots → ⊥
unshown_slots command is slots = true≢false (sym is ∙ ap is_unshown slots)

-- The views that were right are right.
pub marks_done : {B : Type 0} (rows : B → List Row) (told : B → Told) (w : Window) (s : State) (command : Command) (text : List ℕ) (views : List (Option B)) → is_unshown (part_of command) ≡ true → AreRight rows w s views
    → ViewsDone rows told w s (task (Ok command) text) views views
marks_done rows told w s command text views is right =
    let s' : State = (command_work w command text).after s in
    let slots = moves_none w s command text (unshown_slots command is) in
    record {
      right = λ i own.
          right_alike rows s s' (slot_at s'.slots i) (in_slot views i) (marks_alike w s command text is)
          (subst (λ (l : List Slot). IsRight rows s (slot_at l i) (in_slot views i)) (sym slots) (right i own));
      counted = λ i. told_same told _ (in_slot views i) (in_slot views i) refl;
    }

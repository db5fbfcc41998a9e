-- The law that every filter has an entry for each game, and that at most eight are kept, whatever the tasks.
use Rattle.std.proofs.Common.{◌≡◌, ℕ, ◌+◌, Bool, true, false, List, [], ◌∷◌, length, map, Option, Some, None, Result, Ok, Err, All, refl, sym, ap, ◌∙◌, subst, arith}
use Rattle.std.proofs.lemmas.List.{length-append, length-map, length-replicate}
use Rattle.std.proofs.lemmas.List.Elements.{All-nil}
use Rattle.std.specs.Prelude.{nat_lt, slice_get, slice_set, if◌then◌else◌}
use Rattle.std.specs.Option.{option_or}
use Rattle.base_core.proofs.MarkLaws.{changed-length}
use Rattle.base_core.specs.Base.{Base, Held}
use Rattle.base_core.specs.Compacted.{compacted}
use Rattle.base_core.specs.Edits.{added, deleted, game_replaced, held_of, marked, tagged, tagged_at, undeleted, with_head}
use Rattle.command_runs.specs.Plain.{after_all}
use Rattle.eco_class.specs.Reading.{table_of}
use Rattle.eco_class.specs.Table.{Opening}
use Rattle.eco_class.specs.declared.fault.EcoFault.{EcoFault}
use Rattle.edit_commands.proofs.CompactLaws.{length_moved}
use Rattle.edit_commands.specs.Compacting.{compacted_state, is_within, numbers_of}
use Rattle.edit_commands.proofs.TagLaws.{tagged_there, unless_refused}
use Rattle.edit_commands.proofs.EditLaws.{edited_there}
use Rattle.filter_commands.proofs.FilterLaws.{length_restricted}
use Rattle.filter_seat.proofs.SavedLaws.{length_joined, length_to_start}
use Rattle.filter_seat.proofs.SeatLaws.{AreKept, all_left_out, all_put_at_start, all_renumbered, joined_long, one_dropped, one_kept}
use Rattle.filter_seat.specs.SavedFilters.{kept_to_start, without_last}
use Rattle.filter_seat.specs.declared.saved.SavedFilter.{SavedFilter}
use Rattle.game_filter.proofs.Searches.{length-searched}
use Rattle.game_filter.specs.Filter.{in_both, intersection, turned, union}
use Rattle.game_filter.specs.declared.op.Op.TheVariants.{Ignore}
use Rattle.game_tree.specs.Game.{GameTree}
use Rattle.game_tree.specs.TagEdit.{edited}
use Rattle.game_tree.specs.declared.head.Head.{Head}
use Rattle.game_tree.specs.declared.tag_edit.TagEdit.{TagEdit}
use Rattle.search_commands.proofs.DemoLaws.{unless_shown}
use Rattle.search_commands.specs.Demo.{adding}
use Rattle.intake_commands.specs.Importing.{none_taken, state_with, the_new}
use Rattle.pgn_read.specs.Items.{items_of}
use Rattle.report_commands.specs.Classifying.{state_by}
use Rattle.report_commands.specs.Twins.{found_twins, with_deleted}
use Rattle.report_commands.specs.Ends.{all_deleted}
use Rattle.script_text.specs.Tasks.{Order, Task}
use Rattle.script_text.specs.declared.command.Command.{Command}
use Rattle.script_text.specs.declared.command.Command.TheVariants.{Find, SearchPosition, SearchMaterial, SearchHeader, Reset, Clear, Negate, Restrict, Keep, Take, And, Or, Drop, Import, Replace, Eco, Tag, Delete, Undelete, Mark, Watch, Unwatch, Twins, Index, Save, Demo, Compact}
use Rattle.shell_commands.proofs.GrowLaws.{adding_keeps, items_keep}
use Rattle.shell_commands.specs.Tasks.{command_work, order_work, tasks}
use Rattle.index_commands.specs.Indexing.{is_too_big}
use Rattle.shell_state.specs.Refusing.{refusal_of}
use Rattle.shell_state.specs.Slots.{Slot}
use Rattle.shell_state.specs.State.{HasFilters, Shared, State, begin, with_filter, with_game, with_index}
use Rattle.shell_state.specs.declared.refusing.Refusal.{Refusal}
use Rattle.view_commands.specs.Views.{with_slot}
use Rattle.view_commands.specs.declared.window.Window.{Window}

-- ---- one part changes

-- The filter, for one as long.
refiltered : (s : State) (plies : List (Option ℕ)) → length plies ≡ length s.seat.filter → HasFilters s → HasFilters (with_filter s plies)
refiltered s plies same has = record { fit = record { filter = same ∙ has.fit.filter; saved = has.fit.saved }; few = has.few }

-- The kept filters.
resaved : (s : State) (saved : List SavedFilter) → AreKept (length s.shared.base.games) saved → HasFilters s → HasFilters (record s { seat = record s.seat { saved = saved } })
resaved s saved kept has = record { fit = record { filter = has.fit.filter; saved = kept.0 }; few = kept.1 }

kept_of : (s : State) → HasFilters s → AreKept (length s.shared.base.games) s.seat.saved
kept_of s has = (has.fit.saved, has.few)

-- What is shared, with as many games.
reshared : (s : State) (shared : Shared) → length shared.base.games ≡ length s.shared.base.games → HasFilters s → HasFilters (record s { shared = shared })
reshared s shared same has = record {
  fit = record {
    filter = has.fit.filter ∙ sym same;
    saved = subst (λ (n : ℕ). All (λ (f : SavedFilter). length f.plies ≡ n) s.seat.saved) (sym same) has.fit.saved;
  };
  few = has.few;
}

-- What the slots show.
reslotted : (s : State) (slots : List Slot) → HasFilters s → HasFilters (record s { slots = slots })
reslotted s slots has = record { fit = record { filter = has.fit.filter; saved = has.fit.saved }; few = has.few }

with_has : (w : Window) (s : State) (number : ℕ) (slot : Slot) → HasFilters s → HasFilters (with_slot w s number slot)
with_has w s number slot has = by (nat_lt number w.count)
  where
    by : (b : Bool) → HasFilters (if b then record s { slots = slice_set s.slots (w.first + number) slot } else s)
    by true = reslotted s _ has
    by false = has

-- ---- edits

head_edited : (change : Head → Head) (i : ℕ) (base : Base) → length (with_head change i base).games ≡ length base.games
head_edited change i base = changed-length (λ (held : Held). record held { head = change held.head }) i base.games

deleted_long : (i : ℕ) (base : Base) → length (deleted i base).games ≡ length base.games
unfolding deleted
deleted_long i base = head_edited (λ (head : Head). record head { deleted = true }) i base

undeleted_long : (i : ℕ) (base : Base) → length (undeleted i base).games ≡ length base.games
unfolding undeleted
undeleted_long i base = head_edited (λ (head : Head). record head { deleted = false }) i base

marked_long : (i bit : ℕ) (on : Bool) (base : Base) → length (marked i bit on base).games ≡ length base.games
unfolding marked
marked_long i bit on base = changed-length _ i base.games

replaced_long : (i : ℕ) (head : Head) (game : GameTree) (base : Base) → length (game_replaced i head game base).games ≡ length base.games
unfolding game_replaced
replaced_long i head game base = changed-length (λ (_ : Held). held_of head game) i base.games

tagged_by : (i : ℕ) (edit : TagEdit) (held : Option Held) (base : Base) → length (tagged_at i edit held base).games ≡ length base.games
tagged_by i edit (Some held) base = replaced_long i (edited held.head edit) held.game base
tagged_by i edit None base = refl

tagged_long : (i : ℕ) (edit : TagEdit) (base : Base) → length (tagged i edit base).games ≡ length base.games
unfolding tagged
tagged_long i edit base = tagged_by i edit (slice_get base.games i) base

edited_has : (edit : Base → Base) (s : State) (held : Option Held) → length (edit s.shared.base).games ≡ length s.shared.base.games → HasFilters s → HasFilters (edited_there edit s held)
edited_has edit s (Some held) same has = reshared s _ same has
edited_has edit s None same has = has

unless_has : (line : Option (List ℕ)) (s : State) (base : Base) → length base.games ≡ length s.shared.base.games → HasFilters s → HasFilters (unless_refused line s base)
unless_has (Some line) s base same has = has
unless_has None s base same has = reshared s _ same has

tag_has : (game : ℕ) (edit : TagEdit) (s : State) (held : Option Held) → HasFilters s → HasFilters (tagged_there game edit s held)
tag_has game edit s (Some held) has = unless_has (refusal_of s.shared.base (edited held.head edit) held.game) s (tagged game edit s.shared.base) (tagged_long game edit s.shared.base) has
tag_has game edit s None has = has

all_deleted_long : (games : List ℕ) (base : Base) → length (all_deleted games base).games ≡ length base.games
all_deleted_long [] base = refl
all_deleted_long (game ∷ games) base = all_deleted_long games (deleted game base) ∙ deleted_long game base

twins_has : (s : State) (games : List ℕ) → HasFilters s → HasFilters (with_deleted s games)
twins_has s [] has = has
twins_has s (game ∷ games) has = reshared s _ (all_deleted_long (game ∷ games) s.shared.base) has

eco_has : (s : State) (table : Result (List Opening) EcoFault) → HasFilters s → HasFilters (state_by s table)
eco_has s (Ok table) has = reshared s _ (length-map s.shared.base.games _) has
eco_has s (Err fault) has = has

-- ---- games that come in

added_long : (head : Head) (game : GameTree) (base : Base) → length (added head game base).games ≡ length base.games + 1
unfolding added
added_long head game base = length-append base.games (held_of head game ∷ [])

one_has : (s : State) (head : Head) (game : GameTree) → HasFilters s → HasFilters (with_game s head game)
one_has s head game has =
    let more = added_long head game s.shared.base in
    let kept = all_left_out s.seat.saved (length s.shared.base.games) (kept_of s has) in
    record {
      fit = record {
        filter = length-append s.seat.filter (Some 0 ∷ []) ∙ ap (λ (n : ℕ). n + 1) has.fit.filter ∙ sym more;
        saved = subst (λ (n : ℕ). All (λ (f : SavedFilter). length f.plies ≡ n) (map without_last s.seat.saved)) (sym more) kept.0;
      };
      few = kept.1;
    }

shown_has : (why : Option Refusal) (s : State) → HasFilters s → HasFilters (unless_shown why s)
shown_has (Some why) s has = has
shown_has None s has = refiltered s _ (length-searched Ignore _ s.seat.filter) has

replaced_has : (s : State) (game : ℕ) (new : Result (Head × GameTree) (List ℕ)) → HasFilters s → HasFilters (state_with s game new)
replaced_has s game (Err line) has = has
replaced_has s game (Ok new) has =
    let same = replaced_long game new.0 new.1 s.shared.base in
    let kept = all_put_at_start game s.seat.saved (length s.shared.base.games) (kept_of s has) in
    record {
      fit = record {
        filter = length_to_start game s.seat.filter ∙ has.fit.filter ∙ sym same;
        saved = subst (λ (n : ℕ). All (λ (f : SavedFilter). length f.plies ≡ n) (map (kept_to_start game) s.seat.saved)) (sym same) kept.0;
      };
      few = kept.1;
    }

-- ---- games that go

compacted_has : (within : Bool) (s : State) → HasFilters s → HasFilters (if within then compacted_state s else s)
compacted_has false s has = has
compacted_has true s has =
    let kept = all_renumbered (numbers_of s.shared.base) s.seat.saved (length s.shared.base.games) (length (compacted s.shared.base).games) (length_moved s.shared.base) (kept_of s has) in
    record { fit = record { filter = length_moved s.shared.base s.seat.filter has.fit.filter; saved = kept.0 }; few = kept.1 }

-- ---- an index

indexed_has : (big : Bool) (s : State) (depth : ℕ) → HasFilters s → HasFilters (if big then s else with_index s (Some depth))
indexed_has true s depth has = has
indexed_has false s depth has = record { fit = record { filter = has.fit.filter; saved = has.fit.saved }; few = has.few }

-- ---- each command

command_has : (w : Window) (s : State) (command : Command) (body : List ℕ) → HasFilters s → HasFilters ((command_work w command body).after s)
command_has w s (Find board side) body has = refiltered s _ (length-searched Ignore _ s.seat.filter) has
command_has w s (SearchPosition op query) body has = refiltered s _ (length-searched op _ s.seat.filter) has
command_has w s (SearchMaterial op query) body has = refiltered s _ (length-searched op _ s.seat.filter) has
command_has w s (SearchHeader op query) body has = refiltered s _ (length-searched op _ s.seat.filter) has
command_has w s Reset body has = refiltered s _ (length-replicate (length s.seat.filter) (Some 0)) has
command_has w s Clear body has = refiltered s _ (length-replicate (length s.seat.filter) None) has
command_has w s Negate body has = refiltered s _ (length-map s.seat.filter turned) has
command_has w s (Restrict first last) body has = refiltered s _ (length_restricted first last s.seat.filter) has
command_has w s (Keep name) body has = resaved s _ (one_kept s.seat.saved name s.seat.filter (length s.shared.base.games) has.fit.filter (kept_of s has)) has
command_has w s (Take name) body has =
    refiltered s _ (joined_long s.seat.saved name (length s.shared.base.games) s.seat.filter (λ own other. other) has.fit.saved (λ other long. long) has.fit.filter ∙ sym has.fit.filter) has
command_has w s (And name) body has =
    refiltered s _ (joined_long s.seat.saved name (length s.shared.base.games) s.seat.filter intersection has.fit.saved (λ other long. length_joined in_both s.seat.filter other (has.fit.filter ∙ sym long) ∙ has.fit.filter) has.fit.filter ∙ sym has.fit.filter) has
command_has w s (Or name) body has =
    refiltered s _ (joined_long s.seat.saved name (length s.shared.base.games) s.seat.filter union has.fit.saved (λ other long. length_joined option_or s.seat.filter other (has.fit.filter ∙ sym long) ∙ has.fit.filter) has.fit.filter ∙ sym has.fit.filter) has
command_has w s (Drop name) body has = resaved s _ (one_dropped s.seat.saved name (length s.shared.base.games) (kept_of s has)) has
command_has w s (Import word) body has = items_keep HasFilters one_has (none_taken s) (items_of body) has
command_has w s (Replace game word) body has = replaced_has s game (the_new s game body) has
command_has w s (Eco word) body has = eco_has s (table_of body) has
command_has w s (Tag game edit) body has = tag_has game edit s (slice_get s.shared.base.games game) has
command_has w s (Delete game) body has = edited_has (deleted game) s (slice_get s.shared.base.games game) (deleted_long game s.shared.base) has
command_has w s (Undelete game) body has = edited_has (undeleted game) s (slice_get s.shared.base.games game) (undeleted_long game s.shared.base) has
command_has w s (Mark game bit on) body has = edited_has (marked game bit on) s (slice_get s.shared.base.games game) (marked_long game bit on s.shared.base) has
command_has w s (Watch slot board side) body has = with_has w s slot _ has
command_has w s (Unwatch slot) body has = with_has w s slot _ has
command_has w s (Twins depth) body has = twins_has s (found_twins s depth) has
command_has w s (Index (Some depth)) body has = indexed_has (is_too_big s depth) s depth has
command_has w s (Index None) body has = record { fit = record { filter = has.fit.filter; saved = has.fit.saved }; few = has.few }
command_has w s Save body has = reshared s _ refl has
command_has w s (Demo seed games) body has = shown_has (adding s seed games).refused (adding s seed games).state (adding_keeps HasFilters one_has s seed games has)
command_has w s Compact body has = compacted_has (is_within s.shared.base) s has
command_has w s _ body has = has

order_has : (w : Window) (s : State) (order : Order) (body : List ℕ) → HasFilters s → HasFilters ((order_work w order body).after s)
order_has w s (Ok command) body has = command_has w s command body has
order_has w s (Err fault) body has = has

pub task_has : (w : Window) (s : State) (t : Task) → HasFilters s → HasFilters ((tasks w).after s t)
task_has w s t has = order_has w s t.order t.body has

-- ---- a script

begin_has : (created : Bool) (fresh : Option (List ℕ)) (slots : List Slot) (base : Base) → HasFilters (begin created fresh slots base)
begin_has created fresh slots base = record { fit = record { filter = length-replicate (length base.games) (Some 0); saved = All-nil (λ (f : SavedFilter). length f.plies ≡ length base.games) }; few = omega arith }

all_have : (w : Window) (s : State) (done : List Task) → HasFilters s → HasFilters (after_all (tasks w) s done)
all_have w s [] has = has
all_have w s (t ∷ done) has = all_have w ((tasks w).after s t) done (task_has w s t has)

pub script_has : (w : Window) (created : Bool) (fresh : Option (List ℕ)) (slots : List Slot) (base : Base) (done : List Task) → HasFilters (after_all (tasks w) (begin created fresh slots base) done)
script_has w created fresh slots base done = all_have w (begin created fresh slots base) done (begin_has created fresh slots base)

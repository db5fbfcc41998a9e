-- The plain machine over the tasks of a script, its lines with their bodies: what each command does. This project's own.
use Rattle.std.specs.Prelude.{ℕ, Bool, List, [], Option, IfSome, Ok, Err, length}
use Rattle.base_files.specs.Seen.{Seen}
use Rattle.base_core.specs.Base.{Base}
use Rattle.command_runs.specs.Plain.{Plain}
use Rattle.script_text.specs.Tasks.{Order, Task}
use Rattle.script_text.specs.declared.command.Command.{Command}
use Rattle.script_text.specs.declared.command.Command.TheVariants.{Nothing, Find, SearchPosition, SearchMaterial, SearchHeader, Reset, Clear, Negate, Restrict, Keep, Take, And, Or, Drop, Hits, List as Listing, Show, Export, Import, Replace, Eco, Tag, Delete, Undelete, Mark, Tree, Watch, View, Unwatch, Cross, Twins, Index, Save, Info, Demo, Quit, Compact}
use Rattle.edit_commands.specs.Compacting.{compact_work}
use Rattle.edit_commands.specs.Editing.{delete_work, mark_work, tag_work, undelete_work}
use Rattle.edit_commands.specs.Saving.{save_work}
use Rattle.filter_commands.specs.Filters.{drop_work, filtering, join_work, keep_work}
use Rattle.game_filter.specs.Filter.{all_in, all_out, intersection, negated, restricted, union}
use Rattle.index_commands.specs.Indexing.{index_work}
use Rattle.search_commands.specs.Demo.{demo_work}
use Rattle.intake_commands.specs.Importing.{import_work, replace_work}
use Rattle.report_commands.specs.Classifying.{eco_work}
use Rattle.report_commands.specs.Crosstables.{cross_work}
use Rattle.report_commands.specs.Twins.{twins_work}
use Rattle.search_commands.specs.Searching.{find_work, hits_work, search_header_work, search_material_work, search_position_work}
use Rattle.search_commands.specs.Trees.{tree_work}
use Rattle.shell_state.specs.Carrying.{Settled}
use Rattle.shell_state.specs.Lines.{fault_line}
use Rattle.shell_state.specs.Stands.{Broken}
use Rattle.shell_state.specs.State.{State}
use Rattle.shell_state.specs.Work.{Work, price, quiet}
use Rattle.shell_state.specs.declared.halt.Halt.{Halt}
use Rattle.text_commands.specs.GameTexts.{export_work, show_work}
use Rattle.text_commands.specs.Listing.{list_work}
use Rattle.text_commands.specs.Showing.{info_work, quit_work}
use Rattle.view_commands.specs.Views.{all_slots, unwatch_work, view_work, watch_work}
use Rattle.view_commands.specs.declared.window.Window.{Window}

-- What a command does with its body, if it has one, for a user with these slots.
abbrev pub command_work : Window → Command → List ℕ → Work
command_work w Nothing body = quiet (λ s. s) (λ s. [])
command_work w (Find board side) body = find_work board side
command_work w (SearchPosition op query) body = search_position_work op query
command_work w (SearchMaterial op query) body = search_material_work op query
command_work w (SearchHeader op query) body = search_header_work op query
command_work w Reset body = filtering (λ plies. all_in (length plies))
command_work w Clear body = filtering (λ plies. all_out (length plies))
command_work w Negate body = filtering negated
command_work w (Restrict first last) body = filtering (restricted first last)
command_work w (Keep name) body = keep_work name
command_work w (Take name) body = join_work (λ own other. other) name
command_work w (And name) body = join_work intersection name
command_work w (Or name) body = join_work union name
command_work w (Drop name) body = drop_work name
command_work w Hits body = hits_work
command_work w Listing body = list_work
command_work w (Show game) body = show_work game
command_work w Export body = export_work
command_work w (Import word) body = import_work body
command_work w (Replace game word) body = replace_work game body
command_work w (Eco word) body = eco_work body
command_work w (Tag game edit) body = tag_work game edit
command_work w (Delete game) body = delete_work game
command_work w (Undelete game) body = undelete_work game
command_work w (Mark game bit on) body = mark_work game bit on
command_work w (Tree board side) body = tree_work board side
command_work w (Watch slot board side) body = watch_work w slot board side
command_work w (View slot) body = view_work w slot
command_work w (Unwatch slot) body = unwatch_work w slot
command_work w (Cross event) body = cross_work event
command_work w (Twins depth) body = twins_work depth
command_work w (Index depth) body = index_work depth
command_work w Save body = save_work
command_work w Info body = info_work
command_work w (Demo seed games) body = demo_work seed games
command_work w Quit body = quit_work
command_work w Compact body = compact_work

-- A faulty line changes nothing, and its text is its error line.
abbrev pub order_work : Window → Order → List ℕ → Work
order_work w (Ok command) body = command_work w command body
order_work w (Err fault) body = quiet (λ s. s) (λ s. fault_line fault)

abbrev pub task_work : Window → Task → Work
task_work w t = order_work w t.order t.body

-- The plain machine.
abbrev pub tasks : Window → Plain State Task
tasks w = record { after = λ s t. (order_work w t.order t.body).after s; text = λ s t. (order_work w t.order t.body).text s }

-- What is known of a task that was broken off.
abbrev pub BrokenTask : Window → State → Task → Halt → List ℕ → Option (List ℕ) → Option (List ℕ) → Type 0
BrokenTask w s t e text told told' = Broken s (task_work w t) e text told told'

-- Whatever its body and whoever says it: whether a line may change the files and writes while it works, the base that it leaves in their place,
-- and what it asks at most.
abbrev pub order_writes : Order → Bool
order_writes order = (order_work all_slots order []).writes

abbrev pub writes_early : Order → Bool
writes_early order = (order_work all_slots order []).early

abbrev pub order_left : Order → Option (Base → Base)
order_left order = (order_work all_slots order []).left

-- What is known of the files if a task was broken off that leaves a base in their place: nothing of its text was written, or they carry what
-- the state behind it says.
abbrev pub SettledTask : Seen → Window → State → Task → Option (List ℕ) → Option (List ℕ) → Type 0
SettledTask seen w s t told told' = IfSome (order_left t.order) (λ left. Settled seen ((tasks w).after s t) told told')

abbrev pub order_price : State → Order → ℕ
order_price s order = price s (order_work all_slots order [])

-- How the commands part by what is shown of them in the views of slots. Only private functions cite this.
use Rattle.std.specs.Prelude.{◌≡◌, Bool, true, false}
use Rattle.script_text.specs.Sound.{IsSound}
use Rattle.script_text.specs.declared.command.Command.{Command}
use Rattle.script_text.specs.declared.command.Command.TheVariants.{Nothing, Find, SearchPosition, SearchMaterial, SearchHeader, Reset, Clear, Negate, Restrict, Keep, Take, And, Or, Drop, Hits, List as Listing, Show, Export, Import, Replace, Eco, Tag, Delete, Undelete, Mark, Tree, Watch, View, Unwatch, Cross, Twins, Index, Save, Info, Demo, Quit, Compact}
use Rattle.shell_commands.specs.declared.parts.Part.{Part}
use Rattle.shell_commands.specs.declared.parts.Part.TheVariants.{Answers, Edits, Games, Lines, Marks, Searches, Slots, Texts}

-- The parts of the commands:
--
-- - those on slots,
-- - those that change the filter and use no file,
-- - those that search games which they read,
-- - those that take games in or edit them, and use the files,
-- - the one that makes games,
-- - those that set a mark or drop a filter, which no view shows, and use no file,
-- - those that use no file and answer a text that is made before it is written,
-- - those that write while they read or save, and change nothing that a view shows.
abbrev pub part_of : Command → Part
part_of Nothing = Answers
part_of (Find board side) = Searches
part_of (SearchPosition op query) = Searches
part_of (SearchMaterial op query) = Searches
part_of (SearchHeader op query) = Lines
part_of Reset = Lines
part_of Clear = Lines
part_of Negate = Lines
part_of (Restrict first last) = Lines
part_of (Keep name) = Answers
part_of (Take name) = Lines
part_of (And name) = Lines
part_of (Or name) = Lines
part_of (Drop name) = Marks
part_of Hits = Texts
part_of Listing = Texts
part_of (Show game) = Texts
part_of Export = Texts
part_of (Import word) = Edits
part_of (Replace game word) = Edits
part_of (Eco word) = Texts
part_of (Tag game edit) = Edits
part_of (Delete game) = Marks
part_of (Undelete game) = Marks
part_of (Mark game bit on) = Marks
part_of (Tree board side) = Texts
part_of (Watch slot board side) = Slots
part_of (View slot) = Slots
part_of (Unwatch slot) = Slots
part_of (Cross event) = Answers
part_of (Twins depth) = Texts
part_of (Index depth) = Texts
part_of Save = Texts
part_of Info = Answers
part_of (Demo seed games) = Games
part_of Quit = Answers
part_of Compact = Edits

-- The parts in which a command does its work before its one line is written, and those which change nothing that a view shows.
abbrev pub has_line : Part → Bool
has_line Lines = true
has_line Marks = true
has_line _ = false

abbrev pub is_unshown : Part → Bool
is_unshown Marks = true
is_unshown Answers = true
is_unshown Texts = true
is_unshown _ = false

-- A command of a part, within its bounds as one that was read.
pub record IsOf (part : Part) (command : Command) : Type 0 where
  pub bounds : IsSound command
  pub is : part_of command ≡ part

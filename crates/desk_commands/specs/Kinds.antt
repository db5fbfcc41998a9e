-- What the commands of one client may change of what another one sees. This project's own.
use Rattle.std.specs.Prelude.{Bool, true, false, Ok, Err}
use Rattle.script_text.specs.Tasks.{Order}
use Rattle.script_text.specs.declared.command.Command.{Command}
use Rattle.script_text.specs.declared.command.Command.TheVariants.{Import, Replace, Eco, Tag, Delete, Undelete, Mark, Twins, Index, Save, Demo, Quit, Compact}
use Rattle.desk_commands.specs.declared.kinds.Kind.{Kind}
use Rattle.desk_commands.specs.declared.kinds.Kind.TheVariants.{Private, Public, Adds, Moves}

-- A private command changes the seat and the slots of its client alone. A public one may change what is shared. It
-- leaves the seats of the others as they are, or adds games, or moves their entries in each seat in the same way.
-- `quit` ends its client, of which all know.
abbrev pub command_kind : Command → Kind
command_kind (Import word) = Adds
command_kind (Demo seed games) = Adds
command_kind (Replace game word) = Moves
command_kind Compact = Moves
command_kind (Eco word) = Public
command_kind (Tag game edit) = Public
command_kind (Delete game) = Public
command_kind (Undelete game) = Public
command_kind (Mark game bit on) = Public
command_kind (Twins depth) = Public
command_kind (Index depth) = Public
command_kind Save = Public
command_kind Quit = Public
command_kind _ = Private

-- A faulty line is private.
abbrev pub order_kind : Order → Kind
order_kind (Ok command) = command_kind command
order_kind (Err fault) = Private

abbrev pub is_private : Kind → Bool
is_private Private = true
is_private _ = false

-- Whether a line may change the trees that other clients watch. A tree counts of a game its result, ratings, date and
-- moves. A game that is added is out of the filters of the others.
abbrev pub is_seen : Order → Bool
is_seen (Ok (Replace game word)) = true
is_seen (Ok (Tag game edit)) = true
is_seen (Ok Compact) = true
is_seen _ = false

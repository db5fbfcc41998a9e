-- The bounds of what a command holds (this project's own).
use Rattle.std.specs.Prelude.{◌<◌, ◌≤◌, ℕ, length, Option, IfSome, Result, IfOk}
use Rattle.game_tree.specs.TagEdit.{IsEdit}
use Rattle.sig_index.specs.declared.head_query.HeadQuery.{HeadQuery}
use Rattle.sig_index.specs.declared.mat_query.MatQuery.{MatQuery}
use Rattle.script_text.specs.declared.command.Command.{Command}
use Rattle.script_text.specs.declared.fault.ScriptFault.{ScriptFault}
use Rattle.script_text.specs.declared.command.Command.TheVariants.{Nothing, Find, SearchPosition, SearchMaterial, SearchHeader, Reset, Clear, Negate, Restrict, Keep, Take, And, Or, Drop, Hits, List as Listing, Show, Export, Import, Replace, Eco, Tag, Delete, Undelete, Mark, Tree, Watch, View, Unwatch, Cross, Twins, Index, Save, Compact, Info, Demo, Quit}

-- A mark that is asked for is one of the 18 bits.
abbrev pub IsHeadQuery : HeadQuery → Type 0
IsHeadQuery query = IfSome query.mark (λ bit. bit < 18)

-- A streak that is asked for has at least one ply.
abbrev pub IsMatQuery : MatQuery → Type 0
IsMatQuery query = 1 ≤ query.streak

-- An index that is asked for holds at most 40 plies of a game.
abbrev pub IsDepth : Option ℕ → Type 0
IsDepth depth = IfSome depth (λ plies. plies ≤ 40)

-- A command keeps its bounds. An edit is within the bounds of heads, a mark is one of the 18 bits, and a streak has a
-- ply. The word that ends a body and the name of a filter have at most 32 bytes, and an index is at most 40 plies deep.
abbrev pub IsSound : Command → Type 0
IsSound (Tag game edit) = IsEdit edit
IsSound (Mark game bit on) = bit < 18
IsSound (SearchHeader op query) = IsHeadQuery query
IsSound (SearchMaterial op query) = IsMatQuery query
IsSound (Import end) = length end ≤ 32
IsSound (Replace game end) = length end ≤ 32
IsSound (Eco end) = length end ≤ 32
IsSound (Keep name) = length name ≤ 32
IsSound (Take name) = length name ≤ 32
IsSound (And name) = length name ≤ 32
IsSound (Or name) = length name ≤ 32
IsSound (Drop name) = length name ≤ 32
IsSound (Index depth) = IsDepth depth
IsSound Nothing = Unit {0}
IsSound (Find board side) = Unit {0}
IsSound (SearchPosition op query) = Unit {0}
IsSound Reset = Unit {0}
IsSound Clear = Unit {0}
IsSound Negate = Unit {0}
IsSound (Restrict first last) = Unit {0}
IsSound Hits = Unit {0}
IsSound Listing = Unit {0}
IsSound (Show game) = Unit {0}
IsSound Export = Unit {0}
IsSound (Delete game) = Unit {0}
IsSound (Undelete game) = Unit {0}
IsSound (Tree board side) = Unit {0}
IsSound (Watch slot board side) = Unit {0}
IsSound (View slot) = Unit {0}
IsSound (Unwatch slot) = Unit {0}
IsSound (Cross event) = Unit {0}
IsSound (Twins depth) = Unit {0}
IsSound Save = Unit {0}
IsSound Compact = Unit {0}
IsSound Info = Unit {0}
IsSound (Demo seed games) = Unit {0}
IsSound Quit = Unit {0}

-- Of a line: of its command, if it is one.
abbrev pub IsSoundLine : Result Command ScriptFault → Type 0
IsSoundLine line = IfOk line IsSound

-- The one reading of a line: the command that it is, or its first fault (this project's own).
use Rattle.std.specs.Prelude.{ℕ, ◌-◌, ◌==◌, nat_le, nat_lt, Bool, false, if◌then◌else◌, List, [], ◌∷◌, ◌++◌, length, map, take, slice_index_or, Some, None, unwrap_or, Result, Ok, Err, codes}
use Rattle.cell_core.specs.Steps.{◌>>=◌}
use Rattle.chess_text.specs.Filling.{board_named}
use Rattle.game_filter.specs.declared.op.Op.{Op}
use Rattle.game_tree.specs.Decimal.{decimal_read}
use Rattle.sig_index.specs.Queries.{any_head, any_material}
use Rattle.script_text.specs.declared.command.Command.{Command}
use Rattle.script_text.specs.declared.command.Command.TheVariants.{Nothing, Find, SearchPosition, SearchMaterial, SearchHeader, Reset, Clear, Negate, Restrict, Keep, Take, And, Or, Drop, Hits, List as Listing, Show, Export, Import, Replace, Eco, Tag, Delete, Undelete, Mark, Tree, Watch, View, Unwatch, Cross, Twins, Index, Save, Compact, Info, Demo, Quit}
use Rattle.script_text.specs.declared.fault.ScriptFault.{ScriptFault}
use Rattle.script_text.specs.declared.fault.ScriptFault.TheVariants.{TooLong, Unknown}
use Rattle.script_text.specs.declared.forms.SearchKind.{SearchKind}
use Rattle.script_text.specs.declared.forms.SearchKind.TheVariants as kind
use Rattle.script_text.specs.Words.{Word, words_of}
use Rattle.script_text.specs.Forms.{by_word, side, op, search_kind, mode, switch, vars, mark_bit, filter_name, name_text, body_end}
use Rattle.script_text.specs.Numbers.{number, index_depth}
use Rattle.script_text.specs.Arguments.{text_at, argument, no_more, last_argument, two, three}
use Rattle.script_text.specs.Items.{items}
use Rattle.script_text.specs.HeadItems.{head_item}
use Rattle.script_text.specs.Tagging.{tag_edit}
use Rattle.script_text.specs.MatItems.{mat_item}

-- The command that is made of its arguments, or their fault.
abbrev pub made : {A : Type 0} → (A → Command) → Result A ScriptFault → Result Command ScriptFault
made make (Ok given) = Ok (make given)
made make (Err fault) = Err fault

-- The last word of a search of positions, vars, which may be left out.
abbrev pub looks_aside : List Word → Result Bool ScriptFault
looks_aside words = if nat_le (length words) 6 then Ok false else last_argument 6 vars words

-- search OP position MODE BOARD SIDE, and the same with vars
unfoldable pub search_position : Op → List Word → Result Command ScriptFault
search_position operation words = do
  in_common ← argument 3 mode words
  board ← argument 4 board_named words
  to_move ← argument 5 side words
  aside ← looks_aside words
  Ok (SearchPosition operation (record { mode = in_common; board = board; side = to_move; vars = aside }))

-- search OP material ITEM .. and search OP header ITEM ..
abbrev pub search_of : SearchKind → Op → List Word → Result Command ScriptFault
search_of kind.Position operation words = search_position operation words
search_of kind.Material operation words = made (SearchMaterial operation) (items mat_item any_material words)
search_of kind.Header operation words = made (SearchHeader operation) (items head_item any_head words)

-- search OP KIND ..
unfoldable pub search : List Word → Result Command ScriptFault
search words = do
  operation ← argument 1 op words
  looks_at ← argument 2 search_kind words
  search_of looks_at operation words

-- tag NUMBER NAME VALUE
unfoldable pub tag : List Word → Result Command ScriptFault
tag words = do
  game ← argument 1 number words
  name ← argument 2 (λ word. Some word) words
  edit ← tag_edit name (text_at words 3)
  done ← no_more 3 words
  Ok (Tag game edit)

-- ---- the table of commands

-- The rows of commands with the same arguments: the word of each, and what it makes of them.
abbrev pub rows_of : {A : Type 0} → Result A ScriptFault → List (List ℕ × (A → Command)) → List (List ℕ × Result Command ScriptFault)
rows_of given rows = map (λ row. (row.0, made row.1 given)) rows

-- The word of each command, by the forms of its arguments in their order.
unfoldable pub table : List Word → List (List ℕ × Result Command ScriptFault)
table words =
    rows_of (no_more 0 words)
    ((codes "reset", λ _. Reset) ∷ (codes "clear", λ _. Clear) ∷ (codes "negate", λ _. Negate) ∷ (codes "hits", λ _. Hits)
    ∷ (codes "list", λ _. Listing) ∷ (codes "export", λ _. Export) ∷ (codes "info", λ _. Info) ∷ (codes "save", λ _. Save)
    ∷ (codes "compact", λ _. Compact) ∷ (codes "quit", λ _. Quit) ∷ [])
    ++ rows_of (last_argument 1 number words)
    ((codes "view", View) ∷ (codes "unwatch", Unwatch) ∷ (codes "show", Show) ∷ (codes "delete", Delete)
    ∷ (codes "undelete", Undelete) ∷ [])
    ++ rows_of (last_argument 1 filter_name words)
    ((codes "keep", Keep) ∷ (codes "use", Take) ∷ (codes "and", And) ∷ (codes "or", Or) ∷ (codes "drop", Drop) ∷ [])
    ++ rows_of (last_argument 1 body_end words) ((codes "import", Import) ∷ (codes "eco", Eco) ∷ [])
    ++ rows_of (last_argument 1 name_text words) ((codes "cross", Cross) ∷ [])
    ++ rows_of (last_argument 1 (decimal_read 131071) words) ((codes "twins", Twins) ∷ [])
    ++ rows_of (last_argument 1 index_depth words) ((codes "index", Index) ∷ [])
    ++ rows_of (two board_named side words)
    ((codes "find", λ given. Find given.0 given.1) ∷ (codes "tree", λ given. Tree given.0 given.1) ∷ [])
    ++ rows_of (two number number words) ((codes "restrict", λ given. Restrict given.0 given.1) ∷ [])
    ++ rows_of (two number body_end words) ((codes "replace", λ given. Replace given.0 given.1) ∷ [])
    ++ rows_of (two number (decimal_read 100000) words) ((codes "demo", λ given. Demo given.0 given.1) ∷ [])
    ++ rows_of (three number board_named side words) ((codes "watch", λ given. Watch given.0 given.1 given.2) ∷ [])
    ++ rows_of (three number mark_bit switch words) ((codes "mark", λ given. Mark given.0 given.1 given.2) ∷ [])
    ++ (codes "search", search words) ∷ (codes "tag", tag words) ∷ []

-- The command of this name.
unfoldable pub command_named : List ℕ → List Word → Result Command ScriptFault
command_named name words = unwrap_or (by_word (table words) name) (Err Unknown)

-- ---- lines

-- The command of a list of words: none is an empty line.
abbrev pub command_of : List Word → Result Command ScriptFault
command_of [] = Ok Nothing
command_of (None ∷ words) = Err Unknown
command_of (Some name ∷ words) = command_named name (Some name ∷ words)

-- A line without its last carriage return.
unfoldable pub shorn : List ℕ → List ℕ
shorn line = if slice_index_or line (length line - 1) 0 == 13 then take (length line - 1) line else line

-- A line whose first byte is `#` does nothing.
abbrev pub is_remark : List ℕ → Bool
is_remark [] = false
is_remark (byte ∷ line) = byte == 35

-- The one reading of a line. The carriage return that is dropped does not count in its length.
unfoldable pub reading : List ℕ → Result Command ScriptFault
reading line =
    if is_remark line then Ok Nothing
    else if nat_lt 65536 (length (shorn line)) then Err TooLong
    else command_of (words_of (shorn line))

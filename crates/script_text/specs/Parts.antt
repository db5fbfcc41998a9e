-- The table of commands in the parts in which the code asks for a name. No public contract cites these words.
use Rattle.std.specs.Prelude.{if◌then◌else◌, ℕ, List, Result, Err, codes}
use Rattle.std.specs.Str.{bytes_eq}
use Rattle.chess_text.specs.Filling.{board_named}
use Rattle.game_tree.specs.Decimal.{decimal_read}
use Rattle.script_text.specs.declared.command.Command.{Command}
use Rattle.script_text.specs.declared.command.Command.TheVariants.{Find, Reset, Clear, Negate, Restrict, Keep, Take, And, Or, Drop, Hits, List as Listing, Show, Export, Import, Replace, Eco, Delete, Undelete, Mark, Tree, Watch, View, Unwatch, Cross, Twins, Index, Save, Compact, Info, Demo, Quit}
use Rattle.script_text.specs.declared.fault.ScriptFault.{ScriptFault}
use Rattle.script_text.specs.declared.fault.ScriptFault.TheVariants.{Unknown}
use Rattle.script_text.specs.Words.{Word}
use Rattle.script_text.specs.Forms.{side, switch, mark_bit, filter_name, name_text, body_end}
use Rattle.script_text.specs.Numbers.{number, index_depth}
use Rattle.script_text.specs.Arguments.{no_more, last_argument, two, three}
use Rattle.script_text.specs.Reading.{made, search, tag}

unfoldable pub ending : List ℕ → List Word → Result Command ScriptFault
ending name words =
    if bytes_eq name (codes "twins") then made Twins (last_argument 1 (decimal_read 131071) words)
    else if bytes_eq name (codes "index") then made Index (last_argument 1 index_depth words)
    else if bytes_eq name (codes "save") then made (λ _. Save) (no_more 0 words)
    else if bytes_eq name (codes "compact") then made (λ _. Compact) (no_more 0 words)
    else if bytes_eq name (codes "demo") then made (λ given. Demo given.0 given.1) (two number (decimal_read 100000) words)
    else if bytes_eq name (codes "quit") then made (λ _. Quit) (no_more 0 words)
    else Err Unknown

unfoldable pub editing : List ℕ → List Word → Result Command ScriptFault
editing name words =
    if bytes_eq name (codes "import") then made Import (last_argument 1 body_end words)
    else if bytes_eq name (codes "replace") then made (λ given. Replace given.0 given.1) (two number body_end words)
    else if bytes_eq name (codes "eco") then made Eco (last_argument 1 body_end words)
    else if bytes_eq name (codes "tag") then tag words
    else if bytes_eq name (codes "delete") then made Delete (last_argument 1 number words)
    else if bytes_eq name (codes "undelete") then made Undelete (last_argument 1 number words)
    else if bytes_eq name (codes "mark") then made (λ given. Mark given.0 given.1 given.2) (three number mark_bit switch words)
    else ending name words

unfoldable pub showing : List ℕ → List Word → Result Command ScriptFault
showing name words =
    if bytes_eq name (codes "hits") then made (λ _. Hits) (no_more 0 words)
    else if bytes_eq name (codes "list") then made (λ _. Listing) (no_more 0 words)
    else if bytes_eq name (codes "show") then made Show (last_argument 1 number words)
    else if bytes_eq name (codes "export") then made (λ _. Export) (no_more 0 words)
    else if bytes_eq name (codes "cross") then made Cross (last_argument 1 name_text words)
    else if bytes_eq name (codes "info") then made (λ _. Info) (no_more 0 words)
    else editing name words

unfoldable pub saving_filters : List ℕ → List Word → Result Command ScriptFault
saving_filters name words =
    if bytes_eq name (codes "keep") then made Keep (last_argument 1 filter_name words)
    else if bytes_eq name (codes "use") then made Take (last_argument 1 filter_name words)
    else if bytes_eq name (codes "and") then made And (last_argument 1 filter_name words)
    else if bytes_eq name (codes "or") then made Or (last_argument 1 filter_name words)
    else if bytes_eq name (codes "drop") then made Drop (last_argument 1 filter_name words)
    else showing name words

unfoldable pub filtering : List ℕ → List Word → Result Command ScriptFault
filtering name words =
    if bytes_eq name (codes "reset") then made (λ _. Reset) (no_more 0 words)
    else if bytes_eq name (codes "clear") then made (λ _. Clear) (no_more 0 words)
    else if bytes_eq name (codes "negate") then made (λ _. Negate) (no_more 0 words)
    else if bytes_eq name (codes "restrict") then made (λ given. Restrict given.0 given.1) (two number number words)
    else saving_filters name words

unfoldable pub searching : List ℕ → List Word → Result Command ScriptFault
searching name words =
    if bytes_eq name (codes "find") then made (λ given. Find given.0 given.1) (two board_named side words)
    else if bytes_eq name (codes "search") then search words
    else if bytes_eq name (codes "tree") then made (λ given. Tree given.0 given.1) (two board_named side words)
    else if bytes_eq name (codes "watch") then made (λ given. Watch given.0 given.1 given.2) (three number board_named side words)
    else if bytes_eq name (codes "view") then made View (last_argument 1 number words)
    else if bytes_eq name (codes "unwatch") then made Unwatch (last_argument 1 number words)
    else filtering name words

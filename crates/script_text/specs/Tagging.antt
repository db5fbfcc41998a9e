-- The arguments of `tag`: a game, the name of a tag and its value (this project's own).
use Rattle.std.specs.Prelude.{ℕ, List, [], Option, Some, unwrap_or, Result, Ok, Err}
use Rattle.game_tree.specs.TagEdit.{edit_of}
use Rattle.game_tree.specs.declared.tag_edit.TagEdit.{TagEdit}
use Rattle.game_tree.specs.declared.tag_edit.TagEditError.{TagEditError}
use Rattle.game_tree.specs.declared.tag_edit.TagEditError.TheVariants as fault
use Rattle.script_text.specs.declared.fault.ScriptFault.{ScriptFault}
use Rattle.script_text.specs.declared.fault.ScriptFault.TheVariants.{Argument}

-- The edit, or the argument that is at fault: the name, whatever the value, else the value, which may be missing or not
-- closed. An edit is never refused for want of memory by its definition.
abbrev pub edit_or_fault : Result TagEdit TagEditError → Option (List ℕ) → Result TagEdit ScriptFault
edit_or_fault (Err fault.Name) value = Err (Argument 2)
edit_or_fault (Ok edit) (Some text) = Ok edit
edit_or_fault _ _ = Err (Argument 3)

-- The edit of a name, and of a value if there is one.
unfoldable pub tag_edit : List ℕ → Option (List ℕ) → Result TagEdit ScriptFault
tag_edit name value = edit_or_fault (edit_of name (unwrap_or value [])) value

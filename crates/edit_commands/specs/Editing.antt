-- The commands that edit a game of the base. Filters stay as they are. This project's own.
use Rattle.std.specs.Option.{option_map_or}
use Rattle.std.specs.Prelude.{◌≡◌, Option, Some, is_some, if◌then◌else◌, ℕ, List, slice_get, Bool, unwrap_or, codes}
use Rattle.base_core.specs.Base.{Base}
use Rattle.base_core.specs.Edits.{deleted, undeleted, marked, tagged}
use Rattle.base_core.specs.Represents.{Kept}
use Rattle.base_core.specs.Tagged.{IsTagged}
use Rattle.base_files.specs.Seen.{Seen}
use Rattle.game_tree.specs.TagEdit.{edited}
use Rattle.game_tree.specs.declared.tag_edit.TagEdit.{TagEdit}
use Rattle.shell_state.specs.Lines.{no_game_line, game_line}
use Rattle.shell_state.specs.Passing.{len_in}
use Rattle.shell_state.specs.Refusing.{refusal_of}
use Rattle.shell_state.specs.State.{State, with_base}
use Rattle.shell_state.specs.Work.{Work, writing, quiet}
use Rattle.shell_state.specs.Work.Price.{by_looks}

-- An edit of a game, if it is there, its line, and the command.
abbrev pub edit_work : (Base → Base) → List ℕ → ℕ → Work
edit_work edit words game =
    quiet (λ s. if is_some (slice_get s.shared.base.games game) then with_base s (edit s.shared.base) else s)
    (λ s. if is_some (slice_get s.shared.base.games game) then game_line words game else no_game_line game)

-- delete G, undelete G, mark G LETTER on, mark G LETTER off
abbrev pub delete_work : ℕ → Work
delete_work game = edit_work (deleted game) (codes "deleted ") game

abbrev pub undelete_work : ℕ → Work
undelete_work game = edit_work (undeleted game) (codes "undeleted ") game

abbrev pub mark_work : ℕ → ℕ → Bool → Work
mark_work game bit on = edit_work (marked game bit on) (codes "marked ") game

-- tag G NAME VALUE, unless the game is not there, or the base has no room for the record.
abbrev pub untagged : State → ℕ → TagEdit → Option (List ℕ)
untagged s game edit =
    option_map_or (λ held. refusal_of s.shared.base (edited held.head edit) held.game) (slice_get s.shared.base.games game)
    (Some (no_game_line game))

abbrev pub tag_after : State → ℕ → TagEdit → State
tag_after s game edit = if is_some (untagged s game edit) then s else with_base s (tagged game edit s.shared.base)

abbrev pub tag_text : State → ℕ → TagEdit → List ℕ
tag_text s game edit = unwrap_or (untagged s game edit) (game_line (codes "tagged ") game)

-- What `tag` did, whatever the files tell. If its line tells of a tag that was set, the tag was set in a game that was
-- read, a record of one with the kept signature. With any other line, what is kept is as it was.
pub record DidTag (game : ℕ) (edit : TagEdit) (old new : Kept) (before after : Seen) (line : List ℕ) : Type 0 where
  pub tagged : line ≡ game_line (codes "tagged ") game → (buffer : List ℕ) × IsTagged game edit old new before after buffer
  pub refused : (line ≡ game_line (codes "tagged ") game → ⊥) → new ≡ old

-- What `tag` does: the record of the game is read.
abbrev pub tag_work : ℕ → TagEdit → Work
tag_work game edit = writing (λ s. tag_after s game edit) (λ s. tag_text s game edit) (by_looks (λ looks plies. len_in (λ look. look.len) (slice_get looks game)))

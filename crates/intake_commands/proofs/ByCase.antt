-- What the commands that take games in do, by what stands in their way.
use Rattle.std.proofs.Common.{ℕ, List, Option, Result, Err, ◌+◌}
use Rattle.std.specs.Option.{option_map_or}
use Rattle.std.specs.Prelude.{if◌then◌else◌, is_none, is_some, length, codes, None}
use Rattle.base_core.specs.Base.{Held}
use Rattle.game_tree.specs.Game.{GameTree}
use Rattle.game_tree.specs.declared.head.Head.{Head}
use Rattle.pgn_read.specs.declared.item.Item.{Item}
use Rattle.intake_commands.specs.Importing.{Intake, first_faulty, line_with, next_number, one_refused, state_with, taken_in, the_new, the_one, unless_line}
use Rattle.intake_commands.specs.Intakes.{not_added_line}
use Rattle.shell_state.specs.Lines.{game_line, line_of, no_game_line}
use Rattle.shell_state.specs.State.{State, with_game}
use Rattle.shell_state.specs.declared.refusing.Refusal.{Refusal}

abbrev pub unless_not_added : Option Refusal → Intake → Head → GameTree → Intake
unless_not_added why i head game = if is_some why then one_refused i else record i { state = with_game i.state head game; added = i.added + 1 }

abbrev pub added_line : Option Refusal → Intake → List ℕ
added_line why i = option_map_or (not_added_line (next_number i)) why (game_line (codes "added ") (length i.state.shared.base.games))

abbrev pub import_after : State → List ℕ → State
import_after s body = (taken_in s body).state

abbrev pub one_game_line : List ℕ
one_game_line = line_of (codes "error: one game expected")

abbrev pub new_game : State → ℕ → Option Held → List Item → Result (Head × GameTree) (List ℕ)
new_game s game held items = if is_none held then Err (no_game_line game) else unless_line (first_faulty 1 items) (the_one s.shared.base items)

abbrev pub replace_after : State → ℕ → List ℕ → State
replace_after s game body = state_with s game (the_new s game body)

abbrev pub replace_text : State → ℕ → List ℕ → List ℕ
replace_text s game body = line_with game (the_new s game body)

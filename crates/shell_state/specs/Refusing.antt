-- Why a game is not placed, and the error line for it. This project's own.
use Rattle.std.specs.Option.{option_map_or}
use Rattle.std.specs.Prelude.{ℕ, ◌+◌, ◌*◌, Bool, false, List, codes, nat_lt, if◌then◌else◌, Option, Some, option_map, length}
use Rattle.base_core.specs.Base.{Base}
use Rattle.base_core.specs.Edited.{first_full}
use Rattle.base_core.specs.Edits.{names_with, end_with}
use Rattle.base_core.specs.declared.fault.What.{What}
use Rattle.base_core.specs.declared.fault.What.TheVariants.{Games, Players, Events, Sites, Rounds, File}
use Rattle.game_codec.specs.Written.{longest, written_record}
use Rattle.game_tree.specs.Game.{GameTree}
use Rattle.game_tree.specs.declared.head.Head.{Head}
use Rattle.shell_state.specs.State.{Shared}
use Rattle.shell_state.specs.Lines.{error_line}
use Rattle.shell_state.specs.declared.refusing.Refusal.{Refusal}
use Rattle.shell_state.specs.declared.refusing.Refusal.TheVariants.{FullIndex, TooLong, Full}

-- The words for it, and the error line.
abbrev pub refusal_words : Refusal → List ℕ
refusal_words FullIndex = codes "full index"
refusal_words TooLong = codes "record too long"
refusal_words (Full Games) = codes "full games"
refusal_words (Full Players) = codes "full players"
refusal_words (Full Events) = codes "full events"
refusal_words (Full Sites) = codes "full sites"
refusal_words (Full Rounds) = codes "full rounds"
refusal_words (Full File) = codes "full file"

abbrev pub refusal_line : Refusal → List ℕ
refusal_line why = error_line (refusal_words why)

-- A position index to this depth, if there is one, has no room for so many games.
abbrev pub index_is_full : Option ℕ → ℕ → Bool
index_is_full depth games = option_map_or (λ depth. nat_lt 16000000 (games * (depth + 1))) depth false

-- The first reason against a record of so many bytes by which this would be full.
abbrev pub refusal : ℕ → Option What → Option Refusal
refusal len full = if nat_lt longest len then Some TooLong else option_map Full full

-- Why a game with this head is not placed, if it is not, in a base that has so many games with it.
abbrev pub why_not : Base → ℕ → Head → GameTree → Option Refusal
why_not base games head game = refusal (length (written_record head.tags game)) (first_full games (names_with head base.names) (end_with head game base.end))

-- Why a game is not added, and the error line of one that cannot take the place of another one.
abbrev pub not_added : Shared → Head → GameTree → Option Refusal
not_added shared head game =
    if index_is_full shared.index (length shared.base.games + 1) then Some FullIndex else why_not shared.base (length shared.base.games + 1) head game

abbrev pub refusal_of : Base → Head → GameTree → Option (List ℕ)
refusal_of base head game = option_map refusal_line (why_not base (length base.games) head game)

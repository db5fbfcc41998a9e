-- The commands that write games in Portable Game Notation. This project's own.
use Rattle.std.specs.Option.{option_map_or}
use Rattle.std.specs.Prelude.{ℕ, true, List, Option, Some, None, slice_get, [], ◌∷◌, take, ◌≡◌, ◌+◌, ◌++◌, is_some, if◌then◌else◌}
use Rattle.base_core.specs.Base.{Held}
use Rattle.base_core.specs.Entries.{head_of, sig_in}
use Rattle.base_core.specs.Represents.{Kept}
use Rattle.base_files.specs.Told.{adds}
use Rattle.base_files.specs.declared.faults.Stop.TheVariants as stop
use Rattle.command_runs.specs.Endings.{Halted}
use Rattle.game_tree.specs.Game.{GameTree}
use Rattle.game_tree.specs.Legal.{IsLegalGame}
use Rattle.game_tree.specs.Settle.{settled}
use Rattle.game_tree.specs.declared.head.Tag.{Tag}
use Rattle.index_entry.specs.declared.entry.Entry.{Entry}
use Rattle.name_base.specs.NameLists.{NameLists}
use Rattle.pgn_write.specs.Pgn.{pgn_of}
use Rattle.sig_index.specs.Signature.{IsSig}
use Rattle.shell_state.specs.Lines.{no_game_line, texts_from}
use Rattle.shell_state.specs.Passing.{filtered_len, len_in}
use Rattle.shell_state.specs.State.{State}
use Rattle.shell_state.specs.Work.{Work, reading}
use Rattle.shell_state.specs.declared.halt.Halt.{Halt}
use Rattle.shell_state.specs.declared.halt.Halt.TheVariants as halt

-- The text of a game.
abbrev pub game_text : Held → List ℕ
game_text held = pgn_of held.head held.game

-- show G
abbrev pub shown : ℕ → Option Held → List ℕ
shown game held = option_map_or game_text held (no_game_line game)

abbrev pub show_text : State → ℕ → List ℕ
show_text s game = shown game (slice_get s.shared.base.games game)

-- The text of a game that is in; one that is out has none.
abbrev pub text_if_in : ℕ → Option ℕ → Held → List ℕ
text_if_in game ply held = if is_some ply then game_text held else []

-- export
abbrev pub exported : List (Option ℕ) → List Held → List ℕ
exported plies games = texts_from text_if_in 0 plies games

-- The text of those among the first so many games that are in.
abbrev pub exported_first : ℕ → List (Option ℕ) → List Held → List ℕ
exported_first count plies games = exported (take count plies) (take count games)

-- An export that was broken off at a game: the texts of the games before it are written whole, and nothing of its own if the files failed,
-- else a front part.
pub record ExportCut (plies : List (Option ℕ)) (games : List Held) (e : Halt) (told : Option (List ℕ)) (told' : Option (List ℕ)) : Type 0 where
  pub count : ℕ
  pub wrote : Halted (exported_first count plies games) (exported_first (count + 1) plies games) told told'
  pub whole : e ≡ halt.Device stop.Files → told' ≡ adds told (exported_first count plies games)

-- A text of a game that is kept: that of a legal game with the kept signature, under the settled head of what is kept with some tags.
pub record IsTextOf (names : NameLists) (e : Entry) (text : List ℕ) : Type 0 where
  pub tags : List Tag
  pub game : GameTree
  pub legal : IsLegalGame game
  pub is_sig : IsSig game (sig_in e)
  pub is_text : text ≡ pgn_of (settled (head_of names e tags)) game

-- Such a text of a game was written, whatever the files tell; nothing is said of a game that is not there.
abbrev pub WritesTextOf : Kept → ℕ → Option (List ℕ) → Option (List ℕ) → Type 0
WritesTextOf kept game told told' =
    (e : Entry) → slice_get kept.entries game ≡ Some e → (text : List ℕ) × (IsTextOf kept.names e text × (told' ≡ adds told text))

-- The text of a kept game that is in; one that is out has none.
abbrev pub IsTextIfIn : NameLists → Option ℕ → Entry → List ℕ → Type 0
IsTextIfIn names (Some ply) e text = IsTextOf names e text
IsTextIfIn names None e text = text ≡ []

-- Such texts of the games that are in, one for each, in their order.
abbrev pub AreTextsOf : NameLists → List (Option ℕ) → List Entry → List ℕ → Type 0
AreTextsOf names [] entries text = text ≡ []
AreTextsOf names (ply ∷ plies) [] text = text ≡ []
AreTextsOf names (ply ∷ plies) (e ∷ entries) text =
    (first : List ℕ) × ((rest : List ℕ) × (IsTextIfIn names ply e first × (AreTextsOf names plies entries rest × (text ≡ first ++ rest))))

-- They were written, whatever the files tell.
abbrev pub WritesTextsOf : Kept → List (Option ℕ) → Option (List ℕ) → Option (List ℕ) → Type 0
WritesTextsOf kept plies told told' = (text : List ℕ) × (AreTextsOf kept.names plies kept.entries text × (told' ≡ adds told text))

-- The bytes of the records of the games that are in.
abbrev pub exported_len : List (Option ℕ) → List Entry → ℕ
exported_len plies entries = filtered_len (λ e. e.len) plies entries

-- What the two do: the record of the one game is read, or those of the games that are in.
abbrev pub show_work : ℕ → Work
show_work game = reading (λ s. s) (λ s. show_text s game) (λ looks plies. len_in (λ look. look.len) (slice_get looks game))

abbrev pub export_work : Work
export_work =
    record (reading (λ s. s) (λ s. exported s.seat.filter s.shared.base.games) (λ looks plies. filtered_len (λ look. look.len) plies looks)) { early = true }

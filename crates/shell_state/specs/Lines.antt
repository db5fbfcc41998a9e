-- The lines that commands write. This project's own.
use Rattle.std.specs.Fmt.{decimal}
use Rattle.std.specs.List.{enumerate_from}
use Rattle.std.specs.Option.{option_map_or}
use Rattle.std.specs.Prelude.{ℕ, List, [], ◌∷◌, ◌++◌, codes, flat_map, length, Option, zip}
use Rattle.chess_text.specs.declared.fault.SanFault.{SanFault}
use Rattle.chess_text.specs.declared.fault.SanFault.TheVariants as san
use Rattle.game_filter.specs.Filter.{count_in}
use Rattle.script_text.specs.declared.fault.ScriptFault.{ScriptFault}
use Rattle.script_text.specs.declared.fault.ScriptFault.TheVariants.{TooLong, Unknown, Argument, Extra}

-- A word and the number of a game.
abbrev pub game_line : List ℕ → ℕ → List ℕ
game_line words game = words ++ decimal game ++ 10 ∷ []

-- A line of these words.
abbrev pub line_of : List ℕ → List ℕ
line_of words = words ++ 10 ∷ []

-- The error lines of such a game.
abbrev pub error_line : List ℕ → List ℕ
error_line words = line_of (codes "error: " ++ words)

-- The error line of a game that is not there.
abbrev pub no_game_line : ℕ → List ℕ
no_game_line game = codes "error: no game " ++ decimal game ++ 10 ∷ []

-- What is wrong with the text of a move.
abbrev pub san_words : SanFault → List ℕ
san_words san.Shape = codes "bad move text"
san_words san.NoMove = codes "no legal move"
san_words san.Two = codes "ambiguous move"

-- `filter N of M`: how many games are in, and how many there are.
abbrev pub count_line : ℕ → ℕ → List ℕ
count_line count games = codes "filter " ++ decimal count ++ codes " of " ++ decimal games ++ 10 ∷ []

abbrev pub filter_line : List (Option ℕ) → List ℕ
filter_line plies = count_line (count_in plies) (length plies)

-- `G P`: a game that is in, and its ply.
abbrev pub hit_line : ℕ → ℕ → List ℕ
hit_line game ply = decimal game ++ codes " " ++ decimal ply ++ 10 ∷ []

-- The lines of the games that are in, the first entry being that of this game.
abbrev pub hit_lines : ℕ → List (Option ℕ) → List ℕ
hit_lines game plies = flat_map (λ entry. option_map_or (λ ply. hit_line entry.0 ply) entry.1 []) (enumerate_from game plies)

-- What `hits` and `find` write.
abbrev pub hits_text : List (Option ℕ) → List ℕ
hits_text plies = hit_lines 0 plies ++ filter_line plies

-- The texts of the entries of a filter, each beside what there is of its game, the first being that of this game.
abbrev pub texts_from : {A : Type 0} → (ℕ → Option ℕ → A → List ℕ) → ℕ → List (Option ℕ) → List A → List ℕ
texts_from text game plies items = flat_map (λ entry. text entry.0 entry.1.0 entry.1.1) (enumerate_from game (zip plies items))

-- A word and a name.
abbrev pub name_line : List ℕ → List ℕ → List ℕ
name_line words name = words ++ name ++ 10 ∷ []

-- The error line of these commands: no filter of a name is kept.
abbrev pub no_filter_line : List ℕ → List ℕ
no_filter_line name = name_line (codes "error: no filter ") name

-- The error line of a line that is no command.
abbrev pub fault_line : ScriptFault → List ℕ
fault_line TooLong = line_of (codes "error: line too long")
fault_line Unknown = line_of (codes "error: unknown command")
fault_line (Argument n) = game_line (codes "error: argument ") n
fault_line Extra = line_of (codes "error: extra argument")

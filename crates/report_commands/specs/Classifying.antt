-- The command that gives games their opening codes by a table. This project's own.
use Rattle.std.specs.Fmt.{decimal}
use Rattle.std.specs.List.{list_any}
use Rattle.std.specs.Prelude.{ℕ, List, map, Option, ◌||◌, is_some, [], ◌∷◌, ◌++◌, codes, length, count_by, Result, Ok, Err, true, sum_by, unwrap_or}
use Rattle.base_core.specs.Base.{Held, Base}
use Rattle.eco_class.specs.Reading.{table_of}
use Rattle.eco_class.specs.Table.{Opening, eco_of}
use Rattle.eco_class.specs.declared.fault.EcoFault.{EcoFault}
use Rattle.eco_class.specs.declared.fault.EcoWhat.{EcoWhat}
use Rattle.eco_class.specs.declared.fault.EcoWhat.TheVariants as what
use Rattle.shell_state.specs.Lines.{san_words, line_of}
use Rattle.shell_state.specs.State.{State, games_of}
use Rattle.shell_state.specs.Work.{reading, Work}

-- The codes that a table gives to the games, one for each: none if it gives none.
abbrev pub codes_of : List Opening → State → List (Option ℕ)
codes_of table s = map (eco_of table) (games_of s)

-- The state in which each game has the code that a table gives it, or its own if it gives none; it is unsaved if a game got one.
abbrev pub classified_by : State → List Opening → State
classified_by s table =
    let coded : Held → Held = λ held. record held { head = record held.head { eco = unwrap_or (eco_of table held.game) held.head.eco } } in
    let base : Base = record s.shared.base { games = map coded s.shared.base.games } in
    record s { shared = record s.shared { base = base; unsaved = list_any is_some (codes_of table s) || s.shared.unsaved } }

-- `classified C of N`: how many games got a code, and how many there are.
abbrev pub classified_line : ℕ → ℕ → List ℕ
classified_line count games = codes "classified " ++ decimal count ++ codes " of " ++ decimal games ++ 10 ∷ []

abbrev pub classified_text : State → List Opening → List ℕ
classified_text s table = classified_line (count_by is_some (codes_of table s)) (length s.shared.base.games)

-- What is wrong with a line of a table.
abbrev pub eco_words : EcoWhat → List ℕ
eco_words what.Lines = codes "too many lines"
eco_words what.Code = codes "bad code"
eco_words (what.San fault) = san_words fault
eco_words (what.Twice earlier) = codes "repeated position"

-- `error: eco line L: WHAT`
abbrev pub no_table_line : EcoFault → List ℕ
no_table_line fault = line_of (codes "error: eco line " ++ decimal fault.line ++ codes ": " ++ eco_words fault.what)

-- eco <<WORD: a body that is no table changes nothing.
abbrev pub state_by : State → Result (List Opening) EcoFault → State
state_by s (Ok table) = classified_by s table
state_by s (Err fault) = s

abbrev pub text_by : State → Result (List Opening) EcoFault → List ℕ
text_by s (Ok table) = classified_text s table
text_by s (Err fault) = no_table_line fault

-- The records of all games are read, if the body is a table.
abbrev pub eco_work : List ℕ → Work
eco_work body =
    record (reading (λ s. state_by s (table_of body)) (λ s. text_by s (table_of body)) (λ looks plies. sum_by (λ look. look.len) looks)) {
      body = true;
    }

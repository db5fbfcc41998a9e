-- The command that lists the games of the filter. This project's own.
use Rattle.std.specs.Fmt.{decimal}
use Rattle.std.specs.Option.{option_map_or}
use Rattle.std.specs.Prelude.{ℕ, List, ◌++◌, codes, ◌==◌, if◌then◌else◌, [], ◌∷◌, Option, map, ◌-◌}
use Rattle.game_tree.specs.Date.{date_text}
use Rattle.game_tree.specs.Eco.{eco_text}
use Rattle.game_tree.specs.Outcome.{outcome_text}
use Rattle.game_tree.specs.declared.head.Head.{Head}
use Rattle.shell_state.specs.Lines.{filter_line, texts_from}
use Rattle.shell_state.specs.State.{State}
use Rattle.shell_state.specs.Work.{Work, quiet}

-- `G P RESULT DATE ECO WHITE - BLACK`: a game that is in, its ply, and what its head says; a dash stands for no opening code.
abbrev pub listed_numbers : ℕ → ℕ → List ℕ
listed_numbers game ply = decimal game ++ codes " " ++ decimal ply ++ codes " "

abbrev pub listed_eco : ℕ → List ℕ
listed_eco eco = if eco == 0 then codes "-" else eco_text eco

abbrev pub listed_facts : Head → List ℕ
listed_facts head = outcome_text head.result ++ codes " " ++ date_text head.date ++ codes " " ++ listed_eco head.eco ++ codes " "

abbrev pub listed_players : Head → List ℕ
listed_players head = head.white ++ codes " - " ++ head.black ++ 10 ∷ []

abbrev pub listed : ℕ → ℕ → Head → List ℕ
listed game ply head = listed_numbers game ply ++ (listed_facts head ++ listed_players head)

-- A game that is out has no line.
abbrev pub listed_if_in : ℕ → Option ℕ → Head → List ℕ
listed_if_in game ply head = option_map_or (λ ply. listed game ply head) ply []

-- list
abbrev pub list_of : List (Option ℕ) → List Head → List ℕ
list_of plies heads = texts_from listed_if_in 0 plies heads ++ filter_line plies

abbrev pub list_text : State → List ℕ
list_text s = list_of s.seat.filter (map (λ held. held.head) s.shared.base.games)

abbrev pub list_work : Work
list_work = quiet (λ s. s) list_text

-- The commands that take games in: `import` and `replace`. This project's own.
use Rattle.std.specs.Fmt.{decimal}
use Rattle.std.specs.Option.{option_map_or}
use Rattle.std.specs.Prelude.{ℕ, ◌+◌, if◌then◌else◌, List, [], ◌∷◌, ◌++◌, codes, Option, Some, is_none, is_some, length, None, Result, Err, Ok, slice_get, true}
use Rattle.base_core.specs.Base.{Base}
use Rattle.base_core.specs.Edits.{game_replaced}
use Rattle.command_runs.specs.Plain.{Plain, after_all, run}
use Rattle.game_tree.specs.Game.{GameTree}
use Rattle.game_tree.specs.declared.head.Head.{Head}
use Rattle.pgn_read.specs.Items.{items_of}
use Rattle.pgn_read.specs.declared.item.GameFault.{GameFault}
use Rattle.pgn_read.specs.declared.item.GameWhat.{GameWhat}
use Rattle.pgn_read.specs.declared.item.GameWhat.TheVariants as what
use Rattle.pgn_read.specs.declared.item.Item.{Item}
use Rattle.pgn_read.specs.declared.item.Item.TheVariants.{Good, Bad}
use Rattle.filter_seat.specs.SavedFilters.{to_start}
use Rattle.filter_seat.specs.Seats.{each_filter}
use Rattle.shell_state.specs.Lines.{san_words, game_line, line_of, no_game_line}
use Rattle.shell_state.specs.Refusing.{not_added, refusal_of, refusal_words}
use Rattle.shell_state.specs.State.{State, with_base, with_game, with_seat}
use Rattle.shell_state.specs.Work.{writing, Work}
use Rattle.shell_state.specs.Work.Price.{by_looks}

-- ---- the lines of items

-- `error: game K ..`: a line that names an item of a body, the first being 1.
abbrev pub item_line : ℕ → List ℕ → List ℕ
item_line number words = codes "error: game " ++ decimal number ++ words ++ 10 ∷ []

-- What is wrong with a token of a game's text.
abbrev pub what_words : GameWhat → List ℕ
what_words what.Tag = codes "bad tag"
what_words what.TagTooLong = codes "tag too long"
what_words (what.San fault) = san_words fault
what_words (what.Fen fault) = codes "bad position"
what_words what.Brace = codes "open comment"
what_words what.Paren = codes "unbalanced variation"
what_words what.Depth = codes "variation too deep"
what_words what.Token = codes "bad token"
what_words what.TooLong = codes "game too long"

-- `error: game K line L column C: WHAT`
abbrev pub fault_words : GameFault → List ℕ
fault_words fault = codes " line " ++ decimal fault.line ++ codes " column " ++ decimal fault.column ++ codes ": " ++ what_words fault.what

abbrev pub faulty_line : ℕ → GameFault → List ℕ
faulty_line number fault = item_line number (fault_words fault)

-- ---- import <<WORD

-- The state, and how many games were added and how many items refused.
pub record Intake : Type 0 where
  pub state : State
  pub added : ℕ
  pub refused : ℕ

abbrev pub none_taken : State → Intake
none_taken s = record { state = s; added = 0; refused = 0 }

-- The number of the next item.
abbrev pub next_number : Intake → ℕ
next_number i = i.added + i.refused + 1

abbrev pub one_refused : Intake → Intake
one_refused i = record i { refused = i.refused + 1 }

abbrev pub item_after : Intake → Item → Intake
item_after i (Good head game) =
    if is_some (not_added i.state.shared head game) then one_refused i
    else record i { state = with_game i.state head game; added = i.added + 1 }
item_after i (Bad fault) = one_refused i

-- `error: game K: WHY` for a game that is not added.
abbrev pub item_text : Intake → Item → List ℕ
item_text i (Good head game) =
    option_map_or (λ why. item_line (next_number i) (codes ": " ++ refusal_words why)) (not_added i.state.shared head game)
    (game_line (codes "added ") (length i.state.shared.base.games))
item_text i (Bad fault) = faulty_line (next_number i) fault

-- The command is a run of the items of its body.
abbrev pub intake : Plain Intake Item
intake = record { after = item_after; text = item_text }

abbrev pub taken_in : State → List ℕ → Intake
taken_in s body = after_all intake (none_taken s) (items_of body)

-- `imported A refused R`
abbrev pub imported_line : ℕ → ℕ → List ℕ
imported_line added refused = codes "imported " ++ decimal added ++ codes " refused " ++ decimal refused ++ 10 ∷ []

abbrev pub import_text : State → List ℕ → List ℕ
import_text s body = run intake (none_taken s) (items_of body) ++ imported_line (taken_in s body).added (taken_in s body).refused

-- ---- replace G <<WORD

-- The line of the first faulty item, the first item having this number.
abbrev pub first_faulty : ℕ → List Item → Option (List ℕ)
first_faulty number [] = None
first_faulty number (Good head game ∷ items) = first_faulty (number + 1) items
first_faulty number (Bad fault ∷ items) = Some (faulty_line number fault)

-- A game that can take the place of another one, or the error line.
abbrev pub unless_line : Option (List ℕ) → Result (Head × GameTree) (List ℕ) → Result (Head × GameTree) (List ℕ)
unless_line line game = option_map_or Err line game

abbrev pub the_one : Base → List Item → Result (Head × GameTree) (List ℕ)
the_one base (Good head game ∷ []) = unless_line (refusal_of base head game) (Ok (head, game))
the_one base _ = Err (line_of (codes "error: one game expected"))

abbrev pub the_new : State → ℕ → List ℕ → Result (Head × GameTree) (List ℕ)
the_new s game body =
    if is_none (slice_get s.shared.base.games game) then Err (no_game_line game)
    else unless_line (first_faulty 1 (items_of body)) (the_one s.shared.base (items_of body))

abbrev pub state_with : State → ℕ → Result (Head × GameTree) (List ℕ) → State
state_with s game (Ok new) = with_seat (with_base s (game_replaced game new.0 new.1 s.shared.base)) (each_filter (to_start game) s.seat)
state_with s game (Err line) = s

abbrev pub line_with : ℕ → Result (Head × GameTree) (List ℕ) → List ℕ
line_with game (Ok new) = game_line (codes "replaced ") game
line_with game (Err line) = line

-- What the two do with a body.
abbrev pub import_work : List ℕ → Work
import_work body = record (writing (λ s. (taken_in s body).state) (λ s. import_text s body) (by_looks (λ looks plies. 0))) { early = true; body = true }

abbrev pub replace_work : ℕ → List ℕ → Work
replace_work game body =
    record (writing (λ s. state_with s game (the_new s game body)) (λ s. line_with game (the_new s game body)) (by_looks (λ looks plies. 0))) {
      body = true;
    }

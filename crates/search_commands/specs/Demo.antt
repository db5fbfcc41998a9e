-- The command that adds games which are made of draws, and shows them. This project's own.
use Rattle.std.specs.Fmt.{decimal}
use Rattle.std.specs.Prelude.{ℕ, true, List, Option, None, ◌+◌, is_some, option_map, unwrap_or, if◌then◌else◌, zero, suc, ◌∷◌, ◌++◌, [], codes}
use Rattle.cell_core.specs.declared.man.Colour.TheVariants.{White}
use Rattle.chess_laws.specs.Position.{start_men}
use Rattle.demo_games.specs.Demo.{Made, demo_game}
use Rattle.game_filter.specs.declared.op.Op.TheVariants.{Ignore}
use Rattle.game_tree.specs.Replay.{plies_of}
use Rattle.sig_index.specs.declared.pos_query.PosQuery.{PosQuery}
use Rattle.search_commands.specs.Searching.{search_position_after, search_position_text, search_position_work}
use Rattle.search_commands.specs.Trees.{tree_said, tree_work}
use Rattle.shell_state.specs.Refusing.{not_added, refusal_line}
use Rattle.shell_state.specs.Slots.{exactly}
use Rattle.shell_state.specs.State.{State, with_game}
use Rattle.shell_state.specs.Work.{writing, Work, price}
use Rattle.shell_state.specs.Work.Price.{by_state}
use Rattle.shell_state.specs.declared.refusing.Refusal.{Refusal}

-- ---- the adding

-- The state behind the games that were added, the number from which the next one is drawn, and the sum of their plies.
-- If the game behind them is not added, it has why.
pub record Adding : Type 0 where
  pub state : State
  pub number : ℕ
  pub plies : ℕ
  pub refused : Option Refusal

-- A game is added, unless something is against it.
abbrev pub with_made : Adding → Made → Adding
with_made a made =
    if is_some (not_added a.state.shared made.head made.game) then record a { refused = not_added a.state.shared made.head made.game }
    else record { state = with_game a.state made.head made.game; number = made.left; plies = a.plies + plies_of made.game; refused = None }

-- One more game is made and added, unless one was refused.
abbrev pub one_more : Adding → ℕ → Adding
one_more a i = if is_some a.refused then a else with_made a (demo_game a.number i)

-- So many games, one after the other.
abbrev pub adding : State → ℕ → ℕ → Adding
adding s seed zero = record { state = s; number = seed; plies = 0; refused = None }
adding s seed (suc games) = one_more (adding s seed games) games

-- ---- demo SEED GAMES

-- The initial position on all squares, with White to move.
abbrev pub at_start : PosQuery
at_start = exactly start_men White

-- `demo GAMES games P plies`
abbrev pub demo_line : ℕ → ℕ → List ℕ
demo_line games plies = codes "demo " ++ decimal games ++ codes " games " ++ decimal plies ++ codes " plies" ++ 10 ∷ []

-- The initial position is searched, as `search ignore position exact` does, and its tree is written, as `tree` does.
abbrev pub shown_after : State → State
shown_after s = search_position_after s Ignore at_start

abbrev pub shown_text : State → List ℕ
shown_text s = search_position_text s Ignore at_start ++ tree_said (shown_after s) start_men White

-- The command ends with the error line of a game that is refused, and the games before it stay.
abbrev pub demo_after : State → ℕ → ℕ → State
demo_after s seed games = if is_some (adding s seed games).refused then (adding s seed games).state else shown_after (adding s seed games).state

abbrev pub demo_text : State → ℕ → ℕ → List ℕ
demo_text s seed games =
    let added : Adding = adding s seed games in
    unwrap_or (option_map refusal_line added.refused) (demo_line games added.plies ++ shown_text added.state)

-- The initial position is searched among all games, and its tree is that of the games that it leaves in.
abbrev pub shown_price : State → ℕ
shown_price s = price s (search_position_work Ignore at_start) + price (shown_after s) (tree_work start_men White)

-- If a game is refused, nothing is searched.
abbrev pub demo_price : State → ℕ → ℕ → ℕ
demo_price s seed games = if is_some (adding s seed games).refused then 0 else shown_price (adding s seed games).state

abbrev pub demo_work : ℕ → ℕ → Work
demo_work seed games =
    record (writing (λ s. demo_after s seed games) (λ s. demo_text s seed games) (by_state (λ s. demo_price s seed games))) { early = true }

-- Games that are made of draws, so that a seed gives the same games each time. This project's own.
use Rattle.std.specs.Prelude.{ℕ, zero, suc, ◌+◌, ◌-◌, ◌*◌, ◌/◌, ◌%◌, ◌^◌, nat_lt, if◌then◌else◌, false, List, [], ◌∷◌, length, map, slice_get, slice_index_or, Option, None, codes}
use Rattle.std.specs.Option.{option_map_or}
use Rattle.cell_core.specs.declared.step.Move.{Move}
use Rattle.chess_laws.specs.declared.setup.Setup.{Setup}
use Rattle.chess_laws.specs.Position.{start_setup}
use Rattle.chess_laws.specs.Step.{stepped}
use Rattle.game_tree.specs.Building.{bare}
use Rattle.game_tree.specs.Date.{unknown_date}
use Rattle.game_tree.specs.Game.{GameTree}
use Rattle.game_tree.specs.Tree.{line_of}
use Rattle.game_tree.specs.declared.head.Head.{Head}
use Rattle.game_tree.specs.declared.head.Outcome.{Outcome}
use Rattle.game_tree.specs.declared.head.Outcome.TheVariants.{Unknown, White, Black, Draw}
use Rattle.demo_games.specs.Moves.{legal_moves}

-- ---- draws

-- The number that follows x, below 2^64.
unfoldable pub next_number : ℕ → ℕ
next_number x = (x * 6364136223846793005 + 1442695040888963407) % 2 ^ 64

-- What is drawn from x: its upper bits, once it has become the next number.
unfoldable pub drawn : ℕ → ℕ
drawn x = next_number x / 2 ^ 33

-- The number that x has become after so many draws.
abbrev pub after_draws : ℕ → ℕ → ℕ
after_draws zero x = x
after_draws (suc count) x = after_draws count (next_number x)

-- ---- the line of a game

-- The move that a draw takes of these, and none if there are none or more than 256.
unfoldable pub picked : ℕ → List Move → Option Move
picked draw moves = if nat_lt 256 (length moves) then None else slice_get moves (draw % length moves)

-- A line from a position of at most so many plies, each drawn from the legal moves. It ends when no move is drawn.
abbrev pub line_drawn : ℕ → ℕ → Setup → List Move
line_drawn zero x p = []
line_drawn (suc plies) x p = option_map_or (λ m. m ∷ line_drawn plies (next_number x) (stepped p m)) (picked (drawn x) (legal_moves p)) []

-- The line of a game has at most 60 plies.
unfoldable pub moves_drawn : ℕ → List Move
moves_drawn x = line_drawn 60 x start_setup

-- ---- the head of a game

-- The result of a draw.
abbrev pub result_of : ℕ → Outcome
result_of code = slice_index_or (Unknown ∷ White ∷ Black ∷ Draw ∷ []) code Unknown

-- The head of the game of a number, with this result: names and ratings alone.
unfoldable pub demo_head : ℕ → Outcome → Head
demo_head i outcome = record {
  white = codes "Demo White";
  black = codes "Demo Black";
  event = codes "Demo";
  site = codes "?";
  round = codes "?";
  date = unknown_date;
  event_date = unknown_date;
  result = outcome;
  white_rating = record { value = 2000 + i % 400; kind = 0 };
  black_rating = record { value = 2400 - i % 400; kind = 0 };
  eco = 0;
  marks = 0;
  deleted = false;
  tags = [];
}

-- ---- the games

-- A game with its head, and the number that is left for the next one.
pub record Made : Type 0 where
  pub head : Head
  pub game : GameTree
  pub left : ℕ

-- The game of number i from x: its result is drawn first, then its moves.
unfoldable pub demo_game : ℕ → ℕ → Made
demo_game x i = record {
  head = demo_head i (result_of (drawn x % 4));
  game = record { start = start_setup; lead = None; line = line_of (map bare (moves_drawn (next_number x))) };
  left = after_draws (length (moves_drawn (next_number x))) (next_number x);
}

-- Tables of opening codes, and the code of a game (this project's own; the codes are those of the Encyclopaedia of Chess Openings).
use Rattle.std.specs.Prelude.{◌≡◌, ◌<◌, ◌≤◌, ◌&&◌, ℕ, zero, suc, Bool, List, Option, Some, None, option_map}
use Rattle.std.specs.List.{find}
use Rattle.std.specs.Option.{option_or}
use Rattle.cell_core.specs.declared.man.Colour.{Colour}
use Rattle.cell_core.specs.Board.{Men, same_men}
use Rattle.cell_core.specs.Man.{same_colour}
use Rattle.chess_laws.specs.declared.setup.Setup.{Setup}
use Rattle.game_tree.specs.Game.{GameTree}
use Rattle.game_tree.specs.Replay.{plies_of, position_at}

-- A line of a table: its number in the text, its code, and the board and the side to move at the end of its moves. A table is the list of
-- its lines.
pub record Opening : Type 0 where
  pub line : ℕ
  pub code : ℕ
  pub board : Men
  pub side : Colour

-- Whether a line ends on this board with this side to move. Castling rights and the en passant square are not compared.
abbrev pub ends_at : Men → Colour → Opening → Bool
ends_at board side opening = same_men opening.board board && same_colour opening.side side

-- The number and the code of the first line that ends there, if there is one.
abbrev pub line_at : List Opening → Men → Colour → Option ℕ
line_at table board side = option_map (λ opening. opening.line) (find (ends_at board side) table)

abbrev pub code_at : List Opening → Men → Colour → Option ℕ
code_at table board side = option_map (λ opening. opening.code) (find (ends_at board side) table)

abbrev pub code_of : List Opening → Setup → Option ℕ
code_of table p = code_at table p.board p.side

-- The code of the last of the first n positions of a main line on which a line of the table ends, or none if none does.
unfoldable pub last_code : List Opening → GameTree → ℕ → Option ℕ
last_code table game zero = None
last_code table game (suc k) = option_or (code_of table (position_at game k)) (last_code table game k)

-- The code of a game, by all positions of its main line from its start on.
abbrev pub eco_of : List Opening → GameTree → Option ℕ
eco_of table game = last_code table game (suc (plies_of game))

-- The same as a relation: the code is that of the position after so many moves, and none of the later ones has any; or none has.
pub record IsLastAt (table : List Opening) (game : GameTree) (code : ℕ) : Type 0 where
  pub ply : ℕ
  pub within : ply ≤ plies_of game
  pub has : code_of table (position_at game ply) ≡ Some code
  pub later : (k : ℕ) → ply < k → k ≤ plies_of game → code_of table (position_at game k) ≡ None

abbrev pub IsLast : List Opening → GameTree → Option ℕ → Type 0
IsLast table game (Some code) = IsLastAt table game code
IsLast table game None = (k : ℕ) → k ≤ plies_of game → code_of table (position_at game k) ≡ None

-- Two lines end on different boards, or with different sides to move.
abbrev pub EndApart : Opening → Opening → Type 0
EndApart first second = first.board ≡ second.board → first.side ≡ second.side → ⊥

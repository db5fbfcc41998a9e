-- What the tree of a position counts of the games of a base (this project's own).
use Rattle.std.specs.Prelude.{ℕ, zero, suc, false, List, [], ◌∷◌, ◌++◌, length, Option, Some, None, option_map, slice_index_or}
use Rattle.cell_core.specs.Board.{Men}
use Rattle.cell_core.specs.declared.man.Colour.{Colour}
use Rattle.cell_core.specs.declared.step.Move.{Move}
use Rattle.chess_laws.specs.Position.{start_setup}
use Rattle.game_tree.specs.Game.{GameTree}
use Rattle.game_tree.specs.Tree.{ends}
use Rattle.game_tree.specs.declared.head.Head.{Head}
use Rattle.pos_search.specs.Matching as position
use Rattle.sig_index.specs.Games.{head_in}
use Rattle.sig_index.specs.declared.pos_query.Mode.TheVariants.{Exact}
use Rattle.sig_index.specs.declared.pos_query.PosQuery.{PosQuery}
use Rattle.tree_rows.specs.Hits.{hit_of}
use Rattle.tree_rows.specs.declared.hit.GameHit.{GameHit}

-- The positions with this board and this side to move, on main lines.
abbrev pub exactly : Men → Colour → PosQuery
exactly board side = record { mode = Exact; board = board; side = side; vars = false }

-- What a tree counts of a game: its first match with the move after it, if its main line meets the position.
abbrev pub hit_of_game : PosQuery → Head → GameTree → Option GameHit
hit_of_game query head game = option_map (λ (found : ℕ × Option Move). hit_of found.1 query.side head) (position.hit_of query game)

-- Of a game that is in; one that is out is not counted.
abbrev pub hit_if_in : PosQuery → Option ℕ → Head → GameTree → Option GameHit
hit_if_in query (Some ply) head game = hit_of_game query head game
hit_if_in query None head game = None

abbrev pub listed_hit : Option GameHit → List GameHit
listed_hit (Some hit) = hit ∷ []
listed_hit None = []

-- The game with a number, and past the last one a game without moves; and whether it is in.
abbrev pub game_in : List GameTree → ℕ → GameTree
game_in games i = slice_index_or games i (record { start = start_setup; lead = None; line = ends })

abbrev pub ply_in : List (Option ℕ) → ℕ → Option ℕ
ply_in plies i = slice_index_or plies i None

-- The hits of those of the first n games that are in, in their order; and those of all games of a filter.
abbrev pub hits_below : PosQuery → List (Option ℕ) → List Head → List GameTree → ℕ → List GameHit
hits_below query plies heads games zero = []
hits_below query plies heads games (suc n) =
    hits_below query plies heads games n ++ listed_hit (hit_if_in query (ply_in plies n) (head_in heads n) (game_in games n))

abbrev pub tree_hits : PosQuery → List (Option ℕ) → List Head → List GameTree → List GameHit
tree_hits query plies heads games = hits_below query plies heads games (length plies)

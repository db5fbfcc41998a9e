-- A search of the main line of a game in memory for one packed board (this project's own).
use Rattle.std.specs.Prelude.{◌≡◌, ℕ, false, length, Option, option_map}
use Rattle.cell_core.specs.Packed.{Packed, packed_of}
use Rattle.cell_core.specs.declared.step.Move.{Move}
use Rattle.game_tree.specs.Game.{GameTree}
use Rattle.sig_index.specs.declared.pos_query.Mode.TheVariants.{Exact}
use Rattle.sig_index.specs.declared.pos_query.PosQuery.{PosQuery}
use Rattle.pos_search.specs.Matching.{hit_of}

-- A query seeks this packed board: it asks for exactly its men, with its side to move, and looks at the main line alone.
pub record Seeks (query : PosQuery) (packed : Packed) : Type 0 where
  pub exact : query.mode ≡ Exact
  pub squares : length query.board ≡ 64
  pub board : packed ≡ packed_of query.board query.side
  pub main : query.vars ≡ false

-- The move after the first match of a game: none if nothing matches, and no move if the line ends at the match.
abbrev pub next_of : PosQuery → GameTree → Option (Option Move)
next_of query game = option_map (λ (found : ℕ × Option Move). found.1) (hit_of query game)

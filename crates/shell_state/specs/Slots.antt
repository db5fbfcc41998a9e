-- What the slots of a script show, and the hits that are kept of the games for them. This project's own.
use Rattle.std.specs.Prelude.{ℕ, List, Option, Some, None, false, map, option_map, slice_index_or}
use Rattle.base_core.specs.Base.{Held}
use Rattle.cell_core.specs.Board.{Men}
use Rattle.cell_core.specs.Packed.{Packed, men_of}
use Rattle.cell_core.specs.declared.man.Colour.{Colour}
use Rattle.cell_core.specs.declared.step.Move.{Move}
use Rattle.pos_search.specs.Matching as position
use Rattle.sig_index.specs.declared.pos_query.Mode.TheVariants.{Exact}
use Rattle.sig_index.specs.declared.pos_query.PosQuery.{PosQuery}
use Rattle.tree_live.specs.Watching.{Watched}
use Rattle.tree_live.specs.declared.entry.Entry.{Entry}
use Rattle.tree_rows.specs.Hits.{hit_of}
use Rattle.tree_rows.specs.declared.hit.GameHit.{GameHit}

-- What a slot shows: nothing, since it has no view; nothing, though it has one; or the tree of a board with its side to move.
pub data Slot : Type 0 where
  empty : Slot
  idle : Slot
  shows : Packed → Slot

-- The slot of a number; past the last one there is none that has a view.
abbrev pub slot_at : List Slot → ℕ → Slot
slot_at slots k = slice_index_or slots k empty

-- A board on all squares of a main line, with its side to move; and the same of a packed one.
abbrev pub exactly : Men → Colour → PosQuery
exactly board side = record { mode = Exact; board = board; side = side; vars = false }

abbrev pub exactly_on : Packed → PosQuery
exactly_on packed = exactly (men_of packed.cells) packed.side

-- What a tree counts of a game: its first match with the move after it, if its main line meets the position.
abbrev pub hit_of_game : PosQuery → Held → Option GameHit
hit_of_game query held = option_map (λ (found : ℕ × Option Move). hit_of found.1 query.side held.head) (position.hit_of query held.game)

-- The hits that are kept for a slot that shows a tree: one of each game that meets its position.
pub record HitTable : Type 0 where
  pub board : Packed
  pub hits : List (Option GameHit)

abbrev pub table_of : List Held → Slot → Option HitTable
table_of games empty = None
table_of games idle = None
table_of games (shows board) = Some (record { board = board; hits = map (hit_of_game (exactly_on board)) games })

abbrev pub tables_of : List Held → List Slot → List (Option HitTable)
tables_of games slots = map (table_of games) slots

-- The same of watched positions, whose games are in or out.
abbrev pub table_in : Watched → HitTable
table_in watch = record { board = watch.board; hits = map (λ (game : Entry). game.hit) watch.games }

abbrev pub tables_in : List (Option Watched) → List (Option HitTable)
tables_in watches = map (option_map table_in) watches

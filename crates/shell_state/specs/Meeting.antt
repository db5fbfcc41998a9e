-- What is read of the games to find those that meet a position, and what a tree counts of them. This project's own.
use Rattle.std.specs.Prelude.{ℕ, Option, List, None, flat_map, option_to_list, zip, is_some, if◌then◌else◌}
use Rattle.base_core.specs.Base.{Held}
use Rattle.game_filter.specs.declared.op.Op.{Op}
use Rattle.pos_search.specs.Searching.{is_read}
use Rattle.sig_index.specs.declared.pos_query.PosQuery.{PosQuery}
use Rattle.tree_rows.specs.Rows.{rows_of}
use Rattle.tree_rows.specs.TreeText.{tree_text}
use Rattle.tree_rows.specs.declared.hit.GameHit.{GameHit}
use Rattle.shell_state.specs.Passing.{searched_len}
use Rattle.shell_state.specs.Slots.{hit_of_game}
use Rattle.shell_state.specs.Work.{Look}

-- The bytes of the records that a search for a position reads: those that the index does not decide.
abbrev pub position_len : Op → PosQuery → List Look → List (Option ℕ) → ℕ
position_len op query looks plies = searched_len (λ look. look.len) (λ look. is_read query look.places look.sig) op plies looks

-- What the tree counts of a game that is in; one that is out is not counted.
abbrev pub hit_if_in : PosQuery → Option ℕ → Held → Option GameHit
hit_if_in query ply held = if is_some ply then hit_of_game query held else None

-- The hits of the games that are in, in their order.
abbrev pub tree_hits : PosQuery → List (Option ℕ) → List Held → List GameHit
tree_hits query plies games = flat_map (λ entry. option_to_list (hit_if_in query entry.0 entry.1)) (zip plies games)

-- The text of the rows of the games that are in and meet the board on all squares.
abbrev pub tree_of : PosQuery → List (Option ℕ) → List Held → List ℕ
tree_of query plies games = tree_text query.board query.side (rows_of (tree_hits query plies games))

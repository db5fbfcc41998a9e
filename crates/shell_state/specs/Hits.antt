-- The hits of a game that comes in (this project's own). Only contracts of functions that no reader of a script needs cite this.
use Rattle.std.specs.Prelude.{◌≡◌, ℕ, List, Option, option_and_then, option_map}
use Rattle.cell_core.specs.Packed.{Packed}
use Rattle.cell_core.specs.declared.step.Move.{Move}
use Rattle.game_tree.specs.Game.{GameTree}
use Rattle.game_tree.specs.declared.head.Head.{Head}
use Rattle.pos_search.specs.Matching as position
use Rattle.tree_live.specs.Slots.{in_slot}
use Rattle.tree_live.specs.Watching.{Watched}
use Rattle.tree_rows.specs.Hits.{hit_of}
use Rattle.tree_rows.specs.declared.hit.GameHit.{GameHit}
use Rattle.shell_state.specs.Slots.{exactly_on}

-- The hit of a game with this head, if it meets the board.
abbrev pub hit_on : Head → GameTree → Packed → Option GameHit
hit_on head game board = option_map (λ (found : ℕ × Option Move). hit_of found.1 board.side head) (position.hit_of (exactly_on board) game)

-- These are its hits for the slots that show trees, and there is none for the others.
abbrev pub AreHits : List (Option Watched) → Head → GameTree → List (Option GameHit) → Type 0
AreHits watches head game hits = (k : ℕ) → in_slot hits k ≡ option_and_then (λ (watch : Watched). hit_on head game watch.board) (in_slot watches k)

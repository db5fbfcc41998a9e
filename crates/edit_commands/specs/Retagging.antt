-- What trees count of a game whose head has become another. Only private functions cite this.
use Rattle.std.specs.Prelude.{◌≡◌, ℕ, List, Option, Some, option_and_then, option_map}
use Rattle.game_tree.specs.declared.head.Head.{Head}
use Rattle.tree_live.specs.Slots.{in_slot, kept_hit}
use Rattle.tree_live.specs.Watching.{Watched}
use Rattle.tree_rows.specs.Hits.{hit_of}
use Rattle.tree_rows.specs.declared.hit.GameHit.{GameHit}

-- The hit that a watch keeps of a game, with this head: the move after its match stays.
abbrev pub hit_again : Head → ℕ → Option Watched → Option GameHit
hit_again head i watch =
    option_and_then (λ (w : Watched). option_map (λ (hit : GameHit). hit_of hit.next w.board.side head) (kept_hit (Some w) i)) watch

-- These are those of the slots.
abbrev pub AreAgain : Head → ℕ → List (Option Watched) → List (Option GameHit) → Type 0
AreAgain head i watches hits = (k : ℕ) → in_slot hits k ≡ hit_again head i (in_slot watches k)

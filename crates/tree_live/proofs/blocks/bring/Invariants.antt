use Rattle.std.proofs.Common.{◌≡◌, ◌*◌, length}
use Rattle.tree_live.specs.Keeping.{AreBrought, partly}
use Rattle.tree_live.proofs.blocks.bring.Given as goal

-- The games of the blocks so far are in or out by the filter, and what is known of a block is right.
abbrev pub invariant-loop-k : goal.invariant-loop-k
invariant-loop-k l =
    (l.games ≡ partly (64 * l.k) l.filter l.fn.games) × (AreBrought l.blocks l.games × (length l.blocks ≡ length l.fn.blocks))

-- The sets are the same where the squares are.
use Rattle.std.proofs.Common.{◌≡◌}
use Rattle.std.specs.Bool.{Decides}
use Rattle.std.proofs.lemmas.Bool.Decides.{same_from_decides}
use Rattle.cell_core.specs.Board.{same_men}
use Rattle.cell_core.proofs.Same.{same_men-Decides}
use Rattle.cell_core.proofs.Squares.{same_from_sets, sets_from_same}
use Rattle.cell_core.proofs.board.BoardPartialEq.eq.Goals as goal

pub returns : goal.returns
returns c =
    let decides : Decides c.is_same.result (c.self.inside.cells ≡ c.other.inside.cells) = (
      λ h. same_from_sets c.self.inside.cells c.other.inside.cells c.self.inside.sets c.other.inside.sets c.self.invariant c.other.invariant (c.is_same.ensures.same.0 h),
      λ e. c.is_same.ensures.same.1 (sets_from_same c.self.inside.cells c.other.inside.cells c.self.inside.sets c.other.inside.sets c.self.invariant c.other.invariant e),
    ) in
    rw (← c.self.view_is, ← c.other.view_is)
    (same_from_decides c.is_same.result (same_men c.self.inside.cells c.other.inside.cells) decides (same_men-Decides c.self.inside.cells c.other.inside.cells))

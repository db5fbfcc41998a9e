-- The man leaves his sets.
use Rattle.std.proofs.Common.{◌≡◌, sym, subst, Some}
use Rattle.cell_core.specs.Board.{Men, man_at}
use Rattle.cell_core.proofs.Squares.{removed}
use Rattle.cell_core.proofs.board.Board.take.Goals as goal

pub invariant_of-self : goal.invariant_of-self
invariant_of-self c =
    let stands : man_at c.self.inside.cells c.args.number ≡ Some c.args.man =
    subst (λ (men : Men). man_at men c.args.number ≡ Some c.args.man) (sym c.self.view_is) c.requires.stands in
    removed c.self.inside.cells c.args.number c.self.inside.sets c.remove.new.self c.args.man c.self.invariant stands c.remove.ensures.sets

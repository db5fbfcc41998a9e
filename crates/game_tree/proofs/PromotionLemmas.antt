-- A game without a promotion has none to another man than a queen.
use Rattle.std.proofs.Common.{◌≡◌, Bool, true, false, Option, Some, None, refl}
use Rattle.std.specs.Prelude.{◌||◌, is_some}
use Rattle.cell_core.specs.declared.man.Kind.{Kind}
use Rattle.cell_core.specs.declared.step.Move.{Move}
use Rattle.game_tree.specs.Tree.{Line, ends, goes, Branches, none, more}
use Rattle.game_tree.specs.Game.{GameTree}
use Rattle.game_tree.specs.Promotions.{line_any, branches_any, is_promotion, is_underpromotion, is_underpromotion_to, has_promotion, has_underpromotion}

-- None of two.
neither : (a b : Bool) → (a || b) ≡ false → (a ≡ false) × (b ≡ false)
neither true b h = cc
neither false b h = (refl, h)

to_none : (promo : Option Kind) → is_some promo ≡ false → is_underpromotion_to promo ≡ false
to_none None h = refl
to_none (Some kind) h = absurd cc

mutual
  line-none : (l : Line) → line_any is_promotion l ≡ false → line_any is_underpromotion l ≡ false
  line-none ends h = refl
  line-none (goes mv nags comment variations line) h =
      let first = neither (is_promotion mv) (branches_any is_promotion variations || line_any is_promotion line) h in
      let rest = neither (branches_any is_promotion variations) (line_any is_promotion line) first.1 in
      rw (to_none mv.promo first.0, branches-none variations rest.0) (line-none line rest.1)

  branches-none : (v : Branches) → branches_any is_promotion v ≡ false → branches_any is_underpromotion v ≡ false
  branches-none none h = refl
  branches-none (more lead line others) h =
      let parts = neither (line_any is_promotion line) (branches_any is_promotion others) h in
      rw (line-none line parts.0) (branches-none others parts.1)

pub none_under : (game : GameTree) → has_promotion game ≡ false → has_underpromotion game ≡ false
none_under game h = line-none game.line h

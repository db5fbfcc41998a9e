use Rattle.std.proofs.Common.{◌∙◌, None, Some, ap}
use Rattle.tree_rows.specs.declared.hit.GameHit.{GameHit}
use Rattle.shell_state.proofs.ReadHitLaws.{hit-in-memory}
use Rattle.shell_state.proofs.hits.hit_on.Goals as goal

pub returns-in_err-next : goal.returns-in_err-next
returns-in_err-next c = record {
  hit = c.from_residual.ensures
      ∙ hit-in-memory c.args.head.now c.args.game.now c.args.board.now c.args.side None c.cells-cells.ensures.squares c.in_err-next.ensures.next;
}

pub returns : goal.returns
returns c = record {
  hit = ap (λ (hit : GameHit). Some hit) c.of.ensures.hit
      ∙ hit-in-memory c.args.head.now c.args.game.now c.args.board.now c.args.side (Some c.in_ok-next.next) c.cells-cells.ensures.squares
      c.in_ok-next.ensures.next;
}

use Rattle.std.proofs.Common.{◌<◌, length, sym, subst, arith}
use Rattle.cell_core.specs.declared.step.Move.{Move}
use Rattle.chess_laws.specs.Step.{Legal}
use Rattle.scid_moves.proofs.answer.push_moves.Goals as goal

pub push_move-requires : goal.push_move-requires
push_move-requires c =
    let below : c.loop-m.m-index < length c.args.moves.now = omega (arith, c.loop-m-test.true, c.loop-m.invariant.within) in
    record { legal = subst (λ (m : Move). Legal c.args.position.now m) (sym c.m-item.is) (c.requires.legal c.loop-m.m-index c.m-item.result below) }

use Rattle.std.proofs.Common.{ap, false}
use Rattle.std.specs.Prelude.{◌↔◌, IsTrue}
use Rattle.chess_laws.specs.declared.setup.Setup.{Setup}
use Rattle.tree_rows.proofs.NeededLaws.{bare_sound, needed_is, needed_legal, needed_sound, unbroken}
use Rattle.tree_rows.proofs.move_text.is_from.Goals as goal

-- What never holds is not the case.
never : (P : Type 0) → (P → ⊥) → IsTrue false ↔ P
never P not = (λ yes. absurd (cc), λ p. absurd (not p))

pub returns-in_default : goal.returns-in_default
returns-in_default c = record {
  from = never _ (λ from. unbroken _ c.in_default.field-0 (bare_sound c.args.board.now c.args.side c.args.m.now from) c.in_default.ensures.fault);
}

pub returns-in-Ok-try_new : goal.returns-in-Ok-try_new
returns-in-Ok-try_new c =
    let position = c.in-Ok-try_new.position in
    record {
      from = (
        λ yes. record {
          position = position;
          sound = c.in-Ok-try_new.ensures.sound;
          board = ap (λ (p : Setup). p.board) c.in-Ok-try_new.ensures.ok;
          to_move = ap (λ (p : Setup). p.side) c.in-Ok-try_new.ensures.ok;
          legal = c.is_legal.ensures.legal.0 yes;
        },
        λ from. c.is_legal.ensures.legal.1 (needed_legal c.args.board.now c.args.side c.args.m.now position from
            (needed_is c.args.board.now c.args.side c.args.m.now c.in-Ok.bare position c.effect-effect.result c.right_needed-right.result c.square_needed.result
            c.in-Ok.ensures.ok c.effect-effect.ensures.effect c.right_needed-right.ensures c.square_needed.ensures c.in-Ok-try_new.ensures.ok)),
      );
    }

pub returns-in-Err : goal.returns-in-Err
returns-in-Err c = record {
  from = never _ (λ from. unbroken _ c.in-Err.field-0
      (needed_sound c.args.board.now c.args.side c.args.m.now c.in-Ok.bare c.effect-effect.result c.right_needed-right.result c.square_needed.result
      from c.in-Ok.ensures.ok c.effect-effect.ensures.effect c.right_needed-right.ensures c.square_needed.ensures) c.in-Err.ensures.fault);
}

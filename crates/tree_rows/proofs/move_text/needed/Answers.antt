use Rattle.tree_rows.proofs.NeededLaws.{bare_sound, needed_is, needed_legal, needed_sound}
use Rattle.tree_rows.proofs.move_text.needed.Goals as goal

pub placed-bare-requires : goal.placed-bare-requires
placed-bare-requires c = record { sound = bare_sound c.args.board.now c.args.side c.args.m.now c.requires.from }

pub placed-requires : goal.placed-requires
placed-requires c = record {
  sound = needed_sound c.args.board.now c.args.side c.args.m.now c.placed-bare.result c.effect-effect.result c.right_needed.result c.square_needed.result
      c.requires.from c.placed-bare.ensures.position c.effect-effect.ensures.effect c.right_needed.ensures c.square_needed.ensures;
}

pub returns-clause-legal : goal.returns-clause-legal
returns-clause-legal c =
    needed_legal c.args.board.now c.args.side c.args.m.now c.placed.result c.requires.from
    (needed_is c.args.board.now c.args.side c.args.m.now c.placed-bare.result c.placed.result c.effect-effect.result c.right_needed.result
    c.square_needed.result c.placed-bare.ensures.position c.effect-effect.ensures.effect c.right_needed.ensures c.square_needed.ensures
    c.placed.ensures.position)

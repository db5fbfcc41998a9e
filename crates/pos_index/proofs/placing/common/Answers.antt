use Rattle.std.proofs.Common.{rules, ◌≡◌, ◌+◌, ◌∙◌, sym, arith}
use Rattle.std.specs.Prelude.{Some}
use Rattle.game_tree.specs.Replay.{next_at, position_at}
use Rattle.pos_index.specs.Keeping.{row_in}
use Rattle.pos_index.proofs.GameLemmas.{alike-more, few-at, few-end, legal_next, next_within}
use Rattle.pos_index.proofs.placing.common.Goals as goal

pub returns-then-from-count-clause-few : goal.returns-then-from-count-clause-few
returns-then-from-count-clause-few c =
    few-at c.args.depth c.loop-ply.ply c.args.game.now (omega (arith, c.loop-ply-test.true, c.loop-ply.auto)) c.loop-ply.invariant.so.within

pub play-requires : goal.play-requires
play-requires c =
    let then : next_at c.args.game.now c.loop-ply.ply ≡ Some c.in-Some.m = sym c.next_in.ensures ∙ (search rules) in
    record {
      legal = (position_at c.args.game.now (c.loop-ply.ply + 1), legal_next c.args.game.now c.loop-ply.position c.loop-ply.ply c.in-Some.m c.requires.legal c.loop-ply.invariant.at then);
    }

pub returns-in-None-clause-few : goal.returns-in-None-clause-few
returns-in-None-clause-few c =
    few-end c.args.depth c.loop-ply.ply c.args.game.now (omega (arith, c.loop-ply-test.true, c.loop-ply.auto)) c.loop-ply.invariant.so.within

pub loop-ply-preserved : goal.loop-ply-preserved
loop-ply-preserved c =
    let game = c.args.game.now in
    let ply = c.loop-ply.ply in
    let then : next_at game ply ≡ Some c.in-Some.m = sym c.next_in.ensures ∙ (search rules) in
    record {
      so = record {
        alike = alike-more (row_in c.args.places.now c.args.i) game ply c.packed.result c.loop-ply.invariant.so.alike (omega (arith, c.if-from-count.false, c.from.ensures, c.count-count.ensures))
            (search rules) (search rules);
        within = next_within game ply c.in-Some.m then;
      };
      at = sym (c.play.ensures.only (position_at game (ply + 1)) (legal_next game c.loop-ply.position ply c.in-Some.m c.requires.legal c.loop-ply.invariant.at then));
    }

pub returns-clause-few : goal.returns-clause-few
returns-clause-few c =
    few-at c.args.depth (c.args.depth + 1) c.args.game.now (omega arith) (omega (arith, c.loop-ply-test.false, c.loop-ply.auto, c.loop-ply.invariant.so.within))

-- The values leave in what is left of the line as they do in the game.
use Rattle.std.proofs.Common.{◌≡◌, ◌++◌, ap, ◌∙◌, subst, sym}
use Rattle.game_tree.specs.Game.{GameTree}
use Rattle.game_tree.specs.Tree.{Played, line_of}
use Rattle.sig_index.specs.Leaving.{gone, staying}
use Rattle.sig_index.specs.Signature.{home_list}
use Rattle.sig_index.proofs.LeavingLemmas.{Replays-all, Replays-begin, Replays-more}
use Rattle.sig_index.proofs.signature.left_along.Goals as goal

pub loop-node-init : goal.loop-node-init
loop-node-init c =
    Replays-begin c.args.g.now c.as_slice-line.result.now c.all-still.result c.new-left.result.items c.requires.legal c.requires.initial
    (sym (ap (λ (g : GameTree). g.line) c.g.view_is) ∙ ap line_of (sym c.as_slice-line.ensures.value))
    c.all-still.ensures.all c.new-left.ensures

pub loop-node-preserved : goal.loop-node-preserved
loop-node-preserved c =
    Replays-more c.args.g.now c.as_slice-line.result.now c.loop-node.node-index c.node-item.result c.loop-node.still c.loop-node.left.items
    c.leave_by.new.self c.leave_by.new.left.items c.loop-node-test.true c.node-item.is c.loop-node.invariant
    (subst (λ (n : Played). c.leave_by.new.self ≡ staying n.mv c.loop-node.still) c.node.view_is c.leave_by.ensures.still)
    (subst (λ (n : Played). c.leave_by.new.left.items ≡ c.loop-node.left.items ++ gone n.mv c.loop-node.still) c.node.view_is c.leave_by.ensures.left)

pub returns : goal.returns
returns c = record {
  left = c.home_list.ensures
      ∙ ap home_list
      (c.as_slice.ensures.value
      ∙ Replays-all c.args.g.now c.as_slice-line.result.now c.loop-node.node-index c.loop-node.still c.loop-node.left.items c.loop-node-test.false c.loop-node.invariant);
}

use Rattle.std.proofs.Common.{ap, ◌∙◌, subst, sym}
use Rattle.chess_laws.specs.Step.{Step}
use Rattle.game_tree.specs.Game.{GameTree}
use Rattle.game_tree.specs.Tree.{Played, line_of}
use Rattle.sig_index.proofs.EndLemmas.{Ends-all, Ends-begin, Ends-more}
use Rattle.sig_index.proofs.signature.end_of.Goals as goal

pub loop-node-init : goal.loop-node-init
loop-node-init c =
    Ends-begin c.args.g.now c.as_slice-line.result.now c.g.inside.start c.requires
    (sym (ap (λ (g : GameTree). g.line) c.g.view_is) ∙ ap line_of (sym c.as_slice-line.ensures.value))
    (ap (λ (g : GameTree). g.start) c.g.view_is)

pub loop-node-preserved : goal.loop-node-preserved
loop-node-preserved c =
    Ends-more c.args.g.now c.as_slice-line.result.now c.loop-node.node-index c.node-item.result c.loop-node.position c.play.new.self c.loop-node-test.true c.node-item.is
    c.loop-node.invariant (subst (λ (n : Played). Step c.loop-node.position n.mv c.play.new.self) c.node.view_is c.play.ensures.step)

pub returns : goal.returns
returns c = record { last = Ends-all c.args.g.now c.as_slice-line.result.now c.loop-node.node-index c.loop-node.position c.loop-node-test.false c.loop-node.invariant }

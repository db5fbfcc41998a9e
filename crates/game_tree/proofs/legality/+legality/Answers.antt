use Rattle.std.proofs.Common.{List, subst}
use Rattle.chess_laws.specs.Step.{Step}
use Rattle.game_tree.specs.Tree.{Played, Variation, branches_of}
use Rattle.game_tree.specs.Legal.{IsComment, AreLegalBranches}
use Rattle.game_tree.proofs.LegalLemmas.{IsLegalLine-more}
use Rattle.game_tree.proofs.legality.+legality.Goals as goal

pub is_legal_line-loop-node-preserved : goal.is_legal_line-loop-node-preserved
is_legal_line-loop-node-preserved t c =
    IsLegalLine-more c.loop-node.position c.play.new.self c.args.line.now c.loop-node.node-index c.node-item.result _ c.loop-node-test.true c.node-item.is
    (subst (λ (n : Played). Step c.loop-node.position n.mv c.play.new.self) c.node.view_is c.play.ensures.step)
    (subst (λ (n : Played). IsComment n.comment) c.node.view_is (c.is_comment.ensures.0 c.if-not-is_comment.false))
    (subst (λ (n : Played). AreLegalBranches c.loop-node.position n.variations) c.node.view_is
    (subst (λ (vs : List Variation). AreLegalBranches c.loop-node.position (branches_of vs)) c.as_slice.ensures.value
    (c.are_legal_branches.ensures.0 c.if-not-are_legal_branches.false)))
    c.loop-node.invariant

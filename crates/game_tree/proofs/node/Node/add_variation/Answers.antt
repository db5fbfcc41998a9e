use Rattle.std.proofs.Common.{ap, subst}
use Rattle.game_tree.specs.Kept.{IsVariation}
use Rattle.game_tree.specs.Building.{more_variations}
use Rattle.game_tree.proofs.BuildingLemmas.{branches_of-push}
use Rattle.game_tree.proofs.KeptLemmas.{AreBranches-push}
use Rattle.game_tree.proofs.node.Node.add_variation.Goals as goal

pub invariant_of-self-2 : goal.invariant_of-self-2
invariant_of-self-2 c =
    rw c.in_ok-push.ensures.items (record {
      nags = c.self.invariant.nags;
      comment = c.self.invariant.comment;
      variations = AreBranches-push c.self.inside.variations.items c.args.branch c.self.invariant.variations (subst IsVariation c.branch.view_is c.branch.invariant);
    })

pub returns-clause-added : goal.returns-clause-added
returns-clause-added c =
    rw (c.in_ok-push.ensures.items, branches_of-push c.self.inside.variations.items c.args.branch) (ap (more_variations c.args.branch) c.self.view_is)

pub returns-clause-kept : goal.returns-clause-kept
returns-clause-kept c = invariant_of-self-2 c

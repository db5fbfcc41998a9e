use Rattle.std.proofs.Common.{◌-◌, ◌∙◌, ap}
use Rattle.std.specs.Vec.{vec_len}
use Rattle.game_tree.specs.Building.{with_comment}
use Rattle.game_tree.proofs.KeptLemmas.{IsLine-set}
use Rattle.game_tree.proofs.OpenLaws.{IsLast, commented, on_ok}
use Rattle.game_tree.proofs.open_line.OpenLine.comment.Goals as goal

pub invariant_of-self : goal.invariant_of-self
invariant_of-self c =
    record {
      lead = c.self.invariant.lead;
      line = IsLine-set c.self.inside.line.items (vec_len c.self.inside.line - 1) c.add_comment.new.self c.self.invariant.line c.add_comment.ensures.kept;
    }

pub returns-in-Some : goal.returns-in-Some
returns-in-Some c =
    let is : IsLast c.self.inside.line.items (vec_len c.self.inside.line) c.in-Some.node.now = (c.self.inside.line.ok.0, (c.in-Some.ensures.item.3.0, c.in-Some.ensures.value)) in
    record {
      commented =
          on_ok c.add_comment.result
          (λ by.
          commented c.self.inside.lead c.self.inside.line.items (vec_len c.self.inside.line) c.in-Some.node.now c.add_comment.new.self c.args.text c.if-is_empty.ensures.empty is by
          ∙ ap (with_comment c.args.text) c.self.view_is)
          c.add_comment.ensures.added;
    }

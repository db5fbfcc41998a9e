use Rattle.std.proofs.Common.{◌∙◌, ◌++◌, ℕ, List, ap, sym}
use Rattle.cross_table.proofs.Steps.{cell_dot, cell_signs, on-ok}
use Rattle.cross_table.proofs.writing.push_or_dot.Goals as goal

pub returns-then-has_met : goal.returns-then-has_met
returns-then-has_met c =
    on-ok c.push_signs.result
    (λ goes. goes ∙ ap (λ (l : List ℕ). c.args.into.now.items ++ l) (cell_signs c.args.id c.args.met.now (sym c.has_met.ensures ∙ c.if-has_met.true)))
    c.push_signs.ensures

pub returns : goal.returns
returns c =
    c.in_ok-push.ensures.items
    ∙ ap (λ (l : List ℕ). c.args.into.now.items ++ l) (cell_dot c.args.id c.args.met.now (sym c.has_met.ensures ∙ c.if-has_met.false))

use Rattle.std.proofs.Common.{[], ◌∙◌}
use Rattle.tree_rows.proofs.Adding.{no-rows}
use Rattle.tree_rows.proofs.rows.Rows.new.Goals as goal

pub returns : goal.returns
returns c = record { none = c.new.ensures.items ∙ no-rows }

pub invariant_of-result : goal.invariant_of-result
invariant_of-result c = record { hits = []; summed = c.new.ensures.items ∙ no-rows }

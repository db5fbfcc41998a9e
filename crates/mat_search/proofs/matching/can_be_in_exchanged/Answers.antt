use Rattle.std.proofs.Common.{ap, ◌∙◌}
use Rattle.sig_index.specs.declared.mat_query.MatRange.{MatRange}
use Rattle.mat_search.specs.Passing.{can_be_in}
use Rattle.mat_search.proofs.matching.can_be_in_exchanged.Goals as goal

pub returns : goal.returns
returns c = c.can_be_in.ensures ∙ ap (λ (r : MatRange). can_be_in c.args.s.now r) c.exchanged.ensures

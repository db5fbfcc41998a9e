use Rattle.std.proofs.Common.{ap, ◌∙◌}
use Rattle.pos_search.specs.Telling.{out_by}
use Rattle.pos_search.proofs.OutLemmas.{out_told}
use Rattle.pos_search.proofs.telling.is_out.Goals as goal

pub returns : goal.returns
returns c = λ rows is.
    c.is_out_by.ensures ∙ ap (out_by c.args.q.now c.args.sig.now) c.last_told.ensures
    ∙ out_told c.args.q.now rows c.args.told.now c.args.i c.args.sig.now is

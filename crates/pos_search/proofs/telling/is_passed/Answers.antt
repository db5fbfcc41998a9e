use Rattle.std.proofs.Common.{rules, None, ap, ◌∙◌}
use Rattle.pos_search.specs.Telling.{Told}
use Rattle.pos_search.proofs.TellingLemmas.{first_hit}
use Rattle.pos_search.proofs.telling.is_passed.Goals as goal

pub returns-then-skips-clause-untold : goal.returns-then-skips-clause-untold
returns-then-skips-clause-untold c = λ closed rows is.
    first_hit c.args.q.now rows c.told.inside.hits c.args.i None (ap (λ (t : Told). t.hits) (c.told.view_is ∙ is)) (c.skips.ensures.none (search rules))

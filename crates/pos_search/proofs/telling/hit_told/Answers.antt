use Rattle.std.proofs.Common.{ap, sym, subst, ◌∙◌}
use Rattle.pos_search.specs.Telling.{AreLegalHits, Told}
use Rattle.pos_search.proofs.TellingLemmas.{first_hit, legal_first}
use Rattle.pos_search.proofs.telling.hit_told.Goals as goal

pub returns-clause-told : goal.returns-clause-told
returns-clause-told c = λ query rows is.
    first_hit query rows c.told.inside.hits c.args.i c.first.result (ap (λ (t : Told). t.hits) (c.told.view_is ∙ is)) c.first.ensures.first

pub returns-clause-legal : goal.returns-clause-legal
returns-clause-legal c = λ query legal.
    legal_first query c.first.result (c.first.ensures.legal _ (subst (AreLegalHits query) (sym c.told.view_is) legal))

use Rattle.std.proofs.Common.{ap, sym, ◌∙◌}
use Rattle.base_core.proofs.KeptLaws.{event_date-found, event_date-near, found_or}
use Rattle.base_core.proofs.reading.settled_event_date.Goals as goal

pub returns-then-is_near-clause-date : goal.returns-then-is_near-clause-date
returns-then-is_near-clause-date c = λ tags game r names. event_date-near names c.args.e.now tags (sym c.is_near.ensures.near ∙ c.if-is_near.true)

pub returns-in-Some-clause-date : goal.returns-in-Some-clause-date
returns-in-Some-clause-date c = λ tags game r names.
    event_date-found names c.args.e.now tags c.event_date_in.result _ (sym c.is_near.ensures.near ∙ c.if-is_near.false) c.requires.fields.event_rule
    (c.event_date_in.ensures.first tags game r) (ap (found_or c.args.e.now.event_date) c.in-Some.is)

pub returns-in-None-clause-date : goal.returns-in-None-clause-date
returns-in-None-clause-date c = λ tags game r names.
    event_date-found names c.args.e.now tags c.event_date_in.result _ (sym c.is_near.ensures.near ∙ c.if-is_near.false) c.requires.fields.event_rule
    (c.event_date_in.ensures.first tags game r) (ap (found_or c.args.e.now.event_date) c.in-None.is)

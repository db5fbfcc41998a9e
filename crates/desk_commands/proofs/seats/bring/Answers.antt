use Rattle.std.proofs.Common.{sym, ◌∙◌}
use Rattle.filter_seat.specs.Following.{told_by}
use Rattle.desk_commands.proofs.BringLaws.{brought_after, fit_after, leads_so}
use Rattle.desk_commands.proofs.seats.bring.Goals as goal

pub returns-clause-fits_before : goal.returns-clause-fits_before
returns-clause-fits_before c =
    let so = leads_so c.leads.result _ c.if-not-leads.false c.leads.ensures.leads in
    fit_after c.follow_others.result (told_by c.moved-moved.result) c.args.before.now.games _ _ _ so.0 c.leads.ensures.rises (sym c.games.ensures.games ∙ so.1) c.requires.fits_before c.follow_others.ensures.before

pub returns-clause-fits_behind : goal.returns-clause-fits_behind
returns-clause-fits_behind c =
    let so = leads_so c.leads.result _ c.if-not-leads.false c.leads.ensures.leads in
    fit_after c.follow_others.result (told_by c.moved-moved.result) c.args.before.now.games _ _ _ so.0 c.leads.ensures.rises (sym c.games.ensures.games ∙ so.1) c.requires.fits_behind c.follow_others.ensures.behind

pub returns-clause-brought_before : goal.returns-clause-brought_before
returns-clause-brought_before c = λ old games later base after noted was is.
    brought_after c.follow_others.result (told_by c.moved-moved.result) c.args.order.now base after _ _ (c.moved-moved.ensures.moved old games later base after noted was is) c.follow_others.ensures.before

pub returns-clause-brought_behind : goal.returns-clause-brought_behind
returns-clause-brought_behind c = λ old games later base after noted was is.
    brought_after c.follow_others.result (told_by c.moved-moved.result) c.args.order.now base after _ _ (c.moved-moved.ensures.moved old games later base after noted was is) c.follow_others.ensures.behind

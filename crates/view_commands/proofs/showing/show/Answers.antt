use Rattle.std.proofs.Common.{List, Option, length, ap, sym, subst, ◌∙◌}
use Rattle.shell_state.proofs.Quietly.{filter_is, held_by}
use Rattle.shell_state.proofs.Served.{on_ok}
use Rattle.shell_state.specs.Slots.{HitTable}
use Rattle.shell_state.specs.Stands.{Fits, Holding, Stands, TablesFit, Tables}
use Rattle.view_commands.specs.Views.{is_own}
use Rattle.view_commands.proofs.HitLaws.{tables_stay, watches_fit, watches_of}
use Rattle.view_commands.proofs.SlotLaws.{ok_both, ok_so, views_left, views_others, views_right, views_told}
use Rattle.view_commands.proofs.showing.show.Goals as goal

pub show-requires : goal.show-requires
show-requires g c =
    let machine = c.machine.inside in
    let fits = subst Fits (sym c.machine.view_is) c.requires.fits in
    let tables = subst TablesFit (sym c.machine.view_is) c.requires.tables in
    record { room = c.requires.room; same_games = watches_fit machine.slots.watches machine.seat.filter (length machine.base.entries) fits.filter tables.hits }

pub returns-clause-same : goal.returns-clause-same
returns-clause-same g c =
    let machine = c.machine.inside in
    ok_so _ _ c.show.result (λ changed.
    ap (λ (hits : List (Option HitTable)). held_by machine.base (record { index = machine.index; hits = hits }) machine.seat.filter machine.seat.saved.items)
    (tables_stay (is_own c.args.window) machine.seat.filter machine.slots.watches c.show.new.self.watches c.show.ensures.number changed) ∙ c.machine.view_is)
    c.show.ensures.watched

pub returns-clause-right : goal.returns-clause-right
returns-clause-right g c = λ seen earlier s st one right.
    let machine = c.machine.inside in
    let st' = subst (λ (h : Holding). Stands h seen s) (sym c.machine.view_is) st in
    let fits = subst Fits (sym c.machine.view_is) c.requires.fits in
    let tables = subst TablesFit (sym c.machine.view_is) c.requires.tables in
    ok_both _ _ _ c.show.result (λ changed shown.
    views_right _ _ c.args.window machine.seat.filter machine.slots c.args.views.now c.show.new.views c.machine.invariant.1.0 c.show.ensures.told s c.show.new.self earlier
    (c.show.ensures.slots.0 ∙ c.machine.invariant.1.0) (watches_of s machine.slots.watches (ap (λ (t : Tables). t.hits) st'.tables)) (filter_is st')
    (watches_fit machine.slots.watches machine.seat.filter (length machine.base.entries) fits.filter tables.hits) one right changed shown)
    c.show.ensures.watched c.show.ensures.shown

pub returns-clause-told : goal.returns-clause-told
returns-clause-told g c = λ seen earlier s st one right.
    let machine = c.machine.inside in
    let st' = subst (λ (h : Holding). Stands h seen s) (sym c.machine.view_is) st in
    let fits = subst Fits (sym c.machine.view_is) c.requires.fits in
    let tables = subst TablesFit (sym c.machine.view_is) c.requires.tables in
    on_ok _ c.show.result
    (views_told _ _ c.args.window machine.seat.filter machine.slots c.args.views.now c.show.new.views c.machine.invariant.1.0 c.show.ensures.told s earlier
    (watches_of s machine.slots.watches (ap (λ (t : Tables). t.hits) st'.tables)) (filter_is st')
    (watches_fit machine.slots.watches machine.seat.filter (length machine.base.entries) fits.filter tables.hits) one right)

pub returns-clause-left : goal.returns-clause-left
returns-clause-left g c = λ seen s st k not.
    let machine = c.machine.inside in
    let st' = subst (λ (h : Holding). Stands h seen s) (sym c.machine.view_is) st in
    views_left _ _ c.args.window machine.seat.filter machine.slots c.args.views.now c.show.new.views c.machine.invariant.1.0 c.show.ensures.told s
    (watches_of s machine.slots.watches (ap (λ (t : Tables). t.hits) st'.tables)) k not

pub returns-clause-others : goal.returns-clause-others
returns-clause-others g c = λ k other.
    let machine = c.machine.inside in
    views_others _ _ c.args.window machine.seat.filter machine.slots c.args.views.now c.show.new.views c.machine.invariant.1.0 c.show.ensures.told k other

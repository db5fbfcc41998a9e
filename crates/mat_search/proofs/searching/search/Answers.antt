use Rattle.std.proofs.Common.{◌≤◌, ◌+◌, Bool, List, OnOk, refl, subst}
use Rattle.base_files.specs.Counters.{raised}
use Rattle.game_search.specs.Questions.{cost_of}
use Rattle.sig_index.specs.Costs.{price_by}
use Rattle.mat_search.proofs.PriceLemmas.{reads_are, unread_of}
use Rattle.mat_search.proofs.ReadLemmas.{unread}
use Rattle.mat_search.proofs.searching.search.Goals as goal

pub returns-clause-found : goal.returns-clause-found
returns-clause-found g c = λ told list same holds.
    c.search.ensures.found (unread_of c.args.q.now) told list (λ i sig. refl, λ i. refl) same holds
    (λ i sig game kept there not. unread told (g.G.Games.extents c.args.games.now) (g.G.Games.sigs c.args.games.now) list i sig game c.args.q.now holds kept there c.requires.streak not)

pub returns-clause-ended : goal.returns-clause-ended
returns-clause-ended g c = λ told list same holds.
    c.search.ensures.ended (unread_of c.args.q.now) told list (λ i sig. refl, λ i. refl) same holds
    (λ i sig game kept there not. unread told (g.G.Games.extents c.args.games.now) (g.G.Games.sigs c.args.games.now) list i sig game c.args.q.now holds kept there c.requires.streak not)

pub returns-clause-skipped : goal.returns-clause-skipped
returns-clause-skipped g c = c.search.ensures.skipped (unread_of c.args.q.now) (λ i sig. refl, λ i. refl)

pub returns-clause-asks : goal.returns-clause-asks
returns-clause-asks g c =
    subst
    (λ (reads : List Bool). g.F.Files.asked c.search.new.files ≤ g.F.Files.asked c.args.files.now + price_by (cost_of c.args.op) reads (g.G.Games.extents c.args.games.now) c.args.filter.now)
    (reads_are c.args.q.now 0 (g.G.Games.sigs c.args.games.now))
    (c.search.ensures.asks (unread_of c.args.q.now) (λ i sig. refl, λ i. refl))

pub returns-clause-asked : goal.returns-clause-asked
returns-clause-asked g c =
    subst
    (λ (reads : List Bool). OnOk c.search.result (raised (g.F.Files.asked c.args.files.now) (price_by (cost_of c.args.op) reads (g.G.Games.extents c.args.games.now) c.args.filter.now) ≤ g.F.Files.asked c.search.new.files))
    (reads_are c.args.q.now 0 (g.G.Games.sigs c.args.games.now))
    (c.search.ensures.asked (unread_of c.args.q.now) (λ i sig. refl, λ i. refl))

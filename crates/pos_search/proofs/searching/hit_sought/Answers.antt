use Rattle.pos_index.specs.Hits.{rows_told}
use Rattle.std.proofs.Common.{◌≡◌, rules, sym, subst, ◌∙◌, None, Some}
use Rattle.sig_index.proofs.ReadLemmas.{some_at}
use Rattle.pos_search.specs.Matching.{IsLegalFrom}
use Rattle.pos_search.proofs.OutLemmas.{unread_out}
use Rattle.pos_search.proofs.TellingLemmas.{tells_hit}
use Rattle.pos_search.proofs.searching.hit_sought.Goals as goal

pub returns-in-Some-clause-found : goal.returns-in-Some-clause-found
returns-in-Some-clause-found g c = λ contents list game index same holds there squares told is.
    let extents = g.G.Games.extents c.args.games.now in
    let sigs = g.G.Games.sigs c.args.games.now in
    let sig = some_at sigs c.args.i c.requires.game in
    let found : c.hit_told.result ≡ Some c.in-Some.found = search rules in
    sym (tells_hit contents extents sigs list c.args.i sig.0 game index c.args.q.now is holds sig.1 there squares c.in-Some.found
    (sym (c.hit_told.ensures.told c.args.q.now (rows_told index) told) ∙ found))

pub returns-then-not-is_open-clause-found : goal.returns-then-not-is_open-clause-found
returns-then-not-is_open-clause-found g c = λ contents list game index same holds there squares told is.
    let none : c.hit_told.result ≡ None = search rules in
    unread_out contents (g.G.Games.extents c.args.games.now) (g.G.Games.sigs c.args.games.now) list c.args.i c.brief.result game index c.args.q.now is holds c.brief.ensures.kept there
    squares (sym (c.hit_told.ensures.told c.args.q.now (rows_told index) told) ∙ none)
    (sym (c.is_open.ensures (rows_told index) (c.hit_told.ensures.same ∙ told)) ∙ c.if-not-is_open.true)

pub returns-in-Some-clause-legal : goal.returns-in-Some-clause-legal
returns-in-Some-clause-legal g c = λ legal.
    let found : c.hit_told.result ≡ Some c.in-Some.found = search rules in
    subst (IsLegalFrom c.args.q.now) found (c.hit_told.ensures.legal c.args.q.now legal)

pub returns-clause-found : goal.returns-clause-found
returns-clause-found g c = λ contents list game index same holds there squares told is. c.hit_read.ensures.found contents list game same holds there

use Rattle.std.proofs.Common.{◌≡◌, false, None, get_or, rules, sym}
use Rattle.std.proofs.lemmas.Bool.{not-true}
use Rattle.std.proofs.lemmas.List.{set-get_or}
use Rattle.game_filter.specs.Search.{looks_at}
use Rattle.game_filter.proofs.Searches.{not_looked_at}
use Rattle.game_search.proofs.searching.search_game.Goals as goal

pub returns-then-not-looks_at-clause-joined : goal.returns-then-not-looks_at-clause-joined
returns-then-not-looks_at-clause-joined g c = λ unread told list game tells same holds right there.
    let not : c.looks_at.result ≡ false = search (rules, not-true c.looks_at.result) in
    not_looked_at c.args.op c.args.filter.now c.args.i c.get-old.result (g.Q.Question.first c.args.q.now game) c.get-old.ensures.entry
    (λ first. c.looks_at.ensures.kept first not)

pub returns-then-not-looks_at-clause-entry : goal.returns-then-not-looks_at-clause-entry
returns-then-not-looks_at-clause-entry g c = (get_or c.args.filter.now c.args.i None, sym (set-get_or c.args.filter.now c.args.i None))

pub returns-then-not-looks_at-clause-skipped : goal.returns-then-not-looks_at-clause-skipped
returns-then-not-looks_at-clause-skipped g c = λ unread sig tells kept out.
    let not : c.looks_at.result ≡ false = search (rules, not-true c.looks_at.result) in
    not_looked_at c.args.op c.args.filter.now c.args.i c.get-old.result (unread.ply c.args.i) c.get-old.ensures.entry (λ first. c.looks_at.ensures.kept first not)

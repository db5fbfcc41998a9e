use Rattle.std.proofs.Common.{◌≡◌, ◌≤◌, ◌+◌, Bool, List, IfErr, OnOk, take, subst}
use Rattle.std.specs.Prelude.{option_copied}
use Rattle.base_files.specs.Counters.{raised}
use Rattle.game_filter.specs.Search.{searched}
use Rattle.game_search.specs.Questions.{cost_of}
use Rattle.pos_index.specs.Hits.{rows_told}
use Rattle.sig_index.specs.Costs.{EndsAt, price_by}
use Rattle.sig_index.specs.declared.pos_query.PosQuery.{PosQuery}
use Rattle.pos_search.specs.Matching.{firsts_of}
use Rattle.pos_search.proofs.AskingLemmas.{reads_are, right_so, tells_so, unread_of}
use Rattle.pos_search.proofs.searching.search.Goals as goal

pub returns-then-q-clause-found : goal.returns-then-q-clause-found
returns-then-q-clause-found g c = λ told list same holds is.
    let index = option_copied c.args.index in
    subst (λ (q : PosQuery). OnOk c.search.result (c.search.new.filter ≡ searched c.args.op (firsts_of q list) c.args.filter.now)) c.new-asked.ensures.query
    (c.search.ensures.found (unread_of c.args.q.now (rows_told index)) told list (tells_so c.new-asked.result c.args.q.now (rows_told index) c.new-asked.ensures.query c.new-asked.ensures.told) same holds
    (right_so c.new-asked.result c.args.q.now index told (g.G.Games.extents c.args.games.now) (g.G.Games.sigs c.args.games.now) list c.new-asked.ensures.query holds is c.new-asked.ensures.squares))

pub returns-then-q-clause-ended : goal.returns-then-q-clause-ended
returns-then-q-clause-ended g c = λ told list same holds is.
    let index = option_copied c.args.index in
    subst
    (λ (q : PosQuery). IfErr c.search.result (λ e. EndsAt e (λ n. searched c.args.op (take n (firsts_of q list)) c.args.filter.now) c.args.filter.now c.search.new.filter)) c.new-asked.ensures.query
    (c.search.ensures.ended (unread_of c.args.q.now (rows_told index)) told list (tells_so c.new-asked.result c.args.q.now (rows_told index) c.new-asked.ensures.query c.new-asked.ensures.told) same holds
    (right_so c.new-asked.result c.args.q.now index told (g.G.Games.extents c.args.games.now) (g.G.Games.sigs c.args.games.now) list c.new-asked.ensures.query holds is c.new-asked.ensures.squares))

pub returns-then-q-clause-skipped : goal.returns-then-q-clause-skipped
returns-then-q-clause-skipped g c =
    let rows = rows_told (option_copied c.args.index) in
    c.search.ensures.skipped (unread_of c.args.q.now rows) (tells_so c.new-asked.result c.args.q.now rows c.new-asked.ensures.query c.new-asked.ensures.told)

pub returns-then-q-clause-asks : goal.returns-then-q-clause-asks
returns-then-q-clause-asks g c =
    let rows = rows_told (option_copied c.args.index) in
    subst
    (λ (reads : List Bool). g.F.Files.asked c.search.new.files ≤ g.F.Files.asked c.args.files.now + price_by (cost_of c.args.op) reads (g.G.Games.extents c.args.games.now) c.args.filter.now)
    (reads_are c.args.q.now rows (g.G.Games.sigs c.args.games.now))
    (c.search.ensures.asks (unread_of c.args.q.now rows) (tells_so c.new-asked.result c.args.q.now rows c.new-asked.ensures.query c.new-asked.ensures.told))

pub returns-then-q-clause-asked : goal.returns-then-q-clause-asked
returns-then-q-clause-asked g c =
    let rows = rows_told (option_copied c.args.index) in
    subst
    (λ (reads : List Bool). OnOk c.search.result
    (raised (g.F.Files.asked c.args.files.now) (price_by (cost_of c.args.op) reads (g.G.Games.extents c.args.games.now) c.args.filter.now) ≤ g.F.Files.asked c.search.new.files))
    (reads_are c.args.q.now rows (g.G.Games.sigs c.args.games.now))
    (c.search.ensures.asked (unread_of c.args.q.now rows) (tells_so c.new-asked.result c.args.q.now rows c.new-asked.ensures.query c.new-asked.ensures.told))

pub returns-clause-found : goal.returns-clause-found
returns-clause-found g c = λ told list same holds is.
    let index = option_copied c.args.index in
    subst (λ (q : PosQuery). OnOk c.search-2.result (c.search-2.new.filter ≡ searched c.args.op (firsts_of q list) c.args.filter.now)) c.new-asked-2.ensures.query
    (c.search-2.ensures.found (unread_of c.args.q.now (rows_told index)) told list (tells_so c.new-asked-2.result c.args.q.now (rows_told index) c.new-asked-2.ensures.query c.new-asked-2.ensures.told) same holds
    (right_so c.new-asked-2.result c.args.q.now index told (g.G.Games.extents c.args.games.now) (g.G.Games.sigs c.args.games.now) list c.new-asked-2.ensures.query holds is c.new-asked-2.ensures.squares))

pub returns-clause-ended : goal.returns-clause-ended
returns-clause-ended g c = λ told list same holds is.
    let index = option_copied c.args.index in
    subst
    (λ (q : PosQuery). IfErr c.search-2.result (λ e. EndsAt e (λ n. searched c.args.op (take n (firsts_of q list)) c.args.filter.now) c.args.filter.now c.search-2.new.filter)) c.new-asked-2.ensures.query
    (c.search-2.ensures.ended (unread_of c.args.q.now (rows_told index)) told list (tells_so c.new-asked-2.result c.args.q.now (rows_told index) c.new-asked-2.ensures.query c.new-asked-2.ensures.told) same holds
    (right_so c.new-asked-2.result c.args.q.now index told (g.G.Games.extents c.args.games.now) (g.G.Games.sigs c.args.games.now) list c.new-asked-2.ensures.query holds is c.new-asked-2.ensures.squares))

pub returns-clause-skipped : goal.returns-clause-skipped
returns-clause-skipped g c =
    let rows = rows_told (option_copied c.args.index) in
    c.search-2.ensures.skipped (unread_of c.args.q.now rows) (tells_so c.new-asked-2.result c.args.q.now rows c.new-asked-2.ensures.query c.new-asked-2.ensures.told)

pub returns-clause-asks : goal.returns-clause-asks
returns-clause-asks g c =
    let rows = rows_told (option_copied c.args.index) in
    subst
    (λ (reads : List Bool). g.F.Files.asked c.search-2.new.files ≤ g.F.Files.asked c.args.files.now + price_by (cost_of c.args.op) reads (g.G.Games.extents c.args.games.now) c.args.filter.now)
    (reads_are c.args.q.now rows (g.G.Games.sigs c.args.games.now))
    (c.search-2.ensures.asks (unread_of c.args.q.now rows) (tells_so c.new-asked-2.result c.args.q.now rows c.new-asked-2.ensures.query c.new-asked-2.ensures.told))

pub returns-clause-asked : goal.returns-clause-asked
returns-clause-asked g c =
    let rows = rows_told (option_copied c.args.index) in
    subst
    (λ (reads : List Bool). OnOk c.search-2.result
    (raised (g.F.Files.asked c.args.files.now) (price_by (cost_of c.args.op) reads (g.G.Games.extents c.args.games.now) c.args.filter.now) ≤ g.F.Files.asked c.search-2.new.files))
    (reads_are c.args.q.now rows (g.G.Games.sigs c.args.games.now))
    (c.search-2.ensures.asked (unread_of c.args.q.now rows) (tells_so c.new-asked-2.result c.args.q.now rows c.new-asked-2.ensures.query c.new-asked-2.ensures.told))

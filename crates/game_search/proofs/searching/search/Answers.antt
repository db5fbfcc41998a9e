use Rattle.std.proofs.Common.{◌≡◌, ◌<◌, ◌≤◌, ℕ, ◌+◌, List, None, Option, get_or, length, set, take, sym, ap, ◌∙◌, arith, subst}
use Rattle.std.specs.Prelude.{slice_get}
use Rattle.std.proofs.lemmas.List.{length-set}
use Rattle.std.proofs.lemmas.Option.{slice_get_within}
use Rattle.base_files.specs.Counters.{raised}
use Rattle.base_files.specs.Seen.{Seen}
use Rattle.sig_index.specs.Costs.{price_by}
use Rattle.sig_index.specs.Games.{extent_in}
use Rattle.sig_index.proofs.ReadLemmas.{some_at}
use Rattle.sig_index.proofs.CostLemmas.{asked_all, asked_more, kept_more, least_more, price_all, price_front, price_more, untouched_more}
use Rattle.game_filter.specs.Search.{entry_after, looks_at}
use Rattle.game_search.specs.Questions.{cost_of, reads_from}
use Rattle.game_search.proofs.SearchLemmas.{all_searched, entry_more, game_more, is_read_at}
use Rattle.game_search.proofs.searching.search.Goals as goal

pub returns-in-Err-clause-asks : goal.returns-in-Err-clause-asks
returns-in-Err-clause-asks g c = λ unread tells.
    let op = c.args.op in
    let old = c.args.filter.now in
    let i = c.loop-i.i in
    let sigs = g.G.Games.sigs c.args.games.now in
    let extents = g.G.Games.extents c.args.games.now in
    let reads = reads_from unread.reads 0 sigs in
    let inside : i < length extents = omega (arith, c.len-i-end.ensures.one_extent_each, c.loop-i-test.true) in
    let here : i < length old = omega (arith, c.requires.games, c.len-i-end.ensures.one_sig_each, c.loop-i-test.true) in
    let sig = some_at sigs i (omega (arith, c.len-i-end.ensures.one_sig_each, c.loop-i-test.true)) in
    let cost : Option ℕ → ℕ = cost_of op (unread.reads i sig.0) (extent_in extents i) in
    asked_all (g.F.Files.asked c.args.files.now) (g.F.Files.asked c.search_game.new.files) (price_by (cost_of op) (take (i + 1) reads) extents old) (price_by (cost_of op) reads extents old)
    (asked_more (g.F.Files.asked c.args.files.now) (g.F.Files.asked c.loop-i.files) (g.F.Files.asked c.search_game.new.files) (price_by (cost_of op) (take i reads) extents old)
    (cost (get_or c.loop-i.filter i None)) (cost (get_or old i None)) (price_by (cost_of op) (take (i + 1) reads) extents old)
    (c.loop-i.invariant.asks unread tells) (c.search_game.ensures.asks unread sig.0 (rw c.loop-i.invariant.same tells) sig.1) (ap cost (c.loop-i.invariant.rest i (omega arith)))
    (price_more (cost_of op) reads extents old i (unread.reads i sig.0) (is_read_at unread.reads i sigs sig.0 sig.1) inside here))
    (price_front (cost_of op) reads extents old (i + 1))

pub loop-i-preserved : goal.loop-i-preserved
loop-i-preserved g c =
    let op = c.args.op in
    let old = c.args.filter.now in
    let i = c.loop-i.i in
    let sigs = g.G.Games.sigs c.args.games.now in
    let extents = g.G.Games.extents c.args.games.now in
    let inside : i < length extents = omega (arith, c.len-i-end.ensures.one_extent_each, c.loop-i-test.true) in
    let here : i < length old = omega (arith, c.requires.games, c.len-i-end.ensures.one_sig_each, c.loop-i-test.true) in
    let sig = some_at sigs i (omega (arith, c.len-i-end.ensures.one_sig_each, c.loop-i-test.true)) in
    let entry = c.in-Ok.ensures.entry in
    record {
      done = λ unread told list tells same holds right.
          let told_now = ap (λ (s : Seen). s.games) c.loop-i.invariant.unchanged ∙ same in
          let in_list : i < length list = omega (arith, holds.count, c.len-i-end.ensures.one_sig_each, c.loop-i-test.true) in
          let game = some_at list i in_list in
          game_more op (g.Q.Question.first c.args.q.now) list old c.loop-i.filter c.search_game.new.filter i game.0 (c.loop-i.invariant.done unread told list tells same holds right) in_list here game.1
          (rw (sym c.loop-i.invariant.same) (c.in-Ok.ensures.joined unread told list game.0 (rw c.loop-i.invariant.same tells) told_now holds (rw c.loop-i.invariant.same right) game.1));
      rest = untouched_more old c.loop-i.filter c.search_game.new.filter i entry.0 entry.1 c.loop-i.invariant.rest;
      kept = kept_more (looks_at op) old c.loop-i.filter c.search_game.new.filter i entry.0 entry.1 c.search_game.ensures.passed c.loop-i.invariant.rest c.loop-i.invariant.kept;
      skipped = λ unread k known tells before there not.
          entry_more op old c.loop-i.filter c.search_game.new.filter i k entry.0 (unread.ply k) before (omega (arith, here, c.loop-i.invariant.entries)) c.loop-i.invariant.rest entry.1
          (λ less. c.loop-i.invariant.skipped unread k known tells less there not)
          (λ is.
          subst (λ (n : ℕ). c.search_game.new.filter ≡ set c.loop-i.filter i (entry_after op (get_or c.loop-i.filter i None) (unread.ply n))) (sym is)
          (c.in-Ok.ensures.skipped unread known (rw c.loop-i.invariant.same tells) (ap (λ (n : ℕ). slice_get sigs n) (sym is) ∙ there)
          (ap (λ (n : ℕ). unread.reads n known) (sym is) ∙ not)));
      same = c.search_game.ensures.same ∙ c.loop-i.invariant.same;
      entries = ap (λ (f : List (Option ℕ)). length f) entry.1 ∙ (length-set c.loop-i.filter i entry.0 ∙ c.loop-i.invariant.entries);
      unchanged = c.search_game.ensures.unchanged ∙ c.loop-i.invariant.unchanged;
      asks = λ unread tells.
          let reads = reads_from unread.reads 0 sigs in
          let cost : Option ℕ → ℕ = cost_of op (unread.reads i sig.0) (extent_in extents i) in
          asked_more (g.F.Files.asked c.args.files.now) (g.F.Files.asked c.loop-i.files) (g.F.Files.asked c.search_game.new.files) (price_by (cost_of op) (take i reads) extents old)
          (cost (get_or c.loop-i.filter i None)) (cost (get_or old i None)) (price_by (cost_of op) (take (i + 1) reads) extents old)
          (c.loop-i.invariant.asks unread tells) (c.search_game.ensures.asks unread sig.0 (rw c.loop-i.invariant.same tells) sig.1) (ap cost (c.loop-i.invariant.rest i (omega arith)))
          (price_more (cost_of op) reads extents old i (unread.reads i sig.0) (is_read_at unread.reads i sigs sig.0 sig.1) inside here);
      asked = λ unread tells.
          let reads = reads_from unread.reads 0 sigs in
          let cost : Option ℕ → ℕ = cost_of op (unread.reads i sig.0) (extent_in extents i) in
          least_more (g.F.Files.asked c.args.files.now) (g.F.Files.asked c.loop-i.files) (g.F.Files.asked c.search_game.new.files) (price_by (cost_of op) (take i reads) extents old)
          (cost (get_or c.loop-i.filter i None)) (cost (get_or old i None)) (price_by (cost_of op) (take (i + 1) reads) extents old)
          (c.loop-i.invariant.asked unread tells) (c.in-Ok.ensures.asked unread sig.0 (rw c.loop-i.invariant.same tells) sig.1) (ap cost (c.loop-i.invariant.rest i (omega arith)))
          (price_more (cost_of op) reads extents old i (unread.reads i sig.0) (is_read_at unread.reads i sigs sig.0 sig.1) inside here);
      counts = omega (arith, c.loop-i.invariant.counts, c.search_game.ensures.counts);
    }

pub returns-clause-found : goal.returns-clause-found
returns-clause-found g c = λ unread told list tells same holds right.
    all_searched c.args.op (g.Q.Question.first c.args.q.now) list c.args.filter.now c.loop-i.filter c.loop-i.i (c.loop-i.invariant.done unread told list tells same holds right)
    (omega (arith, holds.count, c.len-i-end.ensures.one_sig_each, c.loop-i-test.false))

pub returns-clause-skipped : goal.returns-clause-skipped
returns-clause-skipped g c = λ unread tells k known there not.
    c.loop-i.invariant.skipped unread k known tells
    (omega (arith, slice_get_within (g.G.Games.sigs c.args.games.now) k known there, c.len-i-end.ensures.one_sig_each, c.loop-i-test.false)) there not

pub returns-clause-asks : goal.returns-clause-asks
returns-clause-asks g c = λ unread tells.
    let old = c.args.filter.now in
    let sigs = g.G.Games.sigs c.args.games.now in
    let extents = g.G.Games.extents c.args.games.now in
    let reads = reads_from unread.reads 0 sigs in
    let cost = cost_of c.args.op in
    asked_all (g.F.Files.asked c.args.files.now) (g.F.Files.asked c.loop-i.files) (price_by cost (take c.loop-i.i reads) extents old) (price_by cost reads extents old)
    (c.loop-i.invariant.asks unread tells) (price_front cost reads extents old c.loop-i.i)

pub returns-clause-asked : goal.returns-clause-asked
returns-clause-asked g c = λ unread tells.
    let reads = reads_from unread.reads 0 (g.G.Games.sigs c.args.games.now) in
    let past : length c.args.filter.now ≤ c.loop-i.i = omega (arith, c.requires.games, c.len-i-end.ensures.one_sig_each, c.loop-i-test.false) in
    subst (λ (n : ℕ). raised (g.F.Files.asked c.args.files.now) n ≤ g.F.Files.asked c.loop-i.files)
    (price_all (cost_of c.args.op) reads (g.G.Games.extents c.args.games.now) c.args.filter.now c.loop-i.i past) (c.loop-i.invariant.asked unread tells)

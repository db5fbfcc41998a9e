-- One game more was searched, and at the end all were.
use Rattle.std.proofs.Common.{◌≡◌, ℕ, List, Option, length, refl, ap, sym, ◌∙◌, arith}
use Rattle.std.proofs.lemmas.List.{length-set, take_all}
use Rattle.game_filter.specs.Search.{searched}
use Rattle.game_filter.proofs.Searches.{search_more}
use Rattle.head_search.specs.Matching.{firsts_of}
use Rattle.head_search.proofs.SearchLemmas.{length-firsts}
use Rattle.head_search.proofs.searching.search.Goals as goal

pub loop-i-preserved : goal.loop-i-preserved
loop-i-preserved g c =
    let heads = g.G.Games.heads c.args.games.now in
    let sigs = g.G.Games.sigs c.args.games.now in
    let firsts = firsts_of c.args.q.now heads sigs in
    let count : length firsts ≡ length sigs = length-firsts c.args.q.now heads sigs (c.len-i-end.ensures.one_head_each ∙ sym c.len-i-end.ensures.one_sig_each) in
    record {
      done = search_more c.args.op firsts c.args.filter.now c.loop-i.filter c.search_game.new.filter c.loop-i.i _ c.loop-i.invariant.done
          (omega (arith, count, c.loop-i-test.true, c.len-i-end.ensures.one_sig_each))
          (omega (arith, c.requires.games, c.loop-i-test.true, c.len-i-end.ensures.one_sig_each))
          refl
          c.search_game.ensures.joined;
      games = ap (λ (plies : List (Option ℕ)). length plies) c.search_game.ensures.joined ∙ length-set _ _ _ ∙ c.loop-i.invariant.games;
    }

pub returns : goal.returns
returns g c =
    let heads = g.G.Games.heads c.args.games.now in
    let sigs = g.G.Games.sigs c.args.games.now in
    let firsts = firsts_of c.args.q.now heads sigs in
    let count : length firsts ≡ length sigs = length-firsts c.args.q.now heads sigs (c.len-i-end.ensures.one_head_each ∙ sym c.len-i-end.ensures.one_sig_each) in
    record {
      found = c.loop-i.invariant.done ∙ ap (λ (plies : List (Option ℕ)). searched c.args.op plies c.args.filter.now)
          (take_all c.loop-i.i firsts (omega (arith, count, c.loop-i-test.false, c.len-i-end.ensures.one_sig_each)));
    }

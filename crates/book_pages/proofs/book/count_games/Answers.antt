use Rattle.std.proofs.Common.{◌∙◌, ◌+◌, ap, sym, arith, length}
use Rattle.base_files.specs.Seen.{Seen}
use Rattle.sig_index.proofs.ReadLemmas.{some_at}
use Rattle.book_pages.proofs.GameLemmas.{counted_more, price_next, price_within}
use Rattle.book_pages.proofs.book.count_games.Goals as goal

pub returns-in-Err-clause-asks : goal.returns-in-Err-clause-asks
returns-in-Err-clause-asks g c =
    let plies = c.args.filter.now in
    let extents = g.G.Games.extents c.args.games.now in
    let next = price_next plies extents c.loop-i.i c.get.result c.get.ensures.entry in
    let within = price_within plies extents (c.loop-i.i + 1) (length plies) (omega (arith, c.loop-i-test.true, c.len-i-end.ensures.len)) in
    omega (arith, c.count_game.ensures.asks, c.loop-i.invariant.asks, next, within)

pub loop-i-preserved : goal.loop-i-preserved
loop-i-preserved g c =
    let i = c.loop-i.i in
    let plies = c.args.filter.now in
    let next = price_next plies (g.G.Games.extents c.args.games.now) i c.get.result c.get.ensures.entry in
    record {
      kept = c.in-Ok.ensures.kept;
      counted = λ told list same holds.
          let told_now = ap (λ (s : Seen). s.games) c.loop-i.invariant.unchanged ∙ same in
          let game = some_at list i (omega (arith, holds.count, c.requires.games, c.len-i-end.ensures.len, c.loop-i-test.true)) in
          counted_more c.args.boards.now.keys plies (g.G.Games.heads c.args.games.now) list i c.get.result game.0 c.loop-i.tallies c.count_game.new.tallies
          c.get.ensures.entry game.1 (c.in-Ok.ensures.kept.count ∙ sym c.loop-i.invariant.kept.count) (c.loop-i.invariant.counted told list same holds)
          (c.in-Ok.ensures.counted told list game.0 told_now holds game.1);
      unchanged = c.count_game.ensures.unchanged ∙ c.loop-i.invariant.unchanged;
      asks = omega (arith, c.count_game.ensures.asks, c.loop-i.invariant.asks, next);
      counts = omega (arith, c.loop-i.invariant.counts, c.count_game.ensures.counts);
    }

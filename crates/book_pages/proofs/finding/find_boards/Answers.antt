use Rattle.std.proofs.Common.{◌≡◌, ◌+◌, ℕ, List, ap, arith, length, refl, subst, ◌∙◌}
use Rattle.std.specs.Prelude.{slice_get}
use Rattle.base_files.specs.Seen.{Seen}
use Rattle.cell_core.specs.Packed.{Packed}
use Rattle.sig_index.proofs.ReadLemmas.{some_at}
use Rattle.book_pages.specs.Meeting.{HaveReached, well_met}
use Rattle.book_pages.proofs.CountLemmas.{counts_none, have_more, have_none}
use Rattle.book_pages.proofs.GameLemmas.{price_next, price_within}
use Rattle.book_pages.proofs.ReachLemmas.{boards_are, cut_short, head_stays, least_is}
use Rattle.book_pages.proofs.finding.find_boards.Goals as goal

pub returns-in-Err-clause-asks : goal.returns-in-Err-clause-asks
returns-in-Err-clause-asks g c =
    let plies = c.args.filter.now in
    let extents = g.G.Games.extents c.args.games.now in
    let next = price_next plies extents c.loop-i.i c.get.result c.get.ensures.entry in
    let within = price_within plies extents (c.loop-i.i + 1) (length plies) (omega (arith, c.loop-i-test.true, c.len-i-end.ensures.len)) in
    omega (arith, c.meet_game.ensures.asks, c.loop-i.invariant.asks, next, within)

pub loop-i-init : goal.loop-i-init
loop-i-init g c =
    let boards = c.new-counts.result.boards.keys in
    let met = c.new-counts.result.met.items in
    record {
      kept = counts_none boards met c.new-counts.ensures.boards c.new-counts.ensures.met;
      counted = λ told list same holds. have_none c.args.reach.now c.args.filter.now list boards met c.new-counts.ensures.boards c.new-counts.ensures.met;
      unchanged = refl;
      asks = omega arith;
      counts = omega arith;
    }

pub loop-i-preserved : goal.loop-i-preserved
loop-i-preserved g c =
    let i = c.loop-i.i in
    let plies = c.args.filter.now in
    let next = price_next plies (g.G.Games.extents c.args.games.now) i c.get.result c.get.ensures.entry in
    record {
      kept = c.in-Ok.ensures.kept;
      counted = λ told list same holds.
          let told_now = ap (λ (s : Seen). s.games) c.loop-i.invariant.unchanged ∙ same in
          let game = some_at list i (omega (arith, holds.count, c.requires.games, c.len-i-end.ensures.len, c.loop-i-test.true)) in
          have_more c.args.reach.now plies list i c.get.result game.0 c.loop-i.counts.boards.keys c.loop-i.counts.met.items c.meet_game.new.counts.boards.keys
          c.meet_game.new.counts.met.items c.get.ensures.entry game.1 (c.loop-i.invariant.counted told list same holds)
          (c.in-Ok.ensures.met told list game.0 told_now holds game.1);
      unchanged = c.meet_game.ensures.unchanged ∙ c.loop-i.invariant.unchanged;
      asks = omega (arith, c.meet_game.ensures.asks, c.loop-i.invariant.asks, next);
      counts = omega (arith, c.loop-i.invariant.counts, c.meet_game.ensures.counts);
    }

pub returns-clause-boards : goal.returns-clause-boards
returns-clause-boards g c = λ told list same holds.
    let kept = c.loop-i.invariant.kept in
    let boards = c.loop-i.counts.boards.keys in
    let met = c.loop-i.counts.met.items in
    let all : c.loop-i.i ≡ length c.args.filter.now = omega (arith, c.loop-i-test.false, c.loop-i.auto.i-end, c.len-i-end.ensures.len) in
    boards_are c.args.reach.now c.args.filter.now list boards met c.in_ok-boards.boards.boards.keys c.in_ok-boards.boards.least kept.distinct kept.count
    (subst (λ (n : ℕ). HaveReached c.args.reach.now c.args.filter.now list n boards met) all (c.loop-i.invariant.counted told list same holds))
    c.in_ok-boards.ensures.boards c.in_ok-boards.ensures.few

pub returns-clause-least : goal.returns-clause-least
returns-clause-least g c = λ told list same holds.
    let kept = c.loop-i.invariant.kept in
    let boards = c.loop-i.counts.boards.keys in
    let met = c.loop-i.counts.met.items in
    let all : c.loop-i.i ≡ length c.args.filter.now = omega (arith, c.loop-i-test.false, c.loop-i.auto.i-end, c.len-i-end.ensures.len) in
    least_is c.args.reach.now c.args.filter.now list boards met c.in_ok-boards.boards.least kept.distinct kept.count
    (subst (λ (n : ℕ). HaveReached c.args.reach.now c.args.filter.now list n boards met) all (c.loop-i.invariant.counted told list same holds))
    c.in_ok-boards.ensures.asked c.in_ok-boards.ensures.few c.in_ok-boards.ensures.needed

pub returns-clause-start : goal.returns-clause-start
returns-clause-start g c =
    ap (λ (l : List Packed). slice_get l 0) c.in_ok-boards.ensures.boards
    ∙ head_stays c.args.reach.now.start (well_met c.loop-i.counts.boards.keys c.loop-i.counts.met.items c.in_ok-boards.boards.least)

pub returns-clause-few : goal.returns-clause-few
returns-clause-few g c = cut_short c.in_ok-boards.boards.boards.keys _ c.in_ok-boards.ensures.boards

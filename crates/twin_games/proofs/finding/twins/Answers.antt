use Rattle.std.proofs.Common.{◌≡◌, ◌≤◌, ℕ, ◌+◌, filter, length, refl, sym, ap, ◌∙◌, subst, arith}
use Rattle.std.specs.List.{range_with_len}
use Rattle.base_files.proofs.Rising.{raised-more, raised-none}
use Rattle.base_files.specs.Counters.{raised}
use Rattle.base_files.specs.Seen.{Seen}
use Rattle.twin_games.specs.Asking.{price_below}
use Rattle.twin_games.specs.Twins.{is_twin}
use Rattle.twin_games.proofs.ListLemmas.{listed_more, rises_more, rises_none}
use Rattle.twin_games.proofs.MeetLemmas.{none_met, price_with, price_within}
use Rattle.twin_games.proofs.finding.twins.Goals as goal

pub loop-i-init : goal.loop-i-init
loop-i-init g c = record {
  done = λ told list same holds. (c.new-twins.ensures.items, none_met (g.G.Games.heads c.args.games.now) list c.args.depth c.new-met.result c.new-met.ensures.empty);
  rises = rises_none c.new-twins.result.items c.new-twins.ensures.items;
  unchanged = refl;
  asks = omega arith;
  asked = raised-none (g.F.Files.asked c.args.files.now);
  counts = omega arith;
}

pub loop-i-preserved : goal.loop-i-preserved
loop-i-preserved g c =
    let heads = g.G.Games.heads c.args.games.now in
    let extents = g.G.Games.extents c.args.games.now in
    let i = c.loop-i.i in
    record {
      done = λ told list same holds.
          let told_now = ap (λ (s : Seen). s.games) c.loop-i.invariant.unchanged ∙ same in
          let before = c.loop-i.invariant.done told list same holds in (
            listed_more (is_twin heads list c.args.depth) c.loop-i.twins.items c.list_if.new.twins.items i c.in-Ok.twin before.0 c.in_ok-list_if.ensures
                (c.in-Ok.ensures.twin told list told_now holds before.1),
            c.in-Ok.ensures.met told list told_now holds before.1,
          );
      rises = rises_more c.loop-i.twins.items c.list_if.new.twins.items i c.in-Ok.twin c.in_ok-list_if.ensures c.loop-i.invariant.rises;
      unchanged = c.meet.ensures.unchanged ∙ c.loop-i.invariant.unchanged;
      asks = omega (arith, c.meet.ensures.asks, c.loop-i.invariant.asks, price_with heads extents i);
      asked = subst (λ (n : ℕ). raised (g.F.Files.asked c.args.files.now) n ≤ g.F.Files.asked c.meet.new.files) (sym (price_with heads extents i))
          (raised-more (g.F.Files.asked c.args.files.now) (g.F.Files.asked c.loop-i.files) (g.F.Files.asked c.meet.new.files) (price_below heads extents i) _ c.loop-i.invariant.asked c.in-Ok.ensures.asked);
      counts = omega (arith, c.loop-i.invariant.counts, c.meet.ensures.counts);
    }

pub returns-in-Err-clause-asks : goal.returns-in-Err-clause-asks
returns-in-Err-clause-asks g c =
    let heads = g.G.Games.heads c.args.games.now in
    let extents = g.G.Games.extents c.args.games.now in
    let i = c.loop-i.i in
    let within = price_within heads extents (i + 1) (omega (arith, c.len-i-end.ensures.one_head_each, c.loop-i-test.true)) in
    omega (arith, c.meet.ensures.asks, c.loop-i.invariant.asks, price_with heads extents i, within)

pub returns-in_err-list_if-clause-asks : goal.returns-in_err-list_if-clause-asks
returns-in_err-list_if-clause-asks g c =
    let heads = g.G.Games.heads c.args.games.now in
    let extents = g.G.Games.extents c.args.games.now in
    let i = c.loop-i.i in
    let within = price_within heads extents (i + 1) (omega (arith, c.len-i-end.ensures.one_head_each, c.loop-i-test.true)) in
    omega (arith, c.meet.ensures.asks, c.loop-i.invariant.asks, price_with heads extents i, within)

pub returns-clause-found : goal.returns-clause-found
returns-clause-found g c = λ told list same holds.
    let heads = g.G.Games.heads c.args.games.now in
    let all : c.loop-i.i ≡ length heads = omega (arith, c.len-i-end.ensures.one_head_each, c.loop-i-test.false, c.loop-i.auto.i-end) in
    (c.loop-i.invariant.done told list same holds).0 ∙ ap (λ (n : ℕ). filter (is_twin heads list c.args.depth) (range_with_len 0 n)) all

pub returns-clause-rising : goal.returns-clause-rising
returns-clause-rising g c = c.loop-i.invariant.rises.pairs

pub returns-clause-there : goal.returns-clause-there
returns-clause-there g c = λ k d less.
    omega (arith, c.loop-i.invariant.rises.below k d less, c.len-i-end.ensures.one_sig_each, c.loop-i.auto.i-end)

pub returns-clause-asks : goal.returns-clause-asks
returns-clause-asks g c =
    let heads = g.G.Games.heads c.args.games.now in
    let extents = g.G.Games.extents c.args.games.now in
    omega (arith, c.loop-i.invariant.asks, price_within heads extents c.loop-i.i (omega (arith, c.len-i-end.ensures.one_head_each, c.loop-i.auto.i-end)))

pub returns-clause-asked : goal.returns-clause-asked
returns-clause-asked g c =
    let heads = g.G.Games.heads c.args.games.now in
    let extents = g.G.Games.extents c.args.games.now in
    let all : c.loop-i.i ≡ length heads = omega (arith, c.len-i-end.ensures.one_head_each, c.loop-i-test.false, c.loop-i.auto.i-end) in
    subst (λ (n : ℕ). raised (g.F.Files.asked c.args.files.now) (price_below heads extents n) ≤ g.F.Files.asked c.loop-i.files) all c.loop-i.invariant.asked

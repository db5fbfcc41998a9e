use Rattle.std.proofs.Common.{◌<◌, ◌+◌, ◌∙◌, ap, length, arith}
use Rattle.base_files.specs.Seen.{Seen}
use Rattle.sig_index.proofs.ReadLemmas.{some_at}
use Rattle.pos_index.proofs.BuildLemmas.{adds-length, adds-short, asked_next, asked_within, rows_all, rows_next}
use Rattle.pos_index.proofs.building.read_places.Goals as goal

pub returns-in-Err-clause-asks : goal.returns-in-Err-clause-asks
returns-in-Err-clause-asks g c =
    let extents = g.G.Games.extents c.args.games.now in
    let i = c.loop-i.i in
    let within : i < length extents = omega (arith, c.len-i-end.ensures.one_extent_each, c.loop-i-test.true) in
    omega (arith, c.read_game.ensures.asks, c.loop-i.invariant.asks, asked_next extents i within, asked_within extents (i + 1))

pub loop-i-preserved : goal.loop-i-preserved
loop-i-preserved g c =
    let extents = g.G.Games.extents c.args.games.now in
    let i = c.loop-i.i in
    let within : i < length extents = omega (arith, c.len-i-end.ensures.one_extent_each, c.loop-i-test.true) in
    record {
      games = adds-length _ c.loop-i.places c.read_game.new.places c.in-Ok.ensures.short ∙ ap (λ n. n + 1) c.loop-i.invariant.games;
      short = adds-short _ c.loop-i.places c.read_game.new.places c.in-Ok.ensures.short c.loop-i.invariant.short;
      read = λ told list same holds.
          let told_now = ap (λ (s : Seen). s.games) c.loop-i.invariant.unchanged ∙ same in
          let game = some_at list i (omega (arith, holds.count, c.len-i-end.ensures.one_sig_each, c.loop-i-test.true)) in
          rows_next c.args.depth list i game.0 c.loop-i.places c.read_game.new.places game.1 (c.loop-i.invariant.read told list same holds)
          (c.in-Ok.ensures.read told list game.0 told_now holds game.1);
      unchanged = c.read_game.ensures.unchanged ∙ c.loop-i.invariant.unchanged;
      asks = omega (arith, c.read_game.ensures.asks, c.loop-i.invariant.asks, asked_next extents i within);
      counts = omega (arith, c.loop-i.invariant.counts, c.read_game.ensures.counts);
    }

pub returns-clause-read : goal.returns-clause-read
returns-clause-read g c = λ told list same holds.
    rows_all c.args.depth list c.loop-i.i c.loop-i.places (c.loop-i.invariant.read told list same holds)
    (omega (arith, holds.count, c.len-i-end.ensures.one_sig_each, c.loop-i-test.false, c.loop-i.auto.i-end))

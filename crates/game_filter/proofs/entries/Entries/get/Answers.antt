use Rattle.std.proofs.Common.{arith}
use Rattle.game_filter.proofs.EntryLaws.{entries-size, entry-in, entry-out}
use Rattle.game_filter.proofs.entries.Entries.get.Goals as goal

pub index-requires : goal.index-requires
index-requires c =
    let entries = c.self.inside in
    omega (arith, entries-size entries.inside.items entries.plies.items c.args.self.now c.self.view_is, c.requires.game, entries.plies.ok.0, c.self.invariant.1)

pub index-requires-then-has_bit : goal.index-requires-then-has_bit
index-requires-then-has_bit c =
    let entries = c.self.inside in
    omega (arith, entries-size entries.inside.items entries.plies.items c.args.self.now c.self.view_is, c.requires.game, entries.plies.ok.0)

pub returns-then-has_bit : goal.returns-then-has_bit
returns-then-has_bit c =
    let entries = c.self.inside in
    let size = entries-size entries.inside.items entries.plies.items c.args.self.now c.self.view_is in
    record {
      entry = entry-in entries.inside.items entries.plies.items c.args.self.now c.args.i c.index.result.now c.index-then-has_bit.result.now c.has_bit.result
          c.self.view_is (omega (arith, size, c.requires.game))
          (omega (arith, size, c.requires.game, entries.plies.ok.0, entries.inside.ok.0, c.self.invariant.1)) c.index.ensures c.has_bit.ensures c.if-has_bit.true
          c.index-then-has_bit.ensures;
    }

pub returns-else-has_bit : goal.returns-else-has_bit
returns-else-has_bit c =
    let entries = c.self.inside in
    let size = entries-size entries.inside.items entries.plies.items c.args.self.now c.self.view_is in
    record {
      entry = entry-out entries.inside.items entries.plies.items c.args.self.now c.args.i c.index.result.now c.has_bit.result c.self.view_is
          (omega (arith, size, c.requires.game))
          (omega (arith, size, c.requires.game, entries.plies.ok.0, entries.inside.ok.0, c.self.invariant.1)) c.index.ensures c.has_bit.ensures c.if-has_bit.false;
    }

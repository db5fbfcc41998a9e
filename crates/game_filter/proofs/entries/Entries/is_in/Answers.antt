use Rattle.std.proofs.Common.{arith}
use Rattle.game_filter.proofs.EntryLaws.{entries-size, entry-bit}
use Rattle.game_filter.proofs.entries.Entries.is_in.Goals as goal

pub index-requires : goal.index-requires
index-requires c =
    let entries = c.self.inside in
    omega (arith, entries-size entries.inside.items entries.plies.items c.args.self.now c.self.view_is, c.requires.game, entries.plies.ok.0, c.self.invariant.1)

pub returns : goal.returns
returns c =
    let entries = c.self.inside in
    let size = entries-size entries.inside.items entries.plies.items c.args.self.now c.self.view_is in
    record {
      is_in = entry-bit entries.inside.items entries.plies.items c.args.self.now c.args.i c.index.result.now c.has_bit.result c.self.view_is
          (omega (arith, size, c.requires.game)) (omega (arith, size, c.requires.game, entries.plies.ok.0, entries.inside.ok.0, c.self.invariant.1)) c.index.ensures
          c.has_bit.ensures;
    }

use Rattle.std.proofs.Common.{arith, ◌∙◌}
use Rattle.game_filter.proofs.EntryLaws.{entries-size, entry-put}
use Rattle.game_filter.proofs.entries.Entries.set.Goals as goal

pub index-requires : goal.index-requires
index-requires c =
    let entries = c.self.inside in
    omega (arith, entries-size entries.inside.items entries.plies.items c.args.self.now c.self.view_is, c.requires.game, entries.plies.ok.0, c.self.invariant.1)

pub index_mut-requires : goal.index_mut-requires
index_mut-requires c =
    let entries = c.self.inside in
    omega (arith, entries-size entries.inside.items entries.plies.items c.args.self.now c.self.view_is, c.requires.game, entries.plies.ok.0, c.self.invariant.1)

pub index_mut-requires-2 : goal.index_mut-requires-2
index_mut-requires-2 c =
    let entries = c.self.inside in
    omega (arith, entries-size entries.inside.items entries.plies.items c.args.self.now c.self.view_is, c.requires.game, entries.plies.ok.0)

pub returns : goal.returns
returns c =
    let entries = c.self.inside in
    let size = entries-size entries.inside.items entries.plies.items c.args.self.now c.self.view_is in
    record {
      changed = entry-put entries.inside.items entries.plies.items c.args.self.now c.args.i c.with_bit-word.result c.index.result.now c.unwrap_or.result c.args.ply
          c.self.view_is (omega (arith, size, c.requires.game))
          (omega (arith, size, c.requires.game, entries.plies.ok.0, entries.inside.ok.0, c.self.invariant.1)) c.index.ensures
          (c.with_bit-word.ensures.here ∙ c.is_some.ensures) c.with_bit-word.ensures.others c.unwrap_or.ensures;
    }

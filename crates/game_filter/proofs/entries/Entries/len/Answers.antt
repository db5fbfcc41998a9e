use Rattle.std.proofs.Common.{arith}
use Rattle.game_filter.proofs.EntryLaws.{entries-size}
use Rattle.game_filter.proofs.entries.Entries.len.Goals as goal

pub returns : goal.returns
returns c =
    let entries = c.self.inside in
    record {
      len = omega (arith, c.len.ensures, entries-size entries.inside.items entries.plies.items c.args.self.now c.self.view_is, entries.plies.ok.0);
    }

use Rattle.std.proofs.Common.{arith}
use Rattle.game_filter.proofs.EntryLaws.{entries-size}
use Rattle.game_filter.proofs.entries.Entries.take_over.Goals as goal

pub copy_from_slice-requires : goal.copy_from_slice-requires
copy_from_slice-requires c =
    let own = c.self.inside in
    let other = c.other.inside in
    omega (
      arith,
      c.as_mut_slice.ensures.len,
      c.as_slice.ensures.len,
      entries-size own.inside.items own.plies.items c.args.self.now c.self.view_is,
      entries-size other.inside.items other.plies.items c.args.other.now c.other.view_is,
      c.requires.same_games,
      own.plies.ok.0,
      other.plies.ok.0,
    )

use Rattle.std.proofs.Common.{List, length, ap, arith}
use Rattle.game_filter.proofs.Renumberings.{length-renumbered-le}
use Rattle.tree_live.specs.declared.entry.Entry.{Entry}
use Rattle.tree_live.proofs.GameLaws.{moved-sums}
use Rattle.tree_live.proofs.counting.Counting.move_games.Goals as goal

pub invariant_of-self : goal.invariant_of-self
invariant_of-self c =
    let to = c.args.renumbering.now.to in
    let games = c.self.inside.games in
    let is = c.self.view_is in
    let few = length-renumbered-le to games.items in
    let size = ap (λ (list : List Entry). length list) c.apply.ensures.stayed in (
      omega (arith, few, size, c.self.invariant.0, games.ok.0, c.apply.new.list.ok.0),
      moved-sums to games.items c.args.self.now c.apply.new.list.items c.self.inside.table is c.requires.out c.apply.ensures.stayed c.self.invariant.1,
    )

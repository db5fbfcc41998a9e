use Rattle.std.proofs.Common.{refl}
use Rattle.tree_live.proofs.GameLaws.{changed-games, on-ok}
use Rattle.tree_live.proofs.counting.Counting.set_game.Goals as goal

pub returns : goal.returns
returns c = record {
  games = on-ok c.change.result
      (changed-games c.args.self.now c.reach.new.self c.change.new.self c.args.i c.args.i c.args.game refl c.requires.game c.in_ok-reach.ensures.games)
      c.change.ensures.games;
}

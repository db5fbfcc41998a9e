use Rattle.std.proofs.Common.{rules}
use Rattle.pos_index.proofs.StandingLemmas.{gap_there}
use Rattle.pos_index.proofs.board_hits.BoardHits.skips.Goals as goal

pub returns-then-self-game : goal.returns-then-self-game
returns-then-self-game c = record {
  none = λ yes board rows all.
      gap_there board rows c.args.game c.self.inside.from c.self.inside.to c.self.inside.hits.now (search rules) (search rules) (search rules) (search (rules, all));
}

use Rattle.game_tree.proofs.SettleLemmas.{settled-IsBounded}
use Rattle.game_tree.proofs.settling.settle.Goals as goal

pub returns-clause-bounds : goal.returns-clause-bounds
returns-clause-bounds c = rw c.in_ok-settle_head.ensures.ok (settled-IsBounded c.args.head.now c.requires)

use Rattle.std.proofs.Common.{Option, subst}
use Rattle.std.specs.Prelude.{IfSome}
use Rattle.tree_rows.proofs.HitKeys.{keys-more}
use Rattle.tree_rows.specs.MoveText.{IsKey}
use Rattle.tree_rows.specs.declared.hit.GameHit.{GameHit}
use Rattle.search_commands.proofs.trees.add_met.Goals as goal

pub returns-in-Ok-clause-keys : goal.returns-in-Ok-clause-keys
returns-in-Ok-clause-keys g c = λ keys.
    let query = c.args.query.now in
    let counted = c.requires.counted in
    let K : Option GameHit → Type 0 = λ hit. IfSome hit (λ (found : GameHit). IsKey query.board query.side found.next) in
    keys-more (IsKey query.board query.side) counted.hits c.in-Ok-Some.hit c.args.rows.now c.add_hit.new.self counted.summed
    (c.in-Ok.ensures.rows counted.hits counted.summed) keys (subst K c.in-Ok-Some.field-0-is c.in-Ok-Some.ensures.key)

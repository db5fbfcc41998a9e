use Rattle.std.proofs.Common.{length, arith, rules}
use Rattle.block_store.proofs.Places.{placed_in_block, added_there}
use Rattle.block_store.proofs.store.Store.place.Goals as goal

pub returns-clause-in_block : goal.returns-clause-in_block
returns-clause-in_block g c =
    placed_in_block c.self.inside.end c.from-2.result (length c.args.bytes.now) c.saturating_add-end.result (search rules) c.requires.short (omega (arith, c.saturating_add-end.ensures, c.from.ensures, c.from-2.ensures, c.if-end-gt-LONGEST_FILE.false))

pub returns-clause-there : goal.returns-clause-there
returns-clause-there g c =
    added_there _ _ c.args.self.now c.padding-pad.result _ c.args.bytes.now c.in_ok-append_games.ensures.added c.requires.at_end.told (search rules)

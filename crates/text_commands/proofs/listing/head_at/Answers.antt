use Rattle.std.proofs.Common.{[]}
use Rattle.game_tree.specs.Head.{head_of}
use Rattle.text_commands.proofs.ListingLaws.{eco_bound}
use Rattle.text_commands.proofs.listing.head_at.Goals as goal

pub returns-clause-eco : goal.returns-clause-eco
returns-clause-eco c = eco_bound c.args.base.now c.args.i (head_of c.head.result []) c.requires.sound c.requires.there c.head.ensures.head

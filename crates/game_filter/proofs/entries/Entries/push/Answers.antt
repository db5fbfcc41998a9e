use Rattle.std.proofs.Common.{◌∙◌}
use Rattle.game_filter.proofs.EntryLaws.{last-set}
use Rattle.game_filter.proofs.entries.Entries.push.Goals as goal

pub returns-clause-added : goal.returns-clause-added
returns-clause-added c =
    c.set.ensures.changed ∙ last-set c.args.self.now c.add.new.self c.len-games.result c.args.ply c.in_ok-add.ensures.kept c.in_ok-add.ensures.one_more c.len-games.ensures.len

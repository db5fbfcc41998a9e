use Rattle.game_filter.proofs.EntryLaws.{entries-cut}
use Rattle.game_filter.proofs.entries.Entries.truncate.Goals as goal

pub returns : goal.returns
returns c =
    let entries = c.self.inside in
    record {
      cut = entries-cut entries.inside.items entries.plies.items c.truncate-2.new.self.items c.truncate.new.self.items c.args.self.now c.args.n c.word_count.result
          c.self.view_is c.word_count.ensures c.truncate-2.ensures.items c.truncate.ensures.items;
    }

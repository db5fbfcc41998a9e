use Rattle.game_filter.proofs.EntryLaws.{made}
use Rattle.game_filter.proofs.entries.Entries.all_in.Goals as goal

pub returns : goal.returns
returns c = record {
  all = made c.in_ok-inside.inside.items c.in_ok-plies.plies.items c.args.n c.word_count.result c.in_ok-plies.ensures c.in_ok-inside.ensures c.word_count.ensures;
}

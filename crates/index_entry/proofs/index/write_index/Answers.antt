-- What is written is read again.
use Rattle.index_entry.proofs.IndexLemmas.{read_again_at}
use Rattle.index_entry.proofs.index.write_index.Goals as goal

pub returns-clause-read_again : goal.returns-clause-read_again
returns-clause-read_again c =
    read_again_at (λ bytes. bytes.items) c.index_of.result c.args.head.now c.args.entries.now c.requires.head c.index_of.ensures.kind
    c.index_of.ensures.description c.index_of.ensures.custom c.requires.entries c.index_of.ensures.bytes

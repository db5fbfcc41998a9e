use Rattle.index_entry.proofs.HeaderLemmas.{cut-off, faulty-header}
use Rattle.index_entry.proofs.index.read_index.Goals as goal

pub returns-in-Err-clause-exact : goal.returns-in-Err-clause-exact
returns-in-Err-clause-exact c = faulty-header c.args.bytes.now c.in-Err.fault c.in-Err.ensures.exact

pub returns-then-bytes-head-clause-exact : goal.returns-then-bytes-head-clause-exact
returns-then-bytes-head-clause-exact c = cut-off c.args.bytes.now c.in-Ok.head c.in-Ok.ensures.exact c.if-bytes-head.true

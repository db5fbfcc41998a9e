-- The two laws, at what was read.
use Rattle.std.proofs.Common.{arith}
use Rattle.name_base.proofs.FileLemmas.{is_found, is_only}
use Rattle.name_base.proofs.reading.read_names.Goals as goal

pub returns-clause-found : goal.returns-clause-found
returns-clause-found c = is_found c.args.bytes.now c.read_file.result (λ i. omega (arith, c.type_inv.bytes i)) c.read_file.ensures

pub returns-clause-only : goal.returns-clause-only
returns-clause-only c lists file = is_only c.args.bytes.now c.read_file.result c.read_file.ensures lists file

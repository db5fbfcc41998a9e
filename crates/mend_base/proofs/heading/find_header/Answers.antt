use Rattle.std.proofs.Common.{sym}
use Rattle.index_entry.proofs.HeaderLemmas.{header-long}
use Rattle.mend_base.proofs.EntryLaws.{long-magic, long-version}
use Rattle.mend_base.proofs.heading.find_header.Goals as goal

pub header_that_fits-requires : goal.header_that_fits-requires
header_that_fits-requires c = record { long = long-magic c.args.index.now (rw c.in-Err-Magic.field-0-is at c.in-Err-Magic.ensures.exact) }

pub header_that_fits-requires-in-Err-Version : goal.header_that_fits-requires-in-Err-Version
header_that_fits-requires-in-Err-Version c = record { long = long-version c.args.index.now c.in-Err-Version.version (rw c.in-Err-Version.field-0-is at c.in-Err-Version.ensures.exact) }

pub returns-in-Ok-clause-long : goal.returns-in-Ok-clause-long
returns-in-Ok-clause-long c = header-long c.args.index.now c.in-Ok.header (sym c.in-Ok.ensures.exact)

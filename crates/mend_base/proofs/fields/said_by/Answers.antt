use Rattle.std.proofs.Common.{sym, subst}
use Rattle.index_entry.specs.Entry.{IsEntry}
use Rattle.mend_base.proofs.FieldLaws.{known-read, known-sound, no-fault, the-fault}
use Rattle.mend_base.proofs.fields.said_by.Goals as goal

pub returns-in-Ok-clause-entry : goal.returns-in-Ok-clause-entry
returns-in-Ok-clause-entry c = sym (known-read c.args.packed.now c.in-Ok.entry (sym c.in-Ok.ensures.exact))

pub returns-in-Ok-clause-fault : goal.returns-in-Ok-clause-fault
returns-in-Ok-clause-fault c = sym (no-fault c.args.packed.now c.in-Ok.entry (sym c.in-Ok.ensures.exact))

pub returns-in-Err-clause-fault : goal.returns-in-Err-clause-fault
returns-in-Err-clause-fault c = sym (the-fault c.args.packed.now c.in-Err.fault (sym c.in-Err.ensures.exact))

pub returns-in-Err-clause-fields : goal.returns-in-Err-clause-fields
returns-in-Err-clause-fields c = subst IsEntry (sym c.known_entry.ensures.known) (known-sound c.args.packed.now)

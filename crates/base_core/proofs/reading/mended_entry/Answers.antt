use Rattle.std.proofs.Common.{◌≤◌, sym, subst}
use Rattle.index_entry.specs.Entry.{IsEntry}
use Rattle.index_entry.specs.declared.entry.Entry.{Entry}
use Rattle.base_core.proofs.KeptLaws.{kept-IsEntry, kept-homes}
use Rattle.base_core.proofs.reading.mended_entry.Goals as goal

pub returns-clause-mended : goal.returns-clause-mended
returns-clause-mended c = (c.signed_by-signed.result.sig, (c.signed_by-signed.result.event_date, (c.signed_by-signed.ensures.signed, c.kept_entry.ensures.kept)))

pub returns-clause-fields : goal.returns-clause-fields
returns-clause-fields c =
    subst (λ (e : Entry). IsEntry e) (sym c.kept_entry.ensures.kept)
    (kept-IsEntry c.args.entry.now c.signed_by-signed.result.sig c.signed_by-signed.result.event_date c.requires.fields c.signed_by-signed.ensures.bounded c.signed_by-signed.ensures.event_date.0 c.signed_by-signed.ensures.event_date.1)

pub returns-clause-homes : goal.returns-clause-homes
returns-clause-homes c =
    subst (λ (e : Entry). e.home_count ≤ 16) (sym c.kept_entry.ensures.kept) (kept-homes c.args.entry.now c.signed_by-signed.result.sig c.signed_by-signed.result.event_date c.signed_by-signed.ensures.bounded.home_count)

use Rattle.std.proofs.Common.{◌≤◌, sym, subst, refl, inl}
use Rattle.index_entry.specs.Entry.{IsEntry}
use Rattle.index_entry.specs.declared.entry.Entry.{Entry}
use Rattle.base_core.proofs.KeptLaws.{kept-IsEntry, kept-homes}
use Rattle.base_core.proofs.reading.taken_entry.Goals as goal

pub returns-in_default-clause-fields : goal.returns-in_default-clause-fields
returns-in_default-clause-fields c =
    subst (λ (e : Entry). IsEntry e) (sym c.kept_entry.ensures.kept)
    (kept-IsEntry c.args.entry.now c.signed_by-signed.result.sig c.signed_by-signed.result.event_date c.requires.fields c.signed_by-signed.ensures.bounded c.signed_by-signed.ensures.event_date.0 c.signed_by-signed.ensures.event_date.1)

pub returns-in_default-clause-homes : goal.returns-in_default-clause-homes
returns-in_default-clause-homes c =
    subst (λ (e : Entry). e.home_count ≤ 16) (sym c.kept_entry.ensures.kept) (kept-homes c.args.entry.now c.signed_by-signed.result.sig c.signed_by-signed.result.event_date c.signed_by-signed.ensures.bounded.home_count)

pub returns-in-Err-clause-not_taken : goal.returns-in-Err-clause-not_taken
returns-in-Err-clause-not_taken c = inl (c.in-Err.fault, (c.in-Err.ensures.fault, refl))

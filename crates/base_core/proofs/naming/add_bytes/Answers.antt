use Rattle.std.proofs.Common.{◌≡◌, ℕ, Result, Err, refl, ap, ◌∙◌}
use Rattle.name_base.specs.declared.name_lists.AddError.{AddError}
use Rattle.name_base.specs.declared.name_lists.AddError.TheVariants.{Full}
use Rattle.name_base.specs.NameLists.{limit_of, of_kind}
use Rattle.base_core.proofs.NamingLaws.{added-at, full-more}
use Rattle.base_core.proofs.naming.add_bytes.Goals as goal

pub returns-in-Ok-clause-id : goal.returns-in-Ok-clause-id
returns-in-Ok-clause-id c = added-at c.args.kind c.args.names.now c.add-added.new.self c.args.name.now c.args.name.now c.in-Ok.id refl c.in-Ok.ensures.id c.in-Ok.ensures.names

pub returns-in-Err-Full-clause-why : goal.returns-in-Err-Full-clause-why
returns-in-Err-Full-clause-why c =
    let E : AddError → Result ℕ AddError = λ e. Err e in
    let full : c.in-Err-Full.field-0 ≡ Full = rw c.in-Err-Full.is at c.in-Err-Full.field-0-is in (
      c.names_of.ensures.what,
      full-more (of_kind c.args.kind c.args.names.now) c.args.name.now c.args.name.now (limit_of c.args.kind) refl (c.add-added.ensures.full.0 (c.in-Err-Full.is ∙ ap E full)),
    )

use Rattle.std.proofs.Common.{◌≡◌, List, ℕ, Result, Err, sym, ap, ◌∙◌, subst}
use Rattle.name_base.specs.declared.name_lists.AddError.{AddError}
use Rattle.name_base.specs.declared.name_lists.AddError.TheVariants.{Full}
use Rattle.name_base.specs.NameLists.{NameLists, of_kind, with_kind, with_name}
use Rattle.base_core.specs.Drafts.{AreNamesOf}
use Rattle.base_core.specs.Entries.{name_at}
use Rattle.base_core.proofs.AmongLaws.{among-with, not-full}
use Rattle.base_core.proofs.NamingLaws.{added-at}
use Rattle.base_core.proofs.taking.take_name.Goals as goal

pub unreachable-requires : goal.unreachable-requires
unreachable-requires c =
    let E : AddError → Result ℕ AddError = λ e. Err e in
    let full : c.in-Err-Full.field-0 ≡ Full = rw c.in-Err-Full.is at c.in-Err-Full.field-0-is in
    not-full c.args.kind c.args.names.now c.args.of.now c.name_of.result.now c.args.id c.requires.sound c.count-count.ensures.sound c.requires.among c.requires.below c.name_of.ensures.name
    (c.add-added.ensures.full.0 (c.in-Err-Full.is ∙ ap E full))

pub returns-in-Ok-clause-id : goal.returns-in-Ok-clause-id
returns-in-Ok-clause-id c =
    added-at c.args.kind c.args.names.now c.add-added.new.self c.name_of.result.now (name_at (of_kind c.args.kind c.args.of.now) c.args.id) c.in-Ok.own c.name_of.ensures.name c.in-Ok.ensures.id c.in-Ok.ensures.names

pub returns-in-Ok-clause-among : goal.returns-in-Ok-clause-among
returns-in-Ok-clause-among c =
    let W : List ℕ → NameLists = λ name. with_kind c.args.kind c.args.names.now (with_name (of_kind c.args.kind c.args.names.now) name) in
    let done : c.add-added.new.self ≡ W (name_at (of_kind c.args.kind c.args.of.now) c.args.id) = c.in-Ok.ensures.names ∙ ap W c.name_of.ensures.name in
    subst (λ (n : NameLists). AreNamesOf n c.args.of.now) (sym done) (among-with c.args.kind c.args.names.now c.args.of.now c.args.id c.requires.among c.requires.below)

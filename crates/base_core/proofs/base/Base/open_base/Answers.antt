use Rattle.std.proofs.Common.{ap, ◌∙◌, sym, subst}
use Rattle.base_files.specs.Seen.{Seen}
use Rattle.base_core.specs.Opening.{IfTold, Opens}
use Rattle.base_core.specs.Represents.{Kept}
use Rattle.base_core.proofs.OpenLaws.{created_told, within_so}
use Rattle.base_core.proofs.base.Base.open_base.Goals as goal

pub returns-then-is_created-clause-opens : goal.returns-then-is_created-clause-opens
returns-then-is_created-clause-opens g c =
    let K : Kept → Type 0 = λ kept. IfTold (g.F.Files.seen c.args.files.now) (λ index names games. Opens c.args.create c.args.strict index names games kept 0) in
    subst K (sym c.empty.ensures.empty)
    (created_told (g.F.Files.seen c.args.files.now) c.args.create c.args.strict c.in-Ok.loaded.index.items c.in-Ok.loaded.names.items c.in-Ok.loaded.end
    c.in-Ok.ensures.index c.in-Ok.ensures.names c.in-Ok.ensures.end (sym c.if-is_created.ensures.created))

pub returns-clause-within : goal.returns-clause-within
returns-clause-within g c =
    within_so c.open_loaded.result c.in-Ok.loaded.end _
    (sym (ap (λ (seen : Seen). seen.known) c.open_loaded.ensures.unchanged ∙ ap (λ (seen : Seen). seen.known) c.in-Ok.ensures.known))
    c.open_loaded.ensures.sound c.open_loaded.ensures.end

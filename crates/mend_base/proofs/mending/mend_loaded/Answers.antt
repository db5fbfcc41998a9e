use Rattle.std.proofs.Common.{refl}
use Rattle.name_base.specs.PartNames.{names_in_part}
use Rattle.mend_base.proofs.DeviceLaws.{on-err-any}
use Rattle.mend_base.proofs.MendLaws.{began-nothing}
use Rattle.mend_base.proofs.mending.mend_loaded.Goals as goal

pub returns-in-Err-clause-began : goal.returns-in-Err-clause-began
returns-in-Err-clause-began g c =
    began-nothing (g.F.Files.seen c.args.old.now).games c.args.way c.args.loaded.now.index.items (names_in_part c.args.loaded.now.names.items) (g.R.Report.told c.args.report.now) (g.R.Report.told c.args.report.now) refl

pub returns-in_err-names-clause-began : goal.returns-in_err-names-clause-began
returns-in_err-names-clause-began g c =
    on-err-any _ c.from_residual.result
    (began-nothing (g.F.Files.seen c.args.old.now).games c.args.way c.args.loaded.now.index.items (names_in_part c.args.loaded.now.names.items) (g.R.Report.told c.args.report.now) (g.R.Report.told c.args.report.now) refl)

use Rattle.std.proofs.Common.{List, ℕ, ◌++◌, ap, ◌∙◌}
use Rattle.base_files.specs.Seen.{Seen}
use Rattle.name_base.specs.PartNames.{names_in_part}
use Rattle.mend_base.specs.Entries.{head_found}
use Rattle.mend_base.specs.Loose.{front_notes_by, lengthened}
use Rattle.mend_base.specs.Notes.{all_notes, with_notes}
use Rattle.mend_base.proofs.DeviceLaws.{on-err-so}
use Rattle.mend_base.proofs.MendLaws.{began-longer, began-not}
use Rattle.mend_base.proofs.mending.mend_records.Goals as goal

pub returns-in-Err-clause-began : goal.returns-in-Err-clause-began
returns-in-Err-clause-began g c =
    let index = c.args.loaded.index.items in
    began-not (g.F.Files.seen c.args.old.now).games (λ (games : List ℕ). front_notes_by index (head_found index) ++ all_notes c.args.way (lengthened index games) (names_in_part c.args.loaded.names.items) games)
    (g.R.Report.told c.args.report.now) (g.R.Report.told c.tell_front.new.report) c.in-Err.ensures.not_told

pub returns-clause-began : goal.returns-clause-began
returns-clause-began g c =
    let index = c.args.loaded.index.items in
    let told = g.R.Report.told c.args.report.now in
    on-err-so _ _ c.mend_loaded.result
    (λ began. began-longer (g.F.Files.seen c.args.old.now).games (g.F.Files.seen c.lengthened.new.old).games (front_notes_by index (head_found index))
    (λ (x games : List ℕ). all_notes c.args.way x (names_in_part c.args.loaded.names.items) games) c.in-Ok.index.items (λ (games : List ℕ). lengthened index games) told (g.R.Report.told c.tell_front.new.report)
    (g.R.Report.told c.mend_loaded.new.report) (ap (λ (s : Seen). s.games) c.in-Ok.ensures.unchanged) c.in-Ok.ensures.index
    (c.in_default.ensures.told ∙ ap (λ (i : List ℕ). with_notes told (front_notes_by i (head_found i))) c.as_slice.ensures.value) began)
    c.mend_loaded.ensures.began

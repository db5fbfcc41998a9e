use Rattle.std.proofs.Common.{◌≡◌, ℕ, is_some, if◌then◌else◌, IfSome, take, ap}
use Rattle.base_files.specs.Seen.{Seen}
use Rattle.mend_base.specs.Finding.{Finds}
use Rattle.mend_base.specs.Keeping.{MendsNext}
use Rattle.mend_base.specs.declared.finding.Find.TheVariants as find
use Rattle.mend_base.proofs.DeviceLaws.{if-ok-so, stopped-weaker}
use Rattle.mend_base.proofs.EntryLaws.{found-there}
use Rattle.mend_base.proofs.MendLaws.{filled-told, kept-told, left-out-told}
use Rattle.mend_base.proofs.keeping.mend_game.Goals as goal

pub find_game-requires-clause-there : goal.find_game-requires-clause-there
find_game-requires-clause-there g c = found-there c.args.source.now.index.now c.args.game c.requires.there

pub returns-in-Err-keep_game-clause-why : goal.returns-in-Err-keep_game-clause-why
returns-in-Err-keep_game-clause-why g c =
    let way = c.args.source.now.way in
    let index = c.args.source.now.index.now in
    let names = c.args.source.now.names.now in
    let told = (g.F.Files.seen c.args.old.now).games in
    let found : Finds way index names told c.args.game c.find_game.new.buf (find.Whole c.in-Ok-Whole.kept c.in-Ok-Whole.change) = rw c.in-Ok-Whole.field-0-is at c.in-Ok-Whole.ensures.found in
    stopped-weaker _ _
    (λ what full. filled-told told c.args.game way index names (g.R.Report.told c.args.report.now) c.args.draft.now (g.N.Files.seen c.args.new.now).fresh (take c.in-Ok-Whole.kept.len c.find_game.new.buf) c.in-Ok-Whole.kept c.in-Ok-Whole.change what c.requires.there found full)
    c.in-Err-keep_game.error c.in-Err-keep_game.ensures.why

pub returns-in_default-clause-mended : goal.returns-in_default-clause-mended
returns-in_default-clause-mended g c =
    let way = c.args.source.now.way in
    let index = c.args.source.now.index.now in
    let names = c.args.source.now.names.now in
    let told = (g.F.Files.seen c.args.old.now).games in
    let kept = c.in-Ok-Whole.kept in
    let found : Finds way index names told c.args.game c.find_game.new.buf (find.Whole kept c.in-Ok-Whole.change) = rw c.in-Ok-Whole.field-0-is at c.in-Ok-Whole.ensures.found in
    let added = ap (λ (s : Seen). s.fresh) c.in_default.ensures.added in
    if-ok-so _ (λ (changed : ℕ). changed ≡ (if is_some c.in-Ok-Whole.change then 1 else 0)) _ c.tell_change.result
    (λ changed tells one. kept-told told c.args.game way index names (g.R.Report.told c.args.report.now) (g.R.Report.told c.tell_change.new.report) changed c.args.draft.now c.keep_game.new.draft (g.N.Files.seen c.args.new.now).fresh
    (g.N.Files.seen c.keep_game.new.new).fresh (take kept.len c.find_game.new.buf) kept c.in-Ok-Whole.change found c.in_default.ensures.taken c.in_default.ensures.grown c.in_default.ensures.names added tells one)
    c.tell_change.ensures.told c.tell_change.ensures.changed

pub returns-in_default-tell-clause-mended : goal.returns-in_default-tell-clause-mended
returns-in_default-tell-clause-mended g c =
    let way = c.args.source.now.way in
    let index = c.args.source.now.index.now in
    let names = c.args.source.now.names.now in
    let told = (g.F.Files.seen c.args.old.now).games in
    let found : Finds way index names told c.args.game c.find_game.new.buf (find.Broken c.in-Ok-Broken.fault) = rw c.in-Ok-Broken.field-0-is at c.in-Ok-Broken.ensures.found in
    left-out-told told c.args.game way index names (g.R.Report.told c.args.report.now) _ c.args.draft.now (g.N.Files.seen c.args.new.now).fresh c.in-Ok-Broken.fault found c.in_default-tell.ensures.told

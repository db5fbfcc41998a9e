use Rattle.std.proofs.Common.{rules, refl}
use Rattle.mend_base.specs.Notes.{notes_of_rest}
use Rattle.mend_base.proofs.MendLaws.{began-games, began-head, began-rest, mends-so}
use Rattle.mend_base.proofs.NoteLaws.{began-all, began-none}
use Rattle.mend_base.proofs.mending.mend_source.Goals as goal

pub returns-in-Err-clause-began : goal.returns-in-Err-clause-began
returns-in-Err-clause-began g c =
    began-head (g.F.Files.seen c.args.old.now).games c.args.source.now.way c.args.source.now.index.now c.args.source.now.names.now c.args.header.now c.requires.read (g.R.Report.told c.args.report.now) (g.R.Report.told c.tell_header.new.report) c.in-Err.ensures.began

pub returns-in-Err-mend_games-clause-began : goal.returns-in-Err-mend_games-clause-began
returns-in-Err-mend_games-clause-began g c =
    began-games (g.F.Files.seen c.args.old.now).games c.args.source.now.way c.args.source.now.index.now c.args.source.now.names.now c.args.header.now c.requires.read (g.R.Report.told c.args.report.now) (g.R.Report.told c.tell_header.new.report)
    (g.R.Report.told c.mend_games.new.report) c.in_default.ensures.told c.in-Err-mend_games.ensures.began

pub returns-in-Err-tell_rest-clause-began : goal.returns-in-Err-tell_rest-clause-began
returns-in-Err-tell_rest-clause-began g c =
    let told = g.R.Report.told c.mend_games.new.report in
    began-rest (g.F.Files.seen c.args.old.now).games c.args.source.now.way c.args.source.now.index.now c.args.source.now.names.now c.args.header.now c.requires.read (g.R.Report.told c.args.report.now) (g.R.Report.told c.tell_header.new.report) told
    (g.R.Report.told c.tell_rest.new.report) c.in-Ok.mended.1 c.in-Ok.mended.0 (g.N.Files.seen c.mend_games.new.new).fresh c.in_default.ensures.told c.in-Ok.ensures.mended
    (began-none (notes_of_rest c.args.source.now.way c.args.source.now.index.now c.args.header.now) told (g.R.Report.told c.tell_rest.new.report) c.in-Err-tell_rest.ensures.not_told)

pub returns-in-Err-put-clause-began : goal.returns-in-Err-put-clause-began
returns-in-Err-put-clause-began g c =
    let told = g.R.Report.told c.mend_games.new.report in
    began-rest (g.F.Files.seen c.args.old.now).games c.args.source.now.way c.args.source.now.index.now c.args.source.now.names.now c.args.header.now c.requires.read (g.R.Report.told c.args.report.now) (g.R.Report.told c.tell_header.new.report) told
    (g.R.Report.told c.tell_rest.new.report) c.in-Ok.mended.1 c.in-Ok.mended.0 (g.N.Files.seen c.mend_games.new.new).fresh c.in_default.ensures.told c.in-Ok.ensures.mended
    (began-all (notes_of_rest c.args.source.now.way c.args.source.now.index.now c.args.header.now) told (g.R.Report.told c.tell_rest.new.report) c.in_default-tell_rest.ensures.told)

pub returns-clause-mended : goal.returns-clause-mended
returns-clause-mended g c =
    let way = c.args.source.now.way in
    let index = c.args.source.now.index.now in
    mends-so (g.F.Files.seen c.args.old.now).games way index c.args.source.now.names.now (g.R.Report.told c.args.report.now) (g.R.Report.told c.tell_header.new.report) (g.R.Report.told c.mend_games.new.report)
    (g.R.Report.told c.tell_rest.new.report) c.in-Ok.mended.1 (g.N.Files.seen c.mend_games.new.new) (g.N.Files.seen c.put.new.new) c.args.header.now c.in-Ok.mended.0 _ c.requires.read
    (search rules) c.len-came.ensures.len refl c.in_default.ensures.told c.in-Ok.ensures.mended c.in_default-tell_rest.ensures.told c.in_default-put.ensures.means

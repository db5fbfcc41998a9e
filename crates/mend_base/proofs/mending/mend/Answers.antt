use Rattle.std.proofs.Common.{List, ℕ}
use Rattle.name_base.specs.PartNames.{names_in_part}
use Rattle.mend_base.specs.Loose.{told_of}
use Rattle.mend_base.proofs.MendLaws.{began-unread}
use Rattle.mend_base.proofs.mending.mend.Goals as goal

pub returns-in-Err-clause-began : goal.returns-in-Err-clause-began
returns-in-Err-clause-began g c =
    let seen = g.F.Files.seen c.args.old.now in
    began-unread (λ (index names games : List ℕ). told_of c.args.search c.args.faulty index (names_in_part names) games) seen.index seen.names seen.games (g.R.Report.told c.args.report.now)

use Rattle.std.proofs.Common.{◌≡◌, ℕ, rules, ap, ◌∙◌, subst, arith}
use Rattle.base_files.specs.Seen.{FreshAlone, Seen}
use Rattle.block_store.specs.Placing.{padding}
use Rattle.compact_base.proofs.CopyLaws.{copies-so, device-why, failed-so, none-changed, not-copied, same-copied}
use Rattle.compact_base.proofs.copying.copy_record.Goals as goal

pub returns-in-Err-clause-why : goal.returns-in-Err-clause-why
returns-in-Err-clause-why g c =
    not-copied c.args.base.now (g.F.Files.seen c.args.files.now).games c.args.i c.read_record.new.buf c.in-Err.unread c.record_error.result c.record_error.ensures.error c.in-Err.ensures.why

pub returns-in-Err-clause-same : goal.returns-in-Err-clause-same
returns-in-Err-clause-same g c = same-copied _ c.in-Err.unread c.record_error.result c.record_error.ensures.error c.in-Err.ensures.unchanged

pub returns-in-Err-clause-left : goal.returns-in-Err-clause-left
returns-in-Err-clause-left g c = none-changed (g.F.Files.seen c.args.files.now) (g.F.Files.seen c.read_record.new.files) c.read_record.ensures.same_files

pub returns-in-Err-clause-cause : goal.returns-in-Err-clause-cause
returns-in-Err-clause-cause g c = λ failed. c.in-Err.ensures.cause (failed-so c.in-Err.unread c.record_error.result c.record_error.ensures.error failed)

pub returns-in_err-append-clause-why : goal.returns-in_err-append-clause-why
returns-in_err-append-clause-why g c =
    let told = device-why c.args.base.now (g.F.Files.seen c.args.files.now).games c.read_record.new.buf c.in_err-append.field-0.0 c.in_err-append.ensures.device in
    search (rules, told)

pub returns-in_err-append-clause-left : goal.returns-in_err-append-clause-left
returns-in_err-append-clause-left g c =
    let told = subst (λ (s : Seen). FreshAlone s (g.F.Files.seen c.append.new.files)) c.read_record.ensures.same_files c.in_err-append.ensures.left in
    search (rules, told)

pub returns-clause-copied : goal.returns-clause-copied
returns-clause-copied g c =
    let long : c.padding-pad.result ≡ padding c.args.end c.in-Ok.read = c.padding-pad.ensures.padding ∙ ap (λ (n : ℕ). padding c.args.end n) c.from-len.ensures in
    copies-so c.args.i c.args.base.now c.args.end _ c.in-Ok.read c.padding-pad.result (g.F.Files.seen c.args.files.now) (g.F.Files.seen c.read_record.new.files) (g.F.Files.seen c.append.new.files) c.read_record.new.buf
    c.read_record.ensures.same_files (omega (arith, c.in-Ok.ensures.short, c.requires.room)) c.in-Ok.ensures.read c.in-Ok.ensures.still long c.in_ok-append.ensures.added (omega (arith, c.from.ensures, c.from-len.ensures))

use Rattle.compact_base.specs.Drafting.{Copies, CopiesIfKept}
use Rattle.compact_base.proofs.CopyLaws.{asks-so, goes-so, ok-so, stays-so}
use Rattle.compact_base.proofs.copying.copy_if_kept.Goals as goal

pub returns-then-is_deleted-clause-copied : goal.returns-then-is_deleted-clause-copied
returns-then-is_deleted-clause-copied g c = goes-so c.args.i c.args.base.now c.args.end (g.F.Files.seen c.args.files.now) c.if-is_deleted.ensures.deleted

pub returns-clause-copied : goal.returns-clause-copied
returns-clause-copied g c =
    let seen = g.F.Files.seen c.args.files.now in
    let later = g.F.Files.seen c.copy_record.new.files in
    ok-so (λ after. Copies c.args.i c.args.base.now c.args.end after seen later) (λ after. CopiesIfKept c.args.i c.args.base.now c.args.end after seen later) c.copy_record.result
    (λ after copies. stays-so c.args.i c.args.base.now c.args.end after seen later c.if-is_deleted.ensures.deleted copies) c.copy_record.ensures.copied

pub returns-clause-asks : goal.returns-clause-asks
returns-clause-asks g c = asks-so c.args.i c.args.base.now (g.F.Files.asked c.args.files.now) (g.F.Files.asked c.copy_record.new.files) c.if-is_deleted.ensures.deleted c.copy_record.ensures.asks

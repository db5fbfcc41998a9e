use Rattle.std.proofs.Common.{◌≡◌, length, IfSome}
use Rattle.base_files.specs.Counters.{Rose}
use Rattle.base_files.specs.Seen.{FreshAlone, committed}
use Rattle.base_core.specs.Base.{Base}
use Rattle.base_core.specs.Represents.{Represents}
use Rattle.compact_base.specs.declared.fault.CompactError.{CompactError}
use Rattle.compact_base.specs.declared.fault.CompactError.TheVariants as error
use Rattle.compact_base.specs.Compacting.{IfChanged, new_end}
use Rattle.compact_base.specs.Drafting.{IsDevice, IsWritten, WhyNotCopied}
use Rattle.compact_base.proofs.CopyLaws.{alone-then, copied-alone, device-same, device-why, err-so, on-err-so, on-ok-so, rose-later}
use Rattle.compact_base.proofs.RecordLaws.{copies-records}
use Rattle.compact_base.proofs.compacting.write_files.Goals as goal

pub returns-in-Ok-clause-written : goal.returns-in-Ok-clause-written
returns-in-Ok-clause-written g c =
    let old = g.F.Files.seen c.args.files.now in
    let mid = g.F.Files.seen c.copy_games.new.files in
    let new = g.F.Files.seen c.commit.new.files in
    on-ok-so (new ≡ committed c.args.names.now c.args.index.now mid) (IsWritten c.args.base.now c.args.names.now c.args.index.now old new) c.commit.result
    (λ is. record { copied_to = mid; copied = c.in-Ok.ensures.copied; put = is }) c.commit.ensures.committed

pub returns-in-Ok-clause-copied : goal.returns-in-Ok-clause-copied
returns-in-Ok-clause-copied g c =
    copies-records c.commit.result c.args.base.now c.args.index.now c.args.names.now (g.F.Files.seen c.args.files.now) (g.F.Files.seen c.copy_games.new.files) (g.F.Files.seen c.commit.new.files) c.in-Ok.ensures.records
    c.commit.ensures.committed

pub returns-in-Ok-clause-why : goal.returns-in-Ok-clause-why
returns-in-Ok-clause-why g c =
    err-so IsDevice (λ e. WhyNotCopied c.args.base.now (g.F.Files.seen c.args.files.now).games c.copy_games.new.buf e) c.commit.result
    (λ e is. device-why c.args.base.now (g.F.Files.seen c.args.files.now).games c.copy_games.new.buf e is) c.commit.ensures.device

pub returns-in-Ok-clause-same : goal.returns-in-Ok-clause-same
returns-in-Ok-clause-same g c =
    let Told : Type 0 = IfSome (g.F.Files.seen c.args.files.now).games (λ games. (plain : Base) → Represents c.args.base.now games plain → ⊥) in
    err-so IsDevice (λ e. IfChanged e Told) c.commit.result (λ e is. device-same Told e is) c.commit.ensures.device

pub returns-in-Ok-clause-left : goal.returns-in-Ok-clause-left
returns-in-Ok-clause-left g c =
    let old = g.F.Files.seen c.args.files.now in
    let mid = g.F.Files.seen c.copy_games.new.files in
    let new = g.F.Files.seen c.commit.new.files in
    on-err-so (FreshAlone mid new) (FreshAlone old new) c.commit.result
    (λ left. alone-then old mid new (copied-alone (length c.args.base.now.entries) c.args.base.now (new_end c.args.base.now.entries) old mid c.in-Ok.ensures.copied) left) c.commit.ensures.left

pub returns-in-Ok-clause-cause : goal.returns-in-Ok-clause-cause
returns-in-Ok-clause-cause g c =
    let first = g.F.Files.faults c.args.files.now in
    let before = g.F.Files.faults c.copy_games.new.files in
    let after = g.F.Files.faults c.commit.new.files in
    err-so (λ (e : CompactError). e ≡ error.Failed → Rose before after) (λ (e : CompactError). e ≡ error.Failed → Rose first after) c.commit.result
    (λ e rose failed. rose-later first before after c.copy_games.ensures.counts (rose failed)) c.commit.ensures.cause

use Rattle.std.proofs.Common.{Result, Err, ap}
use Rattle.base_files.specs.declared.faults.DeviceError.{DeviceError}
use Rattle.compact_base.proofs.CopyLaws.{cause-so, device-so, left-so}
use Rattle.compact_base.proofs.devices.commit.Goals as goal

pub returns-in-Err-clause-left : goal.returns-in-Err-clause-left
returns-in-Err-clause-left g c =
    let E : DeviceError → Result (Unit {0}) DeviceError = λ e. Err e in
    left-so c.in-Err.failed (g.F.Files.seen c.args.files.now) (g.F.Files.seen c.commit_new.new.self) (λ same. c.in-Err.ensures.fresh_alone (ap E same)) (λ same. c.in-Err.ensures.none_committed (ap E same))

pub returns-in-Err-clause-device : goal.returns-in-Err-clause-device
returns-in-Err-clause-device g c = device-so c.in-Err.failed c.from.result c.from.ensures

pub returns-in-Err-clause-cause : goal.returns-in-Err-clause-cause
returns-in-Err-clause-cause g c = cause-so c.in-Err.failed c.from.result (g.F.Files.faults c.args.files.now) (g.F.Files.faults c.commit_new.new.self) c.from.ensures c.in-Err.ensures.cause

use Rattle.std.proofs.Common.{ap, inl}
use Rattle.game_codec.specs.declared.fault.DecodeError.TheVariants.{Bad}
use Rattle.game_codec.proofs.RecordAnswerLaws.{fault-one, record-unbroken}
use Rattle.game_codec.proofs.decoding.why_unread.Goals as goal

pub returns-in-Some-clause-only : goal.returns-in-Some-clause-only
returns-in-Some-clause-only c = λ tags game r. absurd (record-unbroken c.args.bytes.now tags game c.in-Some.fault r c.in-Some.ensures.record_or_fault)

pub returns-in-Some-clause-first : goal.returns-in-Some-clause-first
returns-in-Some-clause-first c = λ fault broken. inl (ap Bad (fault-one c.args.bytes.now c.in-Some.fault fault c.in-Some.ensures.record_or_fault broken))

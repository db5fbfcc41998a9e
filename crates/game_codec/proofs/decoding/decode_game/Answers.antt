use Rattle.std.proofs.Common.{arith}
use Rattle.game_codec.proofs.DecodeLaws.{read-record, read-only, read-unbroken}
use Rattle.game_codec.proofs.ShortLaws.{record-short}
use Rattle.game_codec.proofs.AnswerLaws.{is-legal, are-tags}
use Rattle.game_codec.proofs.RecordAnswerLaws.{to_broken, to_spelled, was_read}
use Rattle.game_codec.proofs.decoding.decode_game.Goals as goal

pub returns-in-Ok-clause-found : goal.returns-in-Ok-clause-found
returns-in-Ok-clause-found c = was_read c.args.bytes.now c.in-Ok.read.tags.items c.in-Ok.read.game c.in-Ok.ensures.ok

pub returns-in-Ok-clause-only : goal.returns-in-Ok-clause-only
returns-in-Ok-clause-only c = λ tags game r. read-only c.args.bytes.now c.in-Ok.read.tags.items tags c.in-Ok.read.game game c.in-Ok.ensures.ok (to_spelled c.args.bytes.now tags game r)

pub returns-in-Ok-clause-first : goal.returns-in-Ok-clause-first
returns-in-Ok-clause-first c = λ fault is.
    let broken = to_broken c.args.bytes.now fault is in
    read-unbroken c.args.bytes.now c.in-Ok.read.tags.items c.in-Ok.read.game broken.rest fault.what c.in-Ok.ensures.ok broken.breaks

pub returns-in-Ok-clause-legal : goal.returns-in-Ok-clause-legal
returns-in-Ok-clause-legal c = is-legal c.args.bytes.now c.in-Ok.read.tags.items c.in-Ok.read.game (was_read c.args.bytes.now c.in-Ok.read.tags.items c.in-Ok.read.game c.in-Ok.ensures.ok)

pub returns-in-Ok-clause-short : goal.returns-in-Ok-clause-short
returns-in-Ok-clause-short c = record-short c.args.bytes.now c.in-Ok.read.tags.items c.in-Ok.read.game (read-record c.args.bytes.now c.in-Ok.read.tags.items c.in-Ok.read.game c.in-Ok.ensures.ok)

pub returns-in-Ok-clause-tags : goal.returns-in-Ok-clause-tags
returns-in-Ok-clause-tags c = are-tags c.args.bytes.now c.in-Ok.read.tags.items c.in-Ok.read.game (λ i. omega (arith, c.type_inv.bytes i)) (was_read c.args.bytes.now c.in-Ok.read.tags.items c.in-Ok.read.game c.in-Ok.ensures.ok)

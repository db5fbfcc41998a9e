use Rattle.std.proofs.Common.{codes, refl}
use Rattle.game_tree.specs.Date.{date_text}
use Rattle.game_codec.specs.TagParts.{tag_of}
use Rattle.game_codec.proofs.TagReadingLaws.{end-tag_at, next_tag-is}
use Rattle.game_codec.proofs.tags.tag_len.Goals as goal

pub returns-in-Ok-End-clause-ok : goal.returns-in-Ok-End-clause-ok
returns-in-Ok-End-clause-ok c = end-tag_at c.args.bytes.now (rw c.in-Ok-End.field-0-is at c.in-Ok-End.ensures.ok)

pub returns-in-Ok-Named-clause-ok : goal.returns-in-Ok-Named-clause-ok
returns-in-Ok-Named-clause-ok c =
    let read = rw c.in-Ok-Named.field-0-is at c.in-Ok-Named.ensures.ok in
    let tag = tag_of c.in-Ok-Named.field-0-0.now c.in-Ok-Named.field-0-1.now in
    let is = next_tag-is c.args.bytes.now tag tag c.in-Ok-Named.used refl read.0 read.1 c.in-Ok-Named.ensures.some in
    (tag, (is.0, (is.1, is.2)))

pub returns-in-Ok-Dated-clause-ok : goal.returns-in-Ok-Dated-clause-ok
returns-in-Ok-Dated-clause-ok c =
    let read = rw c.in-Ok-Dated.field-0-is at c.in-Ok-Dated.ensures.ok in
    let tag = tag_of (codes "EventDate") (date_text c.in-Ok-Dated.field-0-0) in
    let is = next_tag-is c.args.bytes.now tag tag 3 refl read.0 read.1 c.in-Ok-Dated.ensures.some in
    (tag, (is.0, (is.1, is.2)))

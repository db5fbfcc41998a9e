use Rattle.game_codec.proofs.TagReadingLaws.{end-tag_at, next_tag-is}
use Rattle.game_codec.proofs.tags.next_tag.Goals as goal

pub returns-in-Ok-End : goal.returns-in-Ok-End
returns-in-Ok-End c = record { ok = end-tag_at c.args.bytes.now (rw c.in-Ok-End.field-0-is at c.in-Ok-End.ensures.ok) }

pub returns-in_ok-tag_of-in-Ok-Named : goal.returns-in_ok-tag_of-in-Ok-Named
returns-in_ok-tag_of-in-Ok-Named c =
    let read = rw c.in-Ok-Named.field-0-is at c.in-Ok-Named.ensures.ok in
    record {
      ok = next_tag-is c.args.bytes.now _ _ c.in-Ok-Named.used
          c.in_ok-tag_of-in-Ok-Named.ensures.texts read.0 read.1 c.in-Ok-Named.ensures.some;
    }

pub returns-in_ok-tag_of-in-Ok-Dated : goal.returns-in_ok-tag_of-in-Ok-Dated
returns-in_ok-tag_of-in-Ok-Dated c =
    let read = rw c.in-Ok-Dated.field-0-is at c.in-Ok-Dated.ensures.ok in
    let texts = rw (c.as_slice.ensures, c.text.ensures.text) at c.in_ok-tag_of-in-Ok-Dated.ensures.texts in
    record { ok = next_tag-is c.args.bytes.now _ _ 3 texts read.0 read.1 c.in-Ok-Dated.ensures.some }

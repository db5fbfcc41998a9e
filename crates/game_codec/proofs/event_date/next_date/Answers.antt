use Rattle.std.proofs.Common.{List, ℕ, ap, codes, refl, ◌∙◌}
use Rattle.game_tree.specs.Date.{date_text}
use Rattle.game_tree.specs.Settle.{near_date}
use Rattle.game_codec.specs.TagParts.{tag_of}
use Rattle.game_codec.proofs.DateLaws.{broken_here, ends_here}
use Rattle.game_codec.proofs.TagReadingLaws.{next_tag-is}
use Rattle.game_codec.proofs.event_date.next_date.Goals as goal

pub returns-in-Ok-Named-clause-next : goal.returns-in-Ok-Named-clause-next
returns-in-Ok-Named-clause-next c =
    let read = rw c.in-Ok-Named.field-0-is at c.in-Ok-Named.ensures.ok in
    let tag = tag_of c.in-Ok-Named.name.now c.in-Ok-Named.value.now in
    let is = next_tag-is c.args.bytes.now tag tag c.in-Ok-Named.used refl read.0 read.1 c.in-Ok-Named.ensures.some in
    record { tag = tag; begins = is.0; some = is.1; fits = is.2; date_is = c.named_date.ensures.exact }

pub returns-in-Ok-Dated-clause-next : goal.returns-in-Ok-Dated-clause-next
returns-in-Ok-Dated-clause-next c =
    let read = rw c.in-Ok-Dated.field-0-is at c.in-Ok-Dated.ensures.ok in
    let tag = tag_of (codes "EventDate") (date_text c.in-Ok-Dated.date) in
    let is = next_tag-is c.args.bytes.now tag tag 3 refl read.0 read.1 c.in-Ok-Dated.ensures.some in
    record {
      tag = tag;
      begins = is.0;
      some = is.1;
      fits = is.2;
      date_is =
          c.named_date-in-Ok-Dated.ensures.exact
          ∙ ap (λ (v : List ℕ). near_date c.args.game (tag_of (codes "EventDate") v)) (c.as_slice.ensures ∙ c.text.ensures.text);
    }

pub returns-in-Ok-End-clause-next : goal.returns-in-Ok-End-clause-next
returns-in-Ok-End-clause-next c = ends_here c.args.bytes.now (rw c.in-Ok-End.field-0-is at c.in-Ok-End.ensures.ok)

pub returns-in-Err-clause-next : goal.returns-in-Err-clause-next
returns-in-Err-clause-next c = broken_here c.args.bytes.now c.in-Err.field-0 c.in-Err.ensures.err
